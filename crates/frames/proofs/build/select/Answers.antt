-- `frames::build::select` meets its contract.
use mathlib.Core.Path.{refl}
use native.Mathlib.Omega.{arith}
use Rattle.frames.specs.Fields.{select_bytes}
use Rattle.frames.proofs.Range.{select_range, custom_range}
use Rattle.frames.proofs.build.select.Goals as goal

pub overflow_mul-result : goal.overflow_mul-result
overflow_mul-result c = let q = select_range 0 c.args.custom c.args.protmode c.requires in let r =
    custom_range c.args.custom q.custom in omega arith

pub overflow_add-result : goal.overflow_add-result
overflow_add-result c = let q = select_range 0 c.args.custom c.args.protmode c.requires in let r =
    custom_range c.args.custom q.custom in omega arith

pub overflow_mul-result-2 : goal.overflow_mul-result-2
overflow_mul-result-2 c = let q =
    select_range 0 c.args.custom c.args.protmode c.requires in let r =
    custom_range c.args.custom q.custom in omega arith

pub overflow_add-result-2 : goal.overflow_add-result-2
overflow_add-result-2 c = let q =
    select_range 0 c.args.custom c.args.protmode c.requires in let r =
    custom_range c.args.custom q.custom in omega arith

pub returns : goal.returns
unfolding select_bytes
returns c = refl
