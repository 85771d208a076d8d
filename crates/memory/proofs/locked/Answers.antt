-- `memory::locked` meets its contract.
use mathlib.Core.Path.{◌≡◌, ◌∙◌, ap}
use Prim.Native.Nat.{ℕ, min}
use native.Mathlib.Omega.{arith}
use lib.ListN.{length, take}
use Rattle.std.proofs.Common.{rules, tests}
use Rattle.std.proofs.lemmas.Iterator.{YieldsList-from_slice}
use Rattle.std.proofs.lemmas.Iterator.Search.{any_from_yields_List}
use Rattle.std.proofs.lemmas.List.{take_min}
use Rattle.memory.specs.Rights.{meets, meets_any, some_locked}
use Rattle.memory.proofs.Locks.{any_meets}
use Rattle.memory.proofs.locked.Goals as goal

pub returns : goal.returns
unfolding some_locked
returns c =
    let used : c.min.result ≡ min c.args.used (length c.args.locks) = omega (arith, c.well_formed.0.1.0.1) in
    any_from_yields_List (meets c.args.block) _ _ c.any.result c.any.ensures.ran
    (YieldsList-from_slice (take c.min.result c.args.locks) cc) (λ x b q k. search (rules, tests))
    ∙ any_meets c.args.block (take c.min.result c.args.locks)
    ∙ ap (meets_any c.args.block) (ap (λ (n : ℕ). take n c.args.locks) used ∙ take_min c.args.used c.args.locks)
