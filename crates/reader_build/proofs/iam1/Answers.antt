-- `reader_build::iam1` meets its contract.
use mathlib.Core.Bool.{true}
use mathlib.Core.Path.{refl}
use native.Mathlib.Omega.{arith}
use Rattle.reader_build.specs.Builds.{iam1_made}
use Rattle.frames.proofs.Shape.{iam1_shape}
use Rattle.reader_build.proofs.Making.{let_in, built}
use Rattle.reader_build.proofs.iam1.Goals as goal

pub returns : goal.returns
unfolding iam1_made
returns c = built _ _ _ _ _ _ _ _ (let_in true _ _ _ c.taken.ensures c.in_ok-taken.was).1 refl
    (iam1_shape _ (omega arith)).0 (omega arith) c.iam1_into.ensures c.ok_or.ensures.value
