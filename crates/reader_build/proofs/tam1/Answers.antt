-- `reader_build::tam1` meets its contract.
use mathlib.Core.Bool.{true}
use mathlib.Core.Path.{refl}
use native.Mathlib.Omega.{arith}
use Rattle.field.proofs.Arrays.{array_length}
use Rattle.frames.proofs.Shape.{tam1_shape}
use Rattle.reader_build.specs.Builds.{tam1_made}
use Rattle.reader_build.proofs.Making.{let_in, built}
use Rattle.reader_build.proofs.tam1.Goals as goal

pub returns : goal.returns
unfolding tam1_made
returns c = built _ _ _ _ _ _ _ _ (let_in true _ _ _ c.taken.ensures c.in_ok-taken.was).1 refl
    (tam1_shape _ (array_length 10 c.args.ichallenge _ c.well_formed.1.0) (omega arith)).0 (omega arith)
    c.tam1_into.ensures c.ok_or.ensures.value
