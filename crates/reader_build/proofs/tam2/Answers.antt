-- `reader_build::tam2` meets its contract.
use native.Mathlib.Omega.{arith}
use Rattle.field.proofs.Arrays.{array_length}
use Rattle.frames.proofs.Shape.{tam2_shape}
use Rattle.reader_build.specs.Builds.{tam2_made}
use Rattle.ground.proofs.Told.{said}
use Rattle.reader_build.proofs.Making.{let_in, built, select_fit}
use Rattle.reader_build.proofs.tam2.Goals as goal

pub returns : goal.returns
unfolding tam2_made
returns c =
    let asked = let_in _ _ _ _ c.taken.ensures c.in_ok-taken.was in
    built _ _ _ _ _ _ _ _ asked.1
    (select_fit c.args.keys c.args.protmode c.args.custom (said c.mode_fits.ensures asked.0))
    (tam2_shape _ (array_length 10 c.args.ichallenge _ c.well_formed.1.1.0) (omega arith)).0 (omega arith)
    c.tam2_into.ensures c.ok_or.ensures.value
