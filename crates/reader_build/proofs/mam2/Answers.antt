-- `reader_build::mam2` meets its contract.
use mathlib.Core.Path.{sym}
use native.Mathlib.Omega.{arith}
use Rattle.field.proofs.Arrays.{array_length}
use Rattle.frames.proofs.Shape.{mam2_shape}
use Rattle.payload.proofs.Bytes.{last_four}
use Rattle.reader_build.specs.Builds.{purpose_fits}
use Rattle.reader_build.proofs.Responses.{mam2_sent}
use Rattle.reader_build.proofs.Making.{let_in, built, in_words}
use Rattle.reader_build.proofs.mam2.Goals as goal

pub returns : goal.returns
unfolding purpose_fits
returns c =
    let asked = let_in _ _ _ _ c.taken.ensures c.in_ok-taken.was in
    in_words _ _ _ _ _ _ (mam2_sent c.args.keys c.args.purpose c.args.tchallenge _ _ c.args.ichallenge _
    c.mam2_constant.ensures
    (last_four c.args.ichallenge (array_length 10 c.args.ichallenge _ c.well_formed.1.1.0))
    c.response-iresponse.ensures)
    (built _ _ _ _ _ _ _ _ asked.1 (sym asked.0)
    (mam2_shape _ (array_length 16 c.response-iresponse.result _
    c.response-iresponse.type_inv) (omega arith)).0 (omega arith)
    c.mam2_into.ensures c.ok_or.ensures.value)
