-- `reader_build::sent::iam3_response` meets its contract.
use mathlib.Core.Path.{refl}
use Rattle.field.proofs.Arrays.{array_length}
use Rattle.reader_build.proofs.Sending.{response_laid}
use Rattle.reader_build.proofs.sent.iam3_response.Goals as goal

pub returns : goal.returns
returns c = response_laid c.args.keys c.args.mode c.args.a c.args.p.now
    (array_length 16 c.args.a _ c.well_formed.1.1.0) c.requires.1 c.args.room.now c.requires.0
    c.requires.2 _ _ _ _ refl
    c.sent_data.ensures c.mac_behind.ensures
