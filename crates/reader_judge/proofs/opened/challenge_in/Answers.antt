-- `reader_judge::opened::challenge_in` meets its contract.
use Rattle.field.proofs.Arrays.{array_length}
use Rattle.reader_judge.proofs.Places.{challenge_made}
use Rattle.reader_judge.proofs.opened.challenge_in.Goals as goal

pub returns : goal.returns
returns c = challenge_made c.args.b c.args.reply.now (array_length 16 c.args.b _ c.well_formed.0) c.requires
