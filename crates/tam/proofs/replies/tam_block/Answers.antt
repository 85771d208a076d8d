-- `tam::replies::tam_block` meets its contract.
use Rattle.field.proofs.Arrays.{array_length}
use Rattle.tam.proofs.Listed.{tam_block_made}
use Rattle.tam.proofs.replies.tam_block.Goals as goal

pub returns : goal.returns
returns c = tam_block_made c.args.enc c.args.constant c.args.draws c.args.ichallenge _ _
    (array_length 10 c.args.draws _ c.well_formed.1.1.0) c.block_of.ensures c.encrypt.ensures
