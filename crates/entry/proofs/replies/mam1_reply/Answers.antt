-- `entry::replies::mam1_reply` meets its contract.
use Rattle.field.proofs.Arrays.{array_length}
use Rattle.entry.proofs.Mam1Reply.{mam1_made_lem}
use Rattle.entry.proofs.replies.mam1_reply.Goals as goal

pub returns : goal.returns
returns c = mam1_made_lem c.args.key c.args.m c.args.draws _ _ _ _ (array_length 10 c.args.draws _ c.well_formed.1.1.0)
    c.mam1_constant.ensures c.block_of-block.ensures c.encrypt.ensures c.with_clear.ensures
