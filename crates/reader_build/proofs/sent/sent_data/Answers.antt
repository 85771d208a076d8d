-- `reader_build::sent::sent_data` meets its contract.
use Rattle.reader_build.proofs.Sending.{data_chained, data_plain}
use Rattle.reader_build.proofs.sent.sent_data.Goals as goal

pub returns-then-encrypts : goal.returns-then-encrypts
returns-then-encrypts c =
    data_chained c.args.mode _ c.args.enc c.args.a c.args.p.now c.args.room.now c.encrypts.ensures _ _
    c.if-encrypts.true c.requires.0 c.requires.1 c.cbc_enc_aes_inv.ensures

pub returns : goal.returns
returns c =
    data_plain c.args.mode _ c.args.enc c.args.a c.args.p.now c.args.room.now c.encrypts.ensures _
    c.if-encrypts.false c.copy_from_slice.ensures.after
