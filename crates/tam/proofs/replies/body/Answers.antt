-- `tam::replies::body` meets its contract.
use Rattle.tam.proofs.Tam2Made.{body_chained, body_plain}
use Rattle.tam.proofs.replies.body.Goals as goal

pub returns-then-encrypts : goal.returns-then-encrypts
returns-then-encrypts c = body_chained c.args.mode _ c.args.enc c.args.a c.args.p.now c.args.room.now
    c.encrypts.ensures _ _ c.if-encrypts.true c.requires.0 c.requires.1 c.cbc_enc_aes.ensures

pub returns-else-encrypts : goal.returns-else-encrypts
returns-else-encrypts c = body_plain c.args.mode _ c.args.enc c.args.a c.args.p.now c.args.room.now
    c.encrypts.ensures _ c.if-encrypts.false c.copy_from_slice.ensures.after
