use mathlib.Core.Path.{ap}
use Rattle.aes_inverse.specs.AesDec.{aes_dec}
use Rattle.modes.specs.Blocks.{whole_blocks, joined}
use Rattle.modes.proofs.Rooms.{renamed}
use Rattle.modes.proofs.Forms.{enc_outputs}
use Rattle.modes_inverse.specs.CbcInv.{cbc_enc_aes_inv}
use Rattle.modes_inverse.proofs.cbc_enc_aes_inv.Goals as goal

pub returns : goal.returns
unfolding cbc_enc_aes_inv
returns c =
    let a = c.args in
    renamed (ap joined (enc_outputs aes_dec a.key (whole_blocks a.input.now) a.iv)) c.chain_into.ensures
