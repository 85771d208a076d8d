use mathlib.Core.Path.{ap}
use Rattle.aes.specs.AesEnc.{aes_enc}
use Rattle.modes.specs.Blocks.{whole_blocks, joined}
use Rattle.modes.specs.Cbc.{cbc_enc_aes}
use Rattle.modes.proofs.Rooms.{renamed}
use Rattle.modes.proofs.Forms.{enc_outputs}
use Rattle.modes.proofs.cbc_enc_aes.Goals as goal

pub returns : goal.returns
unfolding cbc_enc_aes
returns c =
    let a = c.args in
    renamed (ap joined (enc_outputs aes_enc a.key (whole_blocks a.input.now) a.iv)) c.chain_into.ensures
