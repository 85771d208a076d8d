use mathlib.Core.Path.{ap}
use Rattle.aes.specs.AesEnc.{aes_enc}
use Rattle.modes.specs.Blocks.{whole_blocks, joined}
use Rattle.modes.specs.Cbc.{cbc_dec_aes}
use Rattle.modes.proofs.Rooms.{renamed}
use Rattle.modes.proofs.Forms.{dec_outputs}
use Rattle.modes.proofs.cbc_dec_aes.Goals as goal

pub returns : goal.returns
unfolding cbc_dec_aes
returns c =
    let a = c.args in
    renamed (ap joined (dec_outputs aes_enc a.key (whole_blocks a.input.now) a.iv)) c.chain_into.ensures
