use Rattle.aes.specs.AesEnc.{aes_enc}
use Rattle.aes.proofs.encrypt.Goals as goal

pub returns : goal.returns
unfolding aes_enc
returns c = cc
