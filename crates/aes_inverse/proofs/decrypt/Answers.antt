use Rattle.aes_inverse.specs.AesDec.{aes_dec}
use Rattle.aes_inverse.proofs.decrypt.Goals as goal

pub returns : goal.returns
unfolding aes_dec
returns c = cc
