-- No second answer fits the contract of this crate's exported function.
use mathlib.Core.Path.{refl}
use Rattle.ground.specs.OneAnswer.{OneAnswer, one}
use Rattle.aes_inverse.proofs.decrypt.Reads as decrypt
use Rattle.aes_inverse.proofs.decrypt.Kinds as decrypt-kinds

pub decrypt_one : OneAnswer 0 decrypt-kinds.ps decrypt-kinds.r decrypt.Post
decrypt_one κs a x y v w p q = (one p q, refl)
