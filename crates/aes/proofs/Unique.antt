-- No second answer fits the contracts of this crate's exported functions.
use mathlib.Core.Path.{refl}
use Rattle.ground.specs.OneAnswer.{OneAnswer, one}
use Rattle.aes.proofs.encrypt.Reads as encrypt
use Rattle.aes.proofs.encrypt.Kinds as encrypt-kinds
use Rattle.aes.proofs.key_expansion.Reads as key-expansion
use Rattle.aes.proofs.key_expansion.Kinds as key-expansion-kinds
use Rattle.aes.proofs.mix_columns.Reads as mix-columns
use Rattle.aes.proofs.mix_columns.Kinds as mix-columns-kinds

pub encrypt_one : OneAnswer 0 encrypt-kinds.ps encrypt-kinds.r encrypt.Post
encrypt_one κs a x y v w p q = (one p q, refl)

pub key_expansion_one : OneAnswer 0 key-expansion-kinds.ps key-expansion-kinds.r key-expansion.Post
key_expansion_one κs a x y v w p q = (one p q, refl)

pub mix_columns_one : OneAnswer 0 mix-columns-kinds.ps mix-columns-kinds.r mix-columns.Post
mix_columns_one κs a x y v w p q = (one p q, refl)
