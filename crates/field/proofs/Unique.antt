-- No second answer fits the contracts of this crate's exported functions.
use mathlib.Core.Path.{refl}
use Rattle.ground.specs.OneAnswer.{OneAnswer, OneLent, one}
use Rattle.field.proofs.sbox_table.Reads as sbox-table
use Rattle.field.proofs.sbox_table.Kinds as sbox-table-kinds
use Rattle.field.proofs.substitute.Reads as substitute
use Rattle.field.proofs.substitute.Kinds as substitute-kinds
use Rattle.field.proofs.first_block.Reads as First-Block
use Rattle.field.proofs.first_block.Kinds as first-block-kinds
use Rattle.field.proofs.xor.Reads as xor
use Rattle.field.proofs.xor.Kinds as xor-kinds
use Rattle.field.proofs.times2.Reads as times2
use Rattle.field.proofs.times2.Kinds as times2-kinds

pub sbox_table_one : OneLent 1 sbox-table-kinds.ps 0 tt sbox-table.Post
sbox_table_one κs a x y v w p q = (one p q, refl)

pub substitute_one : OneAnswer 1 substitute-kinds.ps substitute-kinds.r substitute.Post
substitute_one κs a x y v w p q = (one p q, refl)

pub first_block_one : OneAnswer 1 first-block-kinds.ps first-block-kinds.r First-Block.Post
first_block_one κs a x y v w p q = (one p q, refl)

pub xor_one : OneAnswer 0 xor-kinds.ps xor-kinds.r xor.Post
xor_one κs a x y v w p q = (one p q, refl)

pub times2_one : OneAnswer 0 times2-kinds.ps times2-kinds.r times2.Post
times2_one κs a x y v w p q = (one p q, refl)
