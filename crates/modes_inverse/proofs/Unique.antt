-- No second answer fits the contracts of this crate's exported functions: neither another answer nor another byte in
-- the room.
use mathlib.Core.Path.{refl}
use Rattle.ground.specs.OneAnswer.{OneAnswer, one, ◌&◌}
use Rattle.modes_inverse.proofs.cbc_dec_aes_inv.Reads as cbc-dec-aes-inv
use Rattle.modes_inverse.proofs.cbc_dec_aes_inv.Kinds as cbc-dec-aes-inv-kinds
use Rattle.modes_inverse.proofs.cbc_enc_aes_inv.Reads as cbc-enc-aes-inv
use Rattle.modes_inverse.proofs.cbc_enc_aes_inv.Kinds as cbc-enc-aes-inv-kinds

pub cbc_dec_aes_inv_one : OneAnswer 2 cbc-dec-aes-inv-kinds.ps cbc-dec-aes-inv-kinds.r cbc-dec-aes-inv.Post
cbc_dec_aes_inv_one κs a x y v w p q =
    (one p.says q.says, refl & refl & refl & one p.leaves q.leaves & refl)

pub cbc_enc_aes_inv_one : OneAnswer 2 cbc-enc-aes-inv-kinds.ps cbc-enc-aes-inv-kinds.r cbc-enc-aes-inv.Post
cbc_enc_aes_inv_one κs a x y v w p q =
    (one p.says q.says, refl & refl & refl & one p.leaves q.leaves & refl)
