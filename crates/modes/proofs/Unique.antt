-- No second answer fits the contracts of this crate's exported functions: neither another answer nor another byte in
-- the room.
use mathlib.Core.Path.{refl}
use Rattle.ground.specs.OneAnswer.{OneAnswer, one, ◌&◌}
use Rattle.modes.proofs.U8FromChainingFault.from.Reads as fault-number
use Rattle.modes.proofs.U8FromChainingFault.from.Kinds as fault-number-kinds
use Rattle.modes.proofs.number.Reads as number
use Rattle.modes.proofs.number.Kinds as number-kinds
use Rattle.modes.proofs.takes.Reads as takes
use Rattle.modes.proofs.takes.Kinds as takes-kinds
use Rattle.modes.proofs.chain_into.Reads as chain-into
use Rattle.modes.proofs.chain_into.Kinds as chain-into-kinds
use Rattle.modes.proofs.cbc_enc_aes.Reads as cbc-enc-aes
use Rattle.modes.proofs.cbc_enc_aes.Kinds as cbc-enc-aes-kinds
use Rattle.modes.proofs.cbc_dec_aes.Reads as cbc-dec-aes
use Rattle.modes.proofs.cbc_dec_aes.Kinds as cbc-dec-aes-kinds
use Rattle.modes.proofs.cmac_96.Reads as cmac-96
use Rattle.modes.proofs.cmac_96.Kinds as cmac-96-kinds

pub fault_number_one : OneAnswer 0 fault-number-kinds.ps fault-number-kinds.r fault-number.Post
fault_number_one κs a x y v w p q = (one p q, refl)

pub number_one : OneAnswer 0 number-kinds.ps number-kinds.r number.Post
number_one κs a x y v w p q = (one p q, refl)

pub takes_one : OneAnswer 0 takes-kinds.ps takes-kinds.r takes.Post
takes_one κs a x y v w p q = (one p q, refl)

pub cbc_enc_aes_one : OneAnswer 2 cbc-enc-aes-kinds.ps cbc-enc-aes-kinds.r cbc-enc-aes.Post
cbc_enc_aes_one κs a x y v w p q = (one p.says q.says, refl & refl & refl & one p.leaves q.leaves & refl)

pub cbc_dec_aes_one : OneAnswer 2 cbc-dec-aes-kinds.ps cbc-dec-aes-kinds.r cbc-dec-aes.Post
cbc_dec_aes_one κs a x y v w p q = (one p.says q.says, refl & refl & refl & one p.leaves q.leaves & refl)

pub cmac_96_one : OneAnswer 2 cmac-96-kinds.ps cmac-96-kinds.r cmac-96.Post
cmac_96_one κs a x y v w p q = (one p.says q.says, refl & refl & one p.leaves q.leaves & refl)

pub chain_into_one : (T : _) (L : _) (G : _) (D : _)
    → OneAnswer 3 (chain-into-kinds.ps T L) (chain-into-kinds.r T L) (chain-into.Post T L G D)
chain_into_one T L G D κs a x y v w p q = (one p.says q.says, refl & refl & refl & one p.leaves q.leaves & refl)
