-- The constants of Table 1 (document 003): what the block of an authentication starts with.
use Rattle.std.specs.Prelude.{ℕ, ◌+◌, ◌*◌, ◌/◌, ◌%◌, Bool, true, false, List, [], ◌∷◌}
use Rattle.frames.specs.declared.ProtMode.{ProtMode}
use Rattle.frames.specs.declared.ProtMode.TheVariants.{Plaintext, Cbc, Cmac, CbcCmac}

-- 16 bits
abbrev pub c_tam1 : ℕ
c_tam1 = 0x96C5

abbrev pub c_tam2 : ℕ
c_tam2 = 0x96C5

abbrev pub c_tam2_0 : ℕ
c_tam2_0 = 0x96C0

abbrev pub c_tam2_1 : ℕ
c_tam2_1 = 0x96C1

abbrev pub c_tam2_2 : ℕ
c_tam2_2 = 0x96C2

abbrev pub c_tam2_3 : ℕ
c_tam2_3 = 0x96C3

abbrev pub c_mam1 : ℕ
c_mam1 = 0xDA83

-- 12 bits
abbrev pub c_mam2 : ℕ
c_mam2 = 0xDA8

abbrev pub c_iam2 : ℕ
c_iam2 = 0xDA8

abbrev pub c_iam3_0 : ℕ
c_iam3_0 = 0xDA8

abbrev pub c_iam3_1 : ℕ
c_iam3_1 = 0xDA9

abbrev pub c_iam3_2 : ℕ
c_iam3_2 = 0xDAA

abbrev pub c_iam3_3 : ℕ
c_iam3_3 = 0xDAB

-- one of four by ProtMode
unfoldable pub by_mode : ℕ → ℕ → ℕ → ℕ → ProtMode → ℕ
by_mode a b c d Plaintext = a
by_mode a b c d Cbc = b
by_mode a b c d Cmac = c
by_mode a b c d CbcCmac = d

-- 9.4.6.1: TAM2 Rev 0 has one constant, Rev 1 one for each ProtMode
unfoldable pub tam2_constant : Bool → ProtMode → ℕ
tam2_constant false mode = c_tam2
tam2_constant true mode = by_mode c_tam2_0 c_tam2_1 c_tam2_2 c_tam2_3 mode

-- 9.5.8.1 a): C_IAM3 by ProtMode
unfoldable pub iam3_constant : ProtMode → ℕ
iam3_constant mode = by_mode c_iam3_0 c_iam3_1 c_iam3_2 c_iam3_3 mode

-- a constant of 12 bits and the four bits of Purpose, as two bytes
unfoldable pub with_purpose : ℕ → ℕ → List ℕ
with_purpose c purpose = c / 16 ∷ (c % 16 * 16 + purpose % 16) ∷ []
