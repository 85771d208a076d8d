-- Examples of the papers, computed.
use Rattle.std.specs.Prelude.{Some, None}
use mathlib.Core.Path.{◌≡◌, refl}
use mathlib.Core.Bool.{true, false}
use mathlib.Core.List.{List, [], ◌∷◌}
use Prim.Native.Nat.{ℕ}
use Rattle.ground.specs.Bytes.{two_bytes}
use Rattle.memory.specs.declared.BlockSize.{BlockSize}
use Rattle.memory.specs.declared.BlockSize.TheVariants.{Bits64, Bits16}
use Rattle.frames.specs.Blocks.{block_bytes, header_length, header_part, data_length, carried, d_of, blocks_length}
use Rattle.frames.specs.Constants.{tam2_constant, iam3_constant, by_mode, with_purpose}
use Rattle.memory.specs.Address.{block_size_bit}
use Rattle.frames.specs.Fields.{size_of, select_bytes, select_custom}
use Rattle.frames.specs.Header.{header_start, header_of}
use Rattle.frames.specs.Modes.{prot_mode_of, has_mac}
use Rattle.frames.specs.declared.ProtMode.TheVariants.{Plaintext, Cbc, Cmac, CbcCmac}
use Rattle.frames.specs.Lengths.{mac_length, iam3_mac_at, iam3_length, tam2_mac_at, tam2_reply_length}
use Rattle.frames.specs.Messages.{tam2_message, iam3_of}
use Rattle.frames.specs.declared.Custom.{Custom}
use Rattle.frames.specs.declared.Iam3.{Iam3}
use Rattle.frames.specs.declared.Tam2.{Tam2}

abbrev custom : BlockSize → ℕ → ℕ → ℕ → Custom
custom s profile offset blockcount = record {
  blocksize = s;
  profile = profile;
  offset =
      record { 0 = offset };
  blockcount = blockcount;
}

-- example (7) of the scope paper: the head 58 20 05 31, its D and its length
abbrev seventh : Iam3
seventh = iam3_of (0x58 ∷ 0x20 ∷ 0x05 ∷ 0x31 ∷ [])

pub seventh_fields : (seventh.custom ≡ custom Bits64 2 5 3) × (seventh.protmode ≡ 1) × (seventh.rfu ≡ 0)
unfolding iam3_of select_custom size_of
seventh_fields = (refl, refl, refl)

pub seventh_sizes : (d_of Bits64 true 3 ≡ 3) × (iam3_length Bits64 3 Cbc ≡ 68)
unfolding d_of carried header_part header_length data_length block_bytes blocks_length has_mac mac_length iam3_mac_at
    iam3_length
seventh_sizes = (refl, refl)

-- Annex F, Table F.29: the head 5C 10 02 13
abbrev f29 : Iam3
f29 = iam3_of (0x5C ∷ 0x10 ∷ 0x02 ∷ 0x13 ∷ [])

pub f29_fields : (f29.custom ≡ custom Bits16 1 2 1) × (f29.protmode ≡ 3) × (f29.rfu ≡ 0)
unfolding iam3_of select_custom size_of
f29_fields = (refl, refl, refl)

-- Annex F: the headers of Tables F.12, F.18, F.20, F.29 and F.30
pub headers : (header_of (custom Bits64 1 0 1) ≡ 0x08 ∷ 0x00 ∷ 0x08 ∷ 0x00 ∷ 0x00 ∷ 0x00 ∷ 0x00 ∷ 0x00 ∷ [])
    × (header_of (custom Bits16 1 0 4) ≡ 0x88 ∷ 0x00 ∷ 0x20 ∷ 0x00 ∷ [])
    × (header_of (custom Bits16 1 0 7) ≡ 0x88 ∷ 0x00 ∷ 0x38 ∷ 0x00 ∷ [])
    × (header_of (custom Bits16 1 2 1) ≡ 0x88 ∷ 0x01 ∷ 0x08 ∷ 0x00 ∷ [])
    × (header_of (custom Bits16 1 0 0) ≡ 0x88 ∷ 0x00 ∷ 0x00 ∷ 0x00 ∷ [])
unfolding header_of header_start header_length block_size_bit
headers = (refl, refl, refl, refl, refl)

-- Annex F, Table F.17: a TAM2 message of Rev 1 for five 16-bit blocks, ProtMode 3, and the length of its reply
abbrev challenge : List ℕ
challenge = 0x96 ∷ 0x56 ∷ 0x44 ∷ 0x02 ∷ 0x37 ∷ 0x57 ∷ 0x96 ∷ 0xC6 ∷ 0x96 ∷ 0x64 ∷ []

abbrev f17 : Tam2
f17 = record { rev = true; rfu = 0; keyid = 0; ichallenge = challenge; custom = custom Bits16 1 0 4; protmode = 3 }

pub f17_message : tam2_message f17
    ≡ 0x38 ∷ 0x00 ∷ 0x96 ∷ 0x56 ∷ 0x44 ∷ 0x02 ∷ 0x37 ∷ 0x57 ∷ 0x96 ∷ 0xC6 ∷ 0x96 ∷ 0x64 ∷ 0x10 ∷ 0x00 ∷ 0x43 ∷ []
unfolding tam2_message select_bytes block_size_bit
f17_message = refl

pub f18_length : tam2_reply_length Bits16 true 4 CbcCmac ≡ 44
unfolding d_of carried header_part header_length data_length block_bytes blocks_length has_mac mac_length tam2_mac_at
    tam2_reply_length
f18_length = refl

-- Table 1: the first two bytes, by ProtMode
pub constants : (two_bytes (tam2_constant false CbcCmac) ≡ 0x96 ∷ 0xC5 ∷ [])
    × (two_bytes (tam2_constant true Plaintext) ≡ 0x96 ∷ 0xC0 ∷ [])
    × (two_bytes (tam2_constant true CbcCmac) ≡ 0x96 ∷ 0xC3 ∷ [])
    × (with_purpose (iam3_constant Plaintext) 0 ≡ 0xDA ∷ 0x80 ∷ [])
    × (with_purpose (iam3_constant Cbc) 0 ≡ 0xDA ∷ 0x90 ∷ [])
    × (with_purpose (iam3_constant Cmac) 9 ≡ 0xDA ∷ 0xA9 ∷ [])
    × (with_purpose (iam3_constant CbcCmac) 15 ≡ 0xDA ∷ 0xBF ∷ [])
unfolding tam2_constant iam3_constant by_mode with_purpose
constants = (refl, refl, refl, refl, refl, refl, refl)

-- Table 3, row by row; 4 and 15 stand for the values that it leaves open
pub modes : (prot_mode_of 0 ≡ Some Plaintext) × (prot_mode_of 1 ≡ Some Cbc) × (prot_mode_of 2 ≡ Some Cmac)
    × (prot_mode_of 3 ≡ Some CbcCmac) × (prot_mode_of 4 ≡ None) × (prot_mode_of 15 ≡ None)
unfolding prot_mode_of
modes = (refl, refl, refl, refl, refl, refl)
