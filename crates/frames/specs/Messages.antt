-- The seven messages: the bytes of a message's fields, and the fields of a message's bytes.
-- The length is not judged here: a byte past the end reads as 0.
use Rattle.std.specs.Prelude.{ℕ, ◌+◌, ◌*◌, ◌/◌, ◌%◌, Bool, List, [], ◌∷◌, ◌++◌, eqb, ltb}
use Rattle.ground.specs.Choice.{both}
use Rattle.ground.specs.Bytes.{byte_at, bit_of, flag}
use Rattle.octets.specs.Parts.{bytes_from}
use Rattle.frames.specs.Fields.{size_bit, size_of, custom_fits, select_bytes, select_custom, select_prot_mode}
use Rattle.frames.specs.declared.Custom.{Custom}
use Rattle.frames.specs.declared.Tam1.{Tam1}
use Rattle.frames.specs.declared.Tam2.{Tam2}
use Rattle.frames.specs.declared.Iam1.{Iam1}
use Rattle.frames.specs.declared.Iam2.{Iam2}
use Rattle.frames.specs.declared.Iam3.{Iam3}
use Rattle.frames.specs.declared.Mam1.{Mam1}
use Rattle.frames.specs.declared.Mam2.{Mam2}

-- Table 4, TAM1: AuthMethod = 00, CustomData = 0, RFU[4:0]; KeyID[7:0]; IChallenge[79:0]
unfoldable pub tam1_message : Tam1 → List ℕ
tam1_message f = f.rfu ∷ f.keyid ∷ f.ichallenge

unfoldable pub tam1_of : List ℕ → Tam1
tam1_of m = record { rfu = byte_at m 0 % 32; keyid = byte_at m 1; ichallenge = bytes_from m 2 10 }

-- Table 6, TAM2: AuthMethod = 00, CustomData = 1, BlockSize[0:0], Rev[0:0], RFU[2:0]; KeyID[7:0]; IChallenge[79:0];
-- Profile[3:0], Offset[11:0], BlockCount[3:0], ProtMode[3:0]
unfoldable pub tam2_message : Tam2 → List ℕ
tam2_message f =
    (0x20 + size_bit f.custom.blocksize * 16 + bit_of f.rev * 8 + f.rfu)
    ∷ f.keyid
    ∷ (f.ichallenge ++ select_bytes f.custom f.protmode)

unfoldable pub tam2_of : List ℕ → Tam2
tam2_of m = record {
  rev = flag (byte_at m 0 / 8 % 2);
  rfu = byte_at m 0 % 8;
  keyid = byte_at m 1;
  ichallenge = bytes_from m 2 10;
  custom = select_custom (size_of (byte_at m 0 / 16 % 2)) (byte_at m 12) (byte_at m 13) (byte_at m 14);
  protmode = select_prot_mode (byte_at m 14);
}

-- Table 15, IAM1: AuthMethod = 01, Step = 00, RFU[3:0]; KeyID[7:0]
unfoldable pub iam1_message : Iam1 → List ℕ
iam1_message f = (0x40 + f.rfu) ∷ f.keyid ∷ []

unfoldable pub iam1_of : List ℕ → Iam1
iam1_of m = record { rfu = byte_at m 0 % 16; keyid = byte_at m 1 }

-- Table 17, IAM2: AuthMethod = 01, Step = 01, CustomData = 0, RFU[2:0]; IResponse[127:0]
unfoldable pub iam2_message : Iam2 → List ℕ
iam2_message f = (0x50 + f.rfu) ∷ f.iresponse

unfoldable pub iam2_of : List ℕ → Iam2
iam2_of m = record { rfu = byte_at m 0 % 8; iresponse = bytes_from m 1 16 }

-- Table 18, IAM3: AuthMethod = 01, Step = 01, CustomData = 1, BlockSize[0:0], RFU[1:0]; Profile[3:0], Offset[11:0],
-- BlockCount[3:0], ProtMode[3:0]; and of IResponse the AuthenticationBlock (9.5.8.1 a). The D data blocks and the MAC
-- follow.
unfoldable pub iam3_head : Iam3 → List ℕ
iam3_head f =
    (0x58 + size_bit f.custom.blocksize * 4 + f.rfu) ∷ (select_bytes f.custom f.protmode ++ f.iresponse)

unfoldable pub iam3_of : List ℕ → Iam3
iam3_of m = record {
  rfu = byte_at m 0 % 4;
  custom = select_custom (size_of (byte_at m 0 / 4 % 2)) (byte_at m 1) (byte_at m 2) (byte_at m 3);
  protmode = select_prot_mode (byte_at m 3);
  iresponse = bytes_from m 4 16;
}

-- Table 23, MAM1: AuthMethod = 10, Step = 00, RFU[3:0]; KeyID[7:0]; IChallenge[79:0]
unfoldable pub mam1_message : Mam1 → List ℕ
mam1_message f = (0x80 + f.rfu) ∷ f.keyid ∷ f.ichallenge

unfoldable pub mam1_of : List ℕ → Mam1
mam1_of m = record { rfu = byte_at m 0 % 16; keyid = byte_at m 1; ichallenge = bytes_from m 2 10 }

-- Table 25, MAM2: AuthMethod = 10, Step = 01, RFU[3:0]; IResponse[127:0]. 9.6.5 checks RFU[2:0]; the field has four
-- bits, and all four count
unfoldable pub mam2_message : Mam2 → List ℕ
mam2_message f = (0x90 + f.rfu) ∷ f.iresponse

unfoldable pub mam2_of : List ℕ → Mam2
mam2_of m = record { rfu = byte_at m 0 % 16; iresponse = bytes_from m 1 16 }

-- what a builder takes: RFU is zero, and each field fits its bits
abbrev pub rfu_fits : ℕ → Bool
rfu_fits rfu = eqb rfu 0

unfoldable pub select_fits : ℕ → Custom → ℕ → Bool
select_fits rfu c protmode = both (rfu_fits rfu) (both (ltb protmode 16) (custom_fits c))
