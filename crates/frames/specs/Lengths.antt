-- The lengths of messages and replies, in bytes: the tables of clause 9, and the table of messages of the scope paper.
use Rattle.std.specs.Prelude.{ℕ, ◌+◌, Bool, true, false, List, eqb, leb, length}
use Rattle.memory.specs.declared.BlockSize.{BlockSize}
use Rattle.ground.specs.Choice.{pick, both}
use Rattle.frames.specs.Blocks.{blocks_length}
use Rattle.frames.specs.Messages.{iam3_of}
use Rattle.frames.specs.Modes.{prot_mode_of, in_mode, has_mac}
use Rattle.frames.specs.declared.ProtMode.{ProtMode}
use Rattle.frames.specs.declared.Kind.{Kind}
use Rattle.frames.specs.declared.Kind.TheVariants.{Tam1, Tam2, Iam1, Iam2, Iam3, Mam1, Mam2, Unsupported}

-- messages: Tables 4, 6, 15, 17, 23, 25
abbrev pub tam1_length : ℕ
tam1_length = 12

abbrev pub tam2_length : ℕ
tam2_length = 15

abbrev pub iam1_length : ℕ
iam1_length = 2

abbrev pub iam2_length : ℕ
iam2_length = 17

abbrev pub mam1_length : ℕ
mam1_length = 12

abbrev pub mam2_length : ℕ
mam2_length = 17

-- Table 18: the part of IAM3 before IResponse, and the part before the data blocks
abbrev pub iam3_fields_length : ℕ
iam3_fields_length = 4

abbrev pub iam3_head_length : ℕ
iam3_head_length = 20

-- Table 3: a MAC has 96 bits
unfoldable pub mac_length : ProtMode → ℕ
mac_length mode = pick (has_mac mode) 12 0

-- 9.5.8: where the MAC of IAM3 stands, and how long the message is. A header is always there.
unfoldable pub iam3_mac_at : BlockSize → ℕ → ℕ
iam3_mac_at s n = iam3_head_length + blocks_length s true n

unfoldable pub iam3_length : BlockSize → ℕ → ProtMode → ℕ
iam3_length s n mode = iam3_mac_at s n + mac_length mode

-- the scope paper: IAM3 has its first 4 bytes, and in ProtModes 0 to 3 its length; ProtModes 4 to 15 have no length of
-- their own
unfoldable pub iam3_length_fits : List ℕ → Bool
iam3_length_fits m =
    both (leb iam3_fields_length (length m))
    (in_mode (prot_mode_of (iam3_of m).protmode)
    (λ (mode : ProtMode). eqb (length m) (iam3_length (iam3_of m).custom.blocksize (iam3_of m).custom.blockcount mode))
    true)

-- is a message as long as its kind asks?
unfoldable pub length_fits : Kind → List ℕ → Bool
length_fits Tam1 m = eqb (length m) tam1_length
length_fits Tam2 m = eqb (length m) tam2_length
length_fits Iam1 m = eqb (length m) iam1_length
length_fits Iam2 m = eqb (length m) iam2_length
length_fits Iam3 m = iam3_length_fits m
length_fits Mam1 m = eqb (length m) mam1_length
length_fits Mam2 m = eqb (length m) mam2_length
length_fits Unsupported m = false

-- replies: 9.4.3, Table 16, Table 24; those of IAM2, IAM3 and MAM2 are empty (9.5.6, 9.5.9, 9.6.6)
abbrev pub tam1_reply_length : ℕ
tam1_reply_length = 16

abbrev pub iam1_reply_length : ℕ
iam1_reply_length = 10

abbrev pub mam1_reply_length : ℕ
mam1_reply_length = 22

abbrev pub empty_reply_length : ℕ
empty_reply_length = 0

-- Tables 7 to 14: the authentication block, D blocks, and a MAC. Rev 1 has the header.
abbrev pub auth_length : ℕ
auth_length = 16

unfoldable pub tam2_mac_at : BlockSize → Bool → ℕ → ℕ
tam2_mac_at s rev n = auth_length + blocks_length s rev n

unfoldable pub tam2_reply_length : BlockSize → Bool → ℕ → ProtMode → ℕ
tam2_reply_length s rev n mode = tam2_mac_at s rev n + mac_length mode

-- the scope paper's rooms: for any reply, and for any message
abbrev pub reply_room : ℕ
reply_room = 172

abbrev pub message_room : ℕ
message_room = 176
