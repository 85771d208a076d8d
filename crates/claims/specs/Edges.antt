-- The scope paper, "Examples at the edges": (1) to (13), one statement over one table of the definitions. A row is what
-- the definitions make of an example. (8) to (10) go by the size of the block. 9.2 gives the message's bit 0 to 64-bit
-- blocks and 1 to 16-bit blocks, which the scope paper has exchanged; `size_of` reads the bit.
use Rattle.std.specs.Prelude.{◌≡◌, List, [], ◌∷◌, ℕ, replicate}
use Rattle.ground.specs.Choice.{pick}
use Rattle.field.specs.Field.{times}
use Rattle.field.specs.Sbox.{sbox}
use Rattle.aes_inverse.specs.InvSbox.{inv_sbox}
use Rattle.modes.specs.Cmac.{last_byte, doubled}
use Rattle.memory.specs.declared.Area.TheVariants.{User}
use Rattle.memory.specs.declared.Block.{Block}
use Rattle.memory.specs.declared.Profile.{Profile}
use Rattle.memory.specs.Address.{address_of, last_word, overruns}
use Rattle.sheet.specs.Limits.{key_limit}
use Rattle.sheet.specs.Sheet.{read_number, read_place}
use Rattle.frames.specs.declared.Iam3.{Iam3}
use Rattle.frames.specs.Fields.{size_of}
use Rattle.frames.specs.Messages.{iam3_of}
use Rattle.offer.specs.declared.TagFault.TheVariants.{MemoryOverrun}
use Rattle.offer.specs.Outcomes.{number_of}

-- (7): the fields of a head.
abbrev pub fields_of : Iam3 → List ℕ
fields_of f = f.custom.profile ∷ f.custom.offset.0 ∷ f.custom.blockcount ∷ f.protmode ∷ []

-- (8) to (10): base 32, 24 words; one data block at the Offset, of the size that the message's bit says; its first
-- word, its last, and the refusal, 0 for none.
abbrev pub profile : Profile
profile = record { area = User; base = record { 0 = 32 }; words = 24 }

abbrev pub words_of : Block → List ℕ
words_of b = b.first.0 ∷ last_word b ∷ pick (overruns profile b) (number_of MemoryOverrun) 0 ∷ []

abbrev pub asked : ℕ → ℕ → Block
asked bit offset = address_of profile (size_of bit) (record { 0 = offset }) 1

-- (11) to (13): the number of a sheet and its place, 0 and 0 for one that is accepted.
abbrev pub sheet_of : List ℕ → List ℕ
sheet_of s = read_number key_limit s ∷ read_place key_limit s ∷ []

-- What the definitions say; `rest` is whatever follows in the sheet of (13).
abbrev pub computed : List ℕ → List (List ℕ)
computed rest =
    (sbox 0x00 ∷ [])
    ∷ (sbox 0x53 ∷ [])
    ∷ (inv_sbox 0x63 ∷ [])
    ∷ (times 0x57 0x83 ∷ [])
    ∷ doubled (0x80 ∷ replicate 15 0)
    ∷ doubled (replicate 16 0)
    ∷ fields_of (iam3_of (0x58 ∷ 0x20 ∷ 0x05 ∷ 0x31 ∷ []))
    ∷ words_of (asked 0 5)
    ∷ words_of (asked 0 6)
    ∷ words_of (asked 1 5)
    ∷ sheet_of (0x01 ∷ 0x00 ∷ 0x00 ∷ 0x02 ∷ 0x00 ∷ 0x00 ∷ 0x00 ∷ 0x00 ∷ 0x06 ∷ [])
    ∷ sheet_of []
    ∷ sheet_of (0x02 ∷ rest)
    ∷ []

-- What the paper says.
abbrev pub printed : List (List ℕ)
printed =
    (0x63 ∷ [])
    ∷ (0xED ∷ [])
    ∷ (0x00 ∷ [])
    ∷ (0xC1 ∷ [])
    ∷ last_byte 0x87
    ∷ last_byte 0x00
    ∷ (2 ∷ 5 ∷ 3 ∷ 1 ∷ [])
    ∷ (52 ∷ 55 ∷ 0 ∷ [])
    ∷ (56 ∷ 59 ∷ 3 ∷ [])
    ∷ (37 ∷ 37 ∷ 0 ∷ [])
    ∷ (0 ∷ 0 ∷ [])
    ∷ (30 ∷ 0 ∷ [])
    ∷ (32 ∷ 0 ∷ [])
    ∷ []

abbrev pub Edges : Type 0
Edges = (rest : List ℕ) → computed rest ≡ printed
