-- The examples at the edges, proved: by computation, and the sheets by their own examples.
use Rattle.sheet.specs.declared.SheetRefusal.{SheetRefusal}
use Rattle.std.specs.Prelude.{Result}
use mathlib.Core.Path.{◌≡◌, refl, ap}
use mathlib.Core.List.{List, [], ◌∷◌}
use Prim.Native.Nat.{ℕ}
use lib.ListN.{replicate}
use Rattle.field.specs.Field.{times, inverse, product_of_squares, polynomial_product, remainder}
use Rattle.field.specs.Sbox.{sbox, affine, affine_bit, from_bits}
use Rattle.field.specs.Block.{xor}
use Rattle.aes_inverse.specs.InvSbox.{inv_sbox, inv_affine, inv_affine_bit}
use Rattle.modes.specs.Cmac.{last_byte, shifted_left, doubled}
use Rattle.memory.specs.Address.{address_of, step_of, last_word, profile_end, overruns}
use Rattle.sheet.specs.Limits.{key_limit}
use Rattle.sheet.specs.Sheet.{verdict_number, verdict_place, read_number, read_place, verdict_of}
use Rattle.sheet.specs.declared.Reading.{Reading}
use Rattle.sheet_laws.proofs.Examples.{example_11, example_12, example_13}
use Rattle.frames.specs.Fields.{size_of, select_custom}
use Rattle.frames.specs.Messages.{iam3_of}
use Rattle.claims.specs.Edges.{fields_of, words_of, asked, sheet_of, Edges}

-- (1) to (4)
sbox_00 : sbox 0x00 ≡ 0x63
unfolding sbox affine affine_bit from_bits inverse product_of_squares times polynomial_product remainder
sbox_00 = refl

sbox_53 : sbox 0x53 ≡ 0xED
unfolding sbox affine affine_bit from_bits inverse product_of_squares times polynomial_product remainder
sbox_53 = refl

inv_sbox_63 : inv_sbox 0x63 ≡ 0x00
unfolding inv_sbox inv_affine inv_affine_bit from_bits inverse product_of_squares times polynomial_product remainder
inv_sbox_63 = refl

product : times 0x57 0x83 ≡ 0xC1
unfolding times polynomial_product remainder
product = refl

-- (5), (6)
doubled_80 : doubled (0x80 ∷ replicate 15 0) ≡ last_byte 0x87
unfolding doubled shifted_left xor
doubled_80 = refl

doubled_00 : doubled (replicate 16 0) ≡ last_byte 0x00
unfolding doubled shifted_left xor
doubled_00 = refl

-- (7)
head : fields_of (iam3_of (0x58 ∷ 0x20 ∷ 0x05 ∷ 0x31 ∷ [])) ≡ 2 ∷ 5 ∷ 3 ∷ 1 ∷ []
unfolding iam3_of select_custom
head = refl

-- (8) to (10)
bits64_5 : words_of (asked 0 5) ≡ 52 ∷ 55 ∷ 0 ∷ []
unfolding size_of address_of step_of last_word profile_end overruns
bits64_5 = refl

bits64_6 : words_of (asked 0 6) ≡ 56 ∷ 59 ∷ 3 ∷ []
unfolding size_of address_of step_of last_word profile_end overruns
bits64_6 = refl

bits16_5 : words_of (asked 1 5) ≡ 37 ∷ 37 ∷ 0 ∷ []
unfolding size_of address_of step_of last_word profile_end overruns
bits16_5 = refl

-- (11) to (13)
abbrev told : Result Reading SheetRefusal → List ℕ
told r = verdict_number (verdict_of r) ∷ verdict_place (verdict_of r) ∷ []

sheet_11 : sheet_of (0x01 ∷ 0x00 ∷ 0x00 ∷ 0x02 ∷ 0x00 ∷ 0x00 ∷ 0x00 ∷ 0x00 ∷ 0x06 ∷ []) ≡ 0 ∷ 0 ∷ []
unfolding read_number read_place
sheet_11 = ap told (example_11 key_limit)

sheet_12 : sheet_of [] ≡ 30 ∷ 0 ∷ []
unfolding read_number read_place
sheet_12 = ap told (example_12 key_limit)

sheet_13 : (rest : List ℕ) → sheet_of (0x02 ∷ rest) ≡ 32 ∷ 0 ∷ []
unfolding read_number read_place
sheet_13 rest = ap told (example_13 key_limit rest)

pub edges : Edges
edges rest =
    λ j.
    (sbox_00 j ∷ [])
    ∷ (sbox_53 j ∷ [])
    ∷ (inv_sbox_63 j ∷ [])
    ∷ (product j ∷ [])
    ∷ doubled_80 j
    ∷ doubled_00 j
    ∷ head j
    ∷ bits64_5 j
    ∷ bits64_6 j
    ∷ bits16_5 j
    ∷ sheet_11 j
    ∷ sheet_12 j
    ∷ sheet_13 rest j
    ∷ []
