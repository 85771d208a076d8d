-- InvMixColumns of one column by way of MixColumns, as the code goes.
use mathlib.Core.Path.{◌≡◌, refl, ap, ◌∙◌}
use Prim.Native.Nat.{ℕ, ◌<◌}
use mathlib.Core.List.{List, ◌∷◌}
use lib.Bits.{bit_xor, xor_comm}
use Rattle.field.specs.Field.{times, remainder, polynomial_product}
use Rattle.aes.specs.Cipher.{mixed}
use Rattle.aes_inverse.specs.InvCipher.{unmixed}
use Rattle.aes_inverse.proofs.Columns.{
  Column,
  Additive,
  column_same,
  sum_additive,
  times_additive,
  mixed_additive,
  u_additive,
  row0,
  row1,
  row2,
  row3,
  row0_additive,
  row1_additive,
  row2_additive,
  row3_additive,
}

-- four times the sum of two bytes
times4_additive : (A B : Column) → Additive A → Additive B
    → Additive (λ a b c d. times 2 (times 2 (bit_xor (A a b c d) (B a b c d))))
times4_additive A B ha hb =
    times_additive 2 (λ a b c d. times 2 (bit_xor (A a b c d) (B a b c d)))
    (times_additive 2 (λ a b c d. bit_xor (A a b c d) (B a b c d)) (sum_additive A B ha hb))

-- InvMixColumns by way of MixColumns: 4(a + c) is added to a and c, and 4(b + d) to b and d
abbrev even : Column
even a b c d = times 2 (times 2 (bit_xor a c))

abbrev odd : Column
odd a b c d = times 2 (times 2 (bit_xor b d))

even_additive : Additive even
even_additive = times4_additive row0 row2 row0_additive row2_additive

odd_additive : Additive odd
odd_additive = times4_additive row1 row3 row1_additive row3_additive

-- what the code adds to a byte: 4 times the sum of it and of the byte two rows below
abbrev pub raised : ℕ → ℕ → ℕ
raised x y = bit_xor x (times 2 (times 2 (bit_xor x y)))

turned_about : (x y : ℕ) → raised x y ≡ bit_xor x (times 2 (times 2 (bit_xor y x)))
turned_about x y = ap (λ (z : ℕ). bit_xor x (times 2 (times 2 z))) (xor_comm x y)

unmixed_by_mixed : (a b c d : ℕ) → a < 256 → b < 256 → c < 256 → d < 256
    → mixed (raised a c) (raised b d) (raised c a) (raised d b) ≡ unmixed a b c d
unfolding times remainder polynomial_product
unmixed_by_mixed a b c d ha hb hc hd =
    (λ i. mixed (raised a c) (raised b d) (turned_about c a i) (turned_about d b i))
    ∙ column_same (λ a b c d. mixed (bit_xor a (even a b c d)) (bit_xor b (odd a b c d)) (bit_xor c (even a b c d))
    (bit_xor d (odd a b c d))) unmixed
    (mixed_additive (λ a b c d. bit_xor a (even a b c d)) (λ a b c d. bit_xor b (odd a b c d))
    (λ a b c d. bit_xor c (even a b c d)) (λ a b c d. bit_xor d (odd a b c d))
    (sum_additive row0 even row0_additive even_additive) (sum_additive row1 odd row1_additive odd_additive)
    (sum_additive row2 even row2_additive even_additive) (sum_additive row3 odd row3_additive odd_additive))
    u_additive refl refl refl refl a b c d ha hb hc hd

-- the four rows of a column, with the rest of the state below it
pub unmixed_column : (a b c d : ℕ) (rest rest' : List ℕ) → a < 256 → b < 256 → c < 256 → d < 256 → rest ≡ rest'
    → mixed (raised a c) (raised b d) (raised c a) (raised d b)
    ∷ mixed (raised b d) (raised c a) (raised d b) (raised a c)
    ∷ mixed (raised c a) (raised d b) (raised a c) (raised b d)
    ∷ mixed (raised d b) (raised a c) (raised b d) (raised c a) ∷ rest
    ≡ unmixed a b c d ∷ unmixed b c d a ∷ unmixed c d a b ∷ unmixed d a b c ∷ rest'
unmixed_column a b c d rest rest' ha hb hc hd below =
    λ i. unmixed_by_mixed a b c d ha hb hc hd i ∷ unmixed_by_mixed b c d a hb hc hd ha i
    ∷ unmixed_by_mixed c d a b hc hd ha hb i ∷ unmixed_by_mixed d a b c hd ha hb hc i ∷ below i
