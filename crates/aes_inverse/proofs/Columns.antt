-- The maps of one column, of four bytes. Each is additive in the four together, so two are equal where they agree on
-- each byte by itself, and there they agree where they agree at the eight bits.
use mathlib.Core.Path.{◌≡◌, refl, sym, ap, ap₂, ◌∙◌}
use Prim.Native.Nat.{ℕ, ◌^◌, ◌<◌}
use lib.Bits.{bit_xor, xor_zero_r}
use Rattle.field.specs.Field.{times, remainder, polynomial_product}
use Rattle.field.specs.Block.{tabulated}
use Rattle.aes.specs.Cipher.{mixed}
use Rattle.aes_inverse.specs.InvCipher.{unmixed}
use Rattle.field.proofs.Sum.{xor_swap}
use Rattle.field.proofs.Product.{times_linear, linear_same}

abbrev pub Column : Type 0
Column = ℕ → ℕ → ℕ → ℕ → ℕ

abbrev pub Additive : Column → Type 0
Additive F =
    (a b c d a' b' c' d' : ℕ) → F (bit_xor a a') (bit_xor b b') (bit_xor c c') (bit_xor d d') ≡ bit_xor (F a b c d)
    (F a' b' c' d')

pub sum_additive : (F G : Column) → Additive F → Additive G → Additive (λ a b c d. bit_xor (F a b c d) (G a b c d))
sum_additive F G f g a b c d a' b' c' d' =
    ap₂ bit_xor (f a b c d a' b' c' d') (g a b c d a' b' c' d')
    ∙ xor_swap (F a b c d) (F a' b' c' d') (G a b c d) (G a' b' c' d')

pub times_additive : (k : ℕ) (F : Column) → Additive F → Additive (λ a b c d. times k (F a b c d))
times_additive k F f a b c d a' b' c' d' = ap (times k) (f a b c d a' b' c' d')
    ∙ times_linear k (F a b c d) (F a' b' c' d')

sum4_additive : (F G H K : Column) → Additive F → Additive G → Additive H → Additive K
    → Additive (λ a b c d. bit_xor (bit_xor (F a b c d) (G a b c d)) (bit_xor (H a b c d) (K a b c d)))
sum4_additive F G H K f g h k =
    sum_additive (λ a b c d. bit_xor (F a b c d) (G a b c d)) (λ a b c d. bit_xor (H a b c d) (K a b c d))
    (sum_additive F G f g) (sum_additive H K h k)

module _ (F : Column) (f : Additive F) where
  on_axes : (a b c d : ℕ) → F a b c d ≡ bit_xor (F a 0 0 0) (bit_xor (F 0 b 0 0) (bit_xor (F 0 0 c 0) (F 0 0 0 d)))
  on_axes a b c d =
      ap (λ (x : ℕ). F x b c d) (sym (xor_zero_r a)) ∙ f a 0 0 0 0 b c d
      ∙ ap (bit_xor (F a 0 0 0)) (ap (λ (x : ℕ). F 0 x c d) (sym (xor_zero_r b)) ∙ f 0 b 0 0 0 0 c d
      ∙ ap (bit_xor (F 0 b 0 0)) (ap (λ (x : ℕ). F 0 0 x d) (sym (xor_zero_r c)) ∙ f 0 0 c 0 0 0 0 d))

module _ (F G : Column) (f : Additive F) (g : Additive G) where
  -- two additive maps that agree at the eight bits of each byte agree at every four bytes
  pub column_same : tabulated (λ k. F (2 ^ k) 0 0 0) 8 ≡ tabulated (λ k. G (2 ^ k) 0 0 0) 8
      → tabulated (λ k. F 0 (2 ^ k) 0 0) 8 ≡ tabulated (λ k. G 0 (2 ^ k) 0 0) 8
      → tabulated (λ k. F 0 0 (2 ^ k) 0) 8 ≡ tabulated (λ k. G 0 0 (2 ^ k) 0) 8
      → tabulated (λ k. F 0 0 0 (2 ^ k)) 8 ≡ tabulated (λ k. G 0 0 0 (2 ^ k)) 8
      → (a b c d : ℕ) → a < 256 → b < 256 → c < 256 → d < 256 → F a b c d ≡ G a b c d
  column_same e₁ e₂ e₃ e₄ a b c d ha hb hc hd =
      on_axes F f a b c d
      ∙ ap₂ bit_xor (linear_same (λ x. F x 0 0 0) (λ x. G x 0 0 0) (λ x y. f x 0 0 0 y 0 0 0)
      (λ x y. g x 0 0 0 y 0 0 0) e₁ a ha)
      (ap₂ bit_xor (linear_same (λ x. F 0 x 0 0) (λ x. G 0 x 0 0) (λ x y. f 0 x 0 0 0 y 0 0)
      (λ x y. g 0 x 0 0 0 y 0 0) e₂ b hb)
      (ap₂ bit_xor (linear_same (λ x. F 0 0 x 0) (λ x. G 0 0 x 0) (λ x y. f 0 0 x 0 0 0 y 0)
      (λ x y. g 0 0 x 0 0 0 y 0) e₃ c hc)
      (linear_same (λ x. F 0 0 0 x) (λ x. G 0 0 0 x) (λ x y. f 0 0 0 x 0 0 0 y) (λ x y. g 0 0 0 x 0 0 0 y) e₄ d hd)))
      ∙ sym (on_axes G g a b c d)

module _ (A B C D : Column) (ha : Additive A) (hb : Additive B) (hc : Additive C) (hd : Additive D) where
  pub mixed_additive : Additive (λ a b c d. mixed (A a b c d) (B a b c d) (C a b c d) (D a b c d))
  mixed_additive = sum4_additive (λ a b c d. times 2 (A a b c d)) (λ a b c d. times 3 (B a b c d)) C D
      (times_additive 2 A ha) (times_additive 3 B hb) hc hd

  unmixed_additive : Additive (λ a b c d. unmixed (A a b c d) (B a b c d) (C a b c d) (D a b c d))
  unmixed_additive =
      sum4_additive (λ a b c d. times 0x0E (A a b c d)) (λ a b c d. times 0x0B (B a b c d))
      (λ a b c d. times 0x0D (C a b c d)) (λ a b c d. times 0x09 (D a b c d))
      (times_additive 0x0E A ha) (times_additive 0x0B B hb) (times_additive 0x0D C hc) (times_additive 0x09 D hd)

-- the four bytes of a column, from row 0, 1, 2 and 3 downwards
abbrev pub row0 : Column
row0 a b c d = a

abbrev pub row1 : Column
row1 a b c d = b

abbrev pub row2 : Column
row2 a b c d = c

abbrev pub row3 : Column
row3 a b c d = d

pub row0_additive : Additive row0
row0_additive a b c d a' b' c' d' = refl

pub row1_additive : Additive row1
row1_additive a b c d a' b' c' d' = refl

pub row2_additive : Additive row2
row2_additive a b c d a' b' c' d' = refl

pub row3_additive : Additive row3
row3_additive a b c d a' b' c' d' = refl

-- F of the four bytes that M makes of the column, row by row
abbrev pub after : Column → Column → Column
after F M a b c d = F (M a b c d) (M b c d a) (M c d a b) (M d a b c)

m_additive : Additive mixed
m_additive = mixed_additive row0 row1 row2 row3 row0_additive row1_additive row2_additive row3_additive

pub u_additive : Additive unmixed
u_additive = unmixed_additive row0 row1 row2 row3 row0_additive row1_additive row2_additive row3_additive

turn : (M : Column) → Additive M → Additive (λ a b c d. M b c d a)
turn M m a b c d a' b' c' d' = m b c d a b' c' d' a'

turn2 : (M : Column) → Additive M → Additive (λ a b c d. M c d a b)
turn2 M m a b c d a' b' c' d' = m c d a b c' d' a' b'

turn3 : (M : Column) → Additive M → Additive (λ a b c d. M d a b c)
turn3 M m a b c d a' b' c' d' = m d a b c d' a' b' c'

pub unmixed_mixed : (a b c d : ℕ) → a < 256 → b < 256 → c < 256 → d < 256 → after unmixed mixed a b c d ≡ a
unfolding times remainder polynomial_product
unmixed_mixed =
    column_same (after unmixed mixed) row0
    (unmixed_additive mixed (λ a b c d. mixed b c d a) (λ a b c d. mixed c d a b) (λ a b c d. mixed d a b c) m_additive
    (turn mixed m_additive) (turn2 mixed m_additive) (turn3 mixed m_additive))
    row0_additive refl refl refl refl

pub mixed_unmixed : (a b c d : ℕ) → a < 256 → b < 256 → c < 256 → d < 256 → after mixed unmixed a b c d ≡ a
unfolding times remainder polynomial_product
mixed_unmixed =
    column_same (after mixed unmixed) row0
    (mixed_additive unmixed (λ a b c d. unmixed b c d a) (λ a b c d. unmixed c d a b)
    (λ a b c d. unmixed d a b c) u_additive (turn unmixed u_additive) (turn2 unmixed u_additive)
    (turn3 unmixed u_additive))
    row0_additive refl refl refl refl
