-- A digit's value, region by region, and its character again.
use mathlib.Core.Path.{◌≡◌, refl, sym, ap, ap₂, ◌∙◌}
use mathlib.Core.Bool.{Bool, true, false}
use Prim.Native.Nat.{ℕ, ◌+◌, ◌-◌, ◌≤◌, ◌<◌}
use native.Mathlib.Omega.{arith}
use lib.Dec.{leb, ltb}
use borrow.Author.Tests.{le-leb, lt-leb, leb-true, lt-ltb, le-ltb, ltb-true, ltb-false}
use Rattle.ground.specs.Choice.{both}
use Rattle.text.specs.Digits.{between, value, glyph}
use Rattle.text.specs.Inverse.{lower}
use Rattle.text.proofs.Choices.{picked, each, second_no}

module _ (from to c : ℕ) where
  pub inside : from ≤ c → c ≤ to → between from to c ≡ true
  inside h l = ap₂ both (le-leb from c h) (le-leb c to l)

  pub below : c < from → between from to c ≡ false
  below h = ap (λ (b : Bool). both b (leb c to)) (lt-leb from c h)

  pub above : to < c → between from to c ≡ false
  above h = ap (both (leb from c)) (lt-leb c to h) ∙ second_no (leb from c)

  ends : between from to c ≡ true → (from ≤ c) × (c ≤ to)
  ends t = let e = each (leb from c) (leb c to) t in (leb-true from c e.0, leb-true c to e.1)

-- the steps of `value`
module _ (c : ℕ) where
  pub decimal_value : 48 ≤ c → c ≤ 57 → c - 48 ≡ value c
  unfolding value
  decimal_value h l = simp (inside 48 57 c h l)

  pub upper_value : 65 ≤ c → c ≤ 70 → c - 65 + 10 ≡ value c
  unfolding value
  upper_value h l = simp (above 48 57 c (omega arith), below 97 102 c (omega arith), inside 65 70 c h l) (omega arith)

  pub lower_value : 97 ≤ c → c ≤ 102 → c - 97 + 10 ≡ value c
  unfolding value
  lower_value h l = simp (above 48 57 c (omega arith), inside 97 102 c h l) (omega arith)

-- what holds in each region holds of the value
pub value_cases : (P : ℕ → Type 0) (c : ℕ)
    → (48 ≤ c → c ≤ 57 → P (c - 48)) → (97 ≤ c → c ≤ 102 → P (c - 87)) → (65 ≤ c → c ≤ 70 → P (c - 55)) → P 16
    → P (value c)
unfolding value
value_cases P c d l u n =
    picked P (between 48 57 c) (λ t. let e = ends 48 57 c t in d e.0 e.1)
    (λ _. picked P (between 97 102 c) (λ t. let e = ends 97 102 c t in l e.0 e.1)
    (λ _. picked P (between 65 70 c) (λ t. let e = ends 65 70 c t in u e.0 e.1) (λ _. n)))

-- a character that is no digit
pub no_value : (c : ℕ) → (48 ≤ c → c ≤ 57 → ⊥) → (97 ≤ c → c ≤ 102 → ⊥) → (65 ≤ c → c ≤ 70 → ⊥) → 16 ≡ value c
no_value c d l u = value_cases (λ v. 16 ≡ v) c (λ h k. absurd (d h k)) (λ h k. absurd (l h k)) (λ h k. absurd (u h k))
    refl

-- the steps of `glyph`
module _ (d : ℕ) where
  pub low_glyph : d < 10 → 48 + d ≡ glyph d
  unfolding glyph
  low_glyph h = simp (lt-ltb d 10 h)

  pub high_glyph : 10 ≤ d → 97 + (d - 10) ≡ glyph d
  unfolding glyph
  high_glyph h = simp (le-ltb d 10 h) (omega arith)

  -- a value's digit has that value
  pub value_glyph : d < 16 → value (glyph d) ≡ d
  unfolding glyph
  value_glyph h =
      picked (λ g. value g ≡ d) (ltb d 10)
      (λ t. let l = ltb-true d 10 t in sym (decimal_value (48 + d) (omega arith) (omega arith)) ∙ omega arith)
      (λ t. let l = ltb-false d 10 t in sym (lower_value (87 + d) (omega arith) (omega arith)) ∙ omega arith)

-- a digit's value has that digit, in lower case
module _ (c : ℕ) where
  not_upper : c < 65 → lower c ≡ c
  unfolding lower
  not_upper h = simp (below 65 90 c h)

  lower_already : 90 < c → lower c ≡ c
  unfolding lower
  lower_already h = simp (above 65 90 c h)

  from_upper : 65 ≤ c → c ≤ 90 → lower c ≡ c + 32
  unfolding lower
  from_upper h l = simp (inside 65 90 c h l)

  pub glyph_value : value c < 16 → glyph (value c) ≡ lower c
  glyph_value =
      value_cases (λ v. v < 16 → glyph v ≡ lower c) c
      (λ h l _. sym (low_glyph (c - 48) (omega arith)) ∙ omega (arith, not_upper (omega arith)))
      (λ h l _. sym (high_glyph (c - 87) (omega arith)) ∙ omega (arith, lower_already (omega arith)))
      (λ h l _. sym (high_glyph (c - 55) (omega arith)) ∙ omega (arith, from_upper h (omega arith)))
      (λ k. absurd (omega arith))

  pub glyph_digit : value c < 10 → glyph (value c) ≡ c
  glyph_digit =
      value_cases (λ v. v < 10 → glyph v ≡ c) c
      (λ h l _. sym (low_glyph (c - 48) (omega arith)) ∙ omega arith)
      (λ h l k. absurd (omega arith))
      (λ h l k. absurd (omega arith))
      (λ k. absurd (omega arith))
