-- Words of digits, one character at a time.
use mathlib.Core.Path.{◌≡◌, refl, sym, ap, ◌∙◌}
use mathlib.Core.Bool.{Bool, true, false, ◌&&◌}
use mathlib.Core.List.{List, [], ◌∷◌}
use Prim.Native.Nat.{ℕ, zero, suc, ◌<◌}
use native.Mathlib.Omega.{arith}
use lib.Dec.{leb, ltb}
use lib.ListN.{length, get_or}
use borrow.Author.Tests.{le-leb, ltb-true}
use Rattle.std.specs.List.{list_all}
use Rattle.ground.specs.Choice.{both}
use Rattle.text.specs.Digits.{value, digits, is_word}
use Rattle.text.proofs.Choices.{each}

-- a test more of all
and_both : (p : Bool) {q r : Bool} → q ≡ r → (p && q) ≡ both p r
and_both true e = e
and_both false e = refl

-- what `is_word` tests of each character
digits_all : (base : ℕ) (w : List ℕ) → list_all (λ (c : ℕ). ltb (value c) base) w ≡ digits base w
unfolding digits
digits_all base [] = refl
digits_all base (c ∷ w) = and_both (ltb (value c) base) (digits_all base w)

pub word : (base : ℕ) (w : List ℕ) (all : Bool) → (length w ≡ 0 → ⊥) → all ≡ list_all (λ (c : ℕ). ltb (value c) base) w
    → all ≡ is_word base w
word base w all some e =
    e ∙ digits_all base w ∙ sym (ap (λ (b : Bool). both b (digits base w)) (le-leb 1 (length w) (omega arith)))

-- each digit of a word is below the base
pub digit_at : (base : ℕ) (w : List ℕ) (i : ℕ) → digits base w ≡ true → i < length w → value (get_or w i 0) < base
unfolding digits
digit_at base [] i h l = absurd (omega arith)
digit_at base (c ∷ w) zero h l = ltb-true (value c) base (each _ (digits base w) h).0
digit_at base (c ∷ w) (suc i) h l = digit_at base w i (each (ltb (value c) base) _ h).1 (omega arith)

pub all_digits : (base : ℕ) (w : List ℕ) → is_word base w ≡ true → digits base w ≡ true
all_digits base w h = (each (leb 1 (length w)) (digits base w) h).1
