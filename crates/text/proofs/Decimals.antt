-- The number of a word, digit by digit, and the zeros in front of it.
use Rattle.std.specs.Prelude.{Option, Some, None, Ok, Err}
use Rattle.text.specs.declared.DecimalFault.TheVariants.{NotNumber, Over}
use mathlib.Core.Path.{◌≡◌, refl, sym, ap, ◌∙◌}
use mathlib.Core.Bool.{Bool, true, false, not, cond}
use mathlib.Core.List.{List, [], ◌∷◌}
use Prim.Native.Nat.{ℕ, zero, suc, ◌+◌, ◌-◌, ◌*◌, ◌≤◌, ◌<◌}
use native.Mathlib.Numerals.{add-one}
use native.Mathlib.Nat.{le_refl}
use native.Mathlib.Omega.{arith}
use lib.Dec.{eqb, ltb}
use Rattle.std.specs.List.{position, position_or_len}
use Rattle.std.specs.Option.{unwrap_or}
use Rattle.ground.specs.Choice.{pick}
use lib.ListN.{length, take, drop, get_or, length-drop, drop_of_length-le}
use lib.Seq.{drop-cons, take_all}
use borrow.Author.Tests.{eqb-true, lt-ltb, le-ltb, ltb-true, ltb-false}
use Rattle.text.specs.Digits.{value, is_word}
use Rattle.text.specs.Decimal.{
  behind,
  number_of,
  largest,
  decimal_read,
  zero_digit,
  stripped,
  or_zero,
  trimmed,
  five_digits,
  decimal_word,
}
use Rattle.text.proofs.Choices.{picked, never}

-- more digits make no number smaller
pub behind_grows : (n : ℕ) (w : List ℕ) → n ≤ behind n w
unfolding behind
behind_grows n [] = le_refl n
behind_grows n (c ∷ w) = omega (arith, behind_grows (n * 10 + value c) w)

-- the steps of `read_decimal`
module _ (w : List ℕ) where
  pub digit_behind : (n i m : ℕ) → i < length w → behind n (drop i w) ≡ number_of w
      → m ≡ n * 10 + value (get_or w i 0) → behind m (drop (i + 1) w) ≡ number_of w
  unfolding behind
  digit_behind n i m h e f = rw (f, add-one) (rw (drop-cons w i 0 h) at e)

  -- a number that has grown past the largest stays past it
  pub past : (n i m : ℕ) → i < length w → behind n (drop i w) ≡ number_of w
      → m ≡ n * 10 + value (get_or w i 0) → largest < m → largest < number_of w
  past n i m h e f l = omega (arith, digit_behind n i m h e f, behind_grows m (drop (i + 1) w))

  pub none_behind : (n i : ℕ) → length w ≤ i → behind n (drop i w) ≡ n
  unfolding behind
  none_behind n i h = rw (drop_of_length-le w {i = i} h)

  pub not_number : is_word 10 w ≡ false → (Err NotNumber) ≡ decimal_read w
  unfolding decimal_read
  not_number t = simp t

  pub too_large : is_word 10 w ≡ true → largest < number_of w → (Err Over) ≡ decimal_read w
  unfolding decimal_read
  too_large t h = simp (t, lt-ltb _ _ h)

  pub number : is_word 10 w ≡ true → (n : ℕ) → n ≤ largest → number_of w ≡ n → Ok n ≡ decimal_read w
  unfolding decimal_read
  number t n h e = simp (t, e, le-ltb _ _ h)

-- the steps of `zeros`: the place of the first digit that is not 0, and the last digit where there is none
abbrev pub not_zero : ℕ → Bool
not_zero c = not (eqb c zero_digit)

drop_zero : (c : ℕ) (w : List ℕ) (n m : ℕ) (test : Bool) → m ≡ suc n → drop n w ≡ stripped w
    → drop (cond (not (not test)) m 0) (c ∷ w) ≡ pick test (stripped w) (c ∷ w)
drop_zero c w n m true f e = rw f e
drop_zero c w n m false f e = refl

drop_zeros : (w : List ℕ) → drop (position_or_len not_zero w) w ≡ stripped w
unfolding stripped
drop_zeros [] = refl
drop_zeros (c ∷ w) =
    let n : ℕ = position_or_len not_zero w in
    drop_zero c w n (1 + n) (eqb c zero_digit) (omega arith) (drop_zeros w)

last_digit : (w : List ℕ) (n : ℕ) → length w ≡ suc n → stripped w ≡ [] → drop n w ≡ zero_digit ∷ []
unfolding stripped
last_digit [] n h e = absurd (omega arith)
last_digit (c ∷ []) zero h e =
    picked (λ (l : List ℕ). l ≡ [] → c ∷ [] ≡ zero_digit ∷ []) (eqb c zero_digit)
    (λ t f. ap (λ (d : ℕ). d ∷ []) (eqb-true c zero_digit t)) (λ t f. never (cc)) e
last_digit (c ∷ (d ∷ w)) zero h e = absurd (omega arith)
last_digit (c ∷ w) (suc n) h e =
    picked (λ (l : List ℕ). l ≡ [] → drop n w ≡ zero_digit ∷ []) (eqb c zero_digit)
    (λ t f. last_digit w n (omega arith) f) (λ t f. never (cc)) e

module _ (w : List ℕ) (some : 0 < length w) where
  abbrev Zeros : ℕ → Type 0
  Zeros n = (n < length w) × (drop n w ≡ trimmed w)

  zeros_if : (p : ℕ) (test : Bool) → ltb p (length w) ≡ test → drop p w ≡ stripped w
      → Zeros (unwrap_or (cond test (Some p) None) (length w - 1))
  zeros_if p true t e =
      let h : p < length w = ltb-true p (length w) t in
      let kept : or_zero (drop p w) ≡ drop p w = rw (drop-cons w p 0 h) refl in
      (h, sym kept ∙ ap or_zero e)
  zeros_if p false t e =
      let none : stripped w ≡ [] = sym e ∙ drop_of_length-le w {i = p} (ltb-false p (length w) t) in
      (omega arith, last_digit w (length w - 1) (omega arith) none ∙ sym (ap or_zero none))

  pub zeros_from : (r : Option ℕ) → r ≡ position not_zero w → Zeros (unwrap_or r (length w - 1))
  zeros_from r e = rw e (zeros_if (position_or_len not_zero w) _ refl (drop_zeros w))

-- the five digits without the zeros in front, as `write_decimal` takes them
pub five_word : (n zeros : ℕ) (five : List ℕ) → five ≡ five_digits n → drop zeros five ≡ trimmed five
    → take (5 - zeros) (drop zeros five) ≡ decimal_word n
unfolding five_digits
five_word n zeros five e f =
    take_all (5 - zeros) (drop zeros five) (simp length-drop (omega (arith, ap length e))) ∙ f ∙ ap trimmed e
