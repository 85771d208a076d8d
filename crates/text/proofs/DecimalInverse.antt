-- Reading and writing decimal undo each other.
use Rattle.std.specs.Prelude.{Result, Ok, ℕ}
use Rattle.text.specs.declared.DecimalFault.{DecimalFault}
use mathlib.Core.Path.{◌≡◌, refl, sym, ap, ap₂, ◌∙◌}
use mathlib.Core.Bool.{true, not}
use mathlib.Core.List.{List, [], ◌∷◌, ◌++◌, append-nil}
use Prim.Native.Nat.{ℕ, ◌+◌, ◌*◌, ◌/◌, ◌%◌, ◌≤◌, ◌<◌}
use native.Mathlib.Nat.{zero-add, div-div-eq-div-mul, div-add-mod'}
use native.Mathlib.Omega.{arith}
use lib.Dec.{eqb, ltb}
use lib.ListN.{length}
use lib.Seq.{append_snoc}
use borrow.Author.Tests.{lt-ltb, eqb-true, ltb-true, ltb-false, le-leb, not-false}
use Rattle.ground.specs.Choice.{both}
use Rattle.text.specs.Digits.{value, glyph, digits, is_word}
use Rattle.text.specs.Decimal.{
  behind,
  number_of,
  largest,
  decimal_read,
  zero_digit,
  stripped,
  or_zero,
  trimmed,
  five_digits,
  decimal_word,
}
use Rattle.text.specs.Inverse.{DecimalBack, DecimalAgain}
use Rattle.text.proofs.Choices.{picked, each, never}
use Rattle.text.proofs.Values.{value_glyph, glyph_digit}
use Rattle.text.proofs.Words.{all_digits}
use Rattle.text.proofs.Rooms.{stands}
use Rattle.text.proofs.Decimals.{behind_grows, number}

-- ---- what is written, read

digit_value : (n : ℕ) → value (glyph (n % 10)) ≡ n % 10
digit_value n = value_glyph (n % 10) (omega arith)

digit_small : (n : ℕ) → ltb (value (glyph (n % 10))) 10 ≡ true
digit_small n = rw (digit_value n) (lt-ltb (n % 10) 10 (omega arith))

five_digits_lem : (n : ℕ) → digits 10 (five_digits n) ≡ true
unfolding digits five_digits
five_digits_lem n = simp digit_small

-- a place more: all digits up to it
place : (n k : ℕ) → n / (k * 10) * 10 + n / k % 10 ≡ n / k
place n k = ap (λ (x : ℕ). x * 10 + n / k % 10) (sym (div-div-eq-div-mul n k 10)) ∙ div-add-mod' (n / k) 10

five_number : (n : ℕ) → n ≤ largest → number_of (five_digits n) ≡ n
unfolding behind five_digits
five_number n h =
    let first : n / 10000 % 10 ≡ n / 10000 = omega arith in
    simp (digit_value, zero-add) (simp (first, place n 1000, place n 100, place n 10, div-add-mod' n 10))

-- leading zeros don't count
stripped_number : (w : List ℕ) → number_of (stripped w) ≡ number_of w
unfolding behind stripped value
stripped_number [] = refl
stripped_number (c ∷ w) =
    picked (λ (l : List ℕ). number_of l ≡ number_of (c ∷ w)) (eqb c zero_digit)
    (λ t. rw (eqb-true c zero_digit t) (stripped_number w))
    (λ t. refl)

stripped_digits : (w : List ℕ) → digits 10 w ≡ true → digits 10 (stripped w) ≡ true
unfolding digits stripped
stripped_digits [] h = refl
stripped_digits (c ∷ w) h =
    picked (λ (l : List ℕ). digits 10 l ≡ true) (eqb c zero_digit)
    (λ t. stripped_digits w (each (ltb (value c) 10) _ h).1) (λ t. h)

-- nor does the `0` that stands for no digit
zero_number : (w : List ℕ) → number_of (or_zero w) ≡ number_of w
unfolding behind value
zero_number [] = refl
zero_number (c ∷ w) = refl

zero_word : (w : List ℕ) → digits 10 w ≡ true → is_word 10 (or_zero w) ≡ true
unfolding digits value
zero_word [] h = refl
zero_word (c ∷ w) h = ap₂ both (le-leb 1 (length (c ∷ w)) (omega arith)) h

read_written : (n : ℕ) → n ≤ largest → decimal_read (decimal_word n) ≡ Ok n
read_written n h =
    sym (number (decimal_word n)
    (zero_word (stripped (five_digits n)) (stripped_digits (five_digits n) (five_digits_lem n))) n
    h
    (zero_number (stripped (five_digits n)) ∙ stripped_number (five_digits n) ∙ five_number n h))

-- ---- what is read, written

-- leading zeros may be dropped before more digits follow
stripped_behind : (w u : List ℕ) → stripped (stripped w ++ u) ≡ stripped (w ++ u)
unfolding stripped
stripped_behind [] u = refl
stripped_behind (c ∷ w) u =
    picked (λ (l : List ℕ). stripped (l ++ u) ≡ stripped (c ∷ (w ++ u))) (eqb c zero_digit)
    (λ t. rw t (stripped_behind w u)) (λ t. refl)

no_digits : stripped [] ≡ stripped (five_digits 0)
unfolding stripped five_digits glyph
no_digits = refl

-- one digit more: the first of the five was a zero
zero_first : (w : List ℕ) → stripped (glyph 0 ∷ w) ≡ stripped w
unfolding stripped glyph
zero_first w = refl

module _ (n d : ℕ) (h : d < 10) where
  tenth : (n * 10 + d) / 10 ≡ n
  tenth = omega arith

  further : (k : ℕ) → (n * 10 + d) / (10 * k) ≡ n / k
  further k = sym (div-div-eq-div-mul (n * 10 + d) 10 k) ∙ ap (λ (x : ℕ). x / k) tenth

  five_behind : n * 10 + d ≤ largest → stripped (five_digits n ++ (glyph d ∷ [])) ≡ stripped (five_digits (n * 10 + d))
  unfolding five_digits
  five_behind l =
      let none : n / 10000 % 10 ≡ 0 = omega arith in
      let last : (n * 10 + d) % 10 ≡ d = omega arith in
      rw none (zero_first _ ∙ ap stripped (simp (further 1000, further 100, further 10, tenth, last)))

number_again : (w p : List ℕ) (n : ℕ) → digits 10 w ≡ true → behind n w ≤ largest
    → stripped p ≡ stripped (five_digits n)
    → stripped (p ++ w) ≡ stripped (five_digits (behind n w))
unfolding behind digits
number_again [] p n h l e = ap stripped (append-nil p) ∙ e
number_again (c ∷ w) p n h l e =
    let first = each (ltb (value c) 10) (digits 10 w) h in
    let d : value c < 10 = ltb-true (value c) 10 first.0 in
    let grown = behind_grows (n * 10 + value c) w in
    let on : stripped (p ++ (c ∷ [])) ≡ stripped (five_digits (n * 10 + value c)) =
    sym (stripped_behind p (c ∷ [])) ∙ ap (λ (l : List ℕ). stripped (l ++ (c ∷ []))) e
    ∙ stripped_behind (five_digits n) (c ∷ [])
    ∙ ap (λ (x : ℕ). stripped (five_digits n ++ (x ∷ []))) (sym (glyph_digit c d))
    ∙ five_behind n (value c) d (omega arith) in
    ap stripped (sym (append_snoc p c w)) ∙ number_again w (p ++ (c ∷ [])) (n * 10 + value c) first.1 l on

-- a word that is read is digits, and their number is not too large
module _ (w : List ℕ) (n : ℕ) where
  abbrev Read : Result ℕ DecimalFault → Type 0
  Read r = r ≡ Ok n → decimal_word n ≡ trimmed w

  written_read : Read (decimal_read w)
  unfolding decimal_read
  written_read =
      picked Read (not (is_word 10 w)) (λ t e. never (cc))
      (λ t. picked Read (ltb largest (number_of w)) (λ l e. never (cc))
      (λ l e.
      let q : number_of w ≡ n = cc in
      let same = number_again w [] 0 (all_digits 10 w (not-false _ t)) (ltb-false largest (number_of w) l) no_digits in
      ap or_zero (ap (λ (x : ℕ). stripped (five_digits x)) (sym q) ∙ sym same)))

-- ---- the theorems

pub decimal_back : DecimalBack
decimal_back number room n text b h = ap decimal_read (stands (decimal_word number) room n text h)
    ∙ read_written number b

pub decimal_again : DecimalAgain
decimal_again word number room n text h k = stands (decimal_word number) room n text k ∙ written_read word number h
