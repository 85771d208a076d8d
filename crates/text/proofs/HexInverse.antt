-- Reading and writing hex undo each other.
use Rattle.std.specs.Prelude.{Result, Ok, ℕ}
use Rattle.text.specs.declared.HexFault.{HexFault}
use mathlib.Core.Path.{◌≡◌, refl, sym, ap, ap₂, ◌∙◌}
use mathlib.Core.Bool.{true, false, not, false≢true}
use mathlib.Core.List.{List, [], ◌∷◌, ◌++◌, map}
use Prim.Native.Nat.{ℕ, suc, ◌+◌, ◌*◌, ◌/◌, ◌%◌, ◌≤◌, ◌<◌}
use native.Mathlib.Omega.{arith}
use lib.Dec.{eqb, ltb}
use lib.ListN.{length, take, drop}
use lib.Seq.{take_at}
use borrow.Author.Tests.{lt-ltb, eqb-true, eqb-false, ltb-true, le-leb, leb-true, not-false}
use Rattle.ground.specs.Choice.{both}
use Rattle.text.specs.Digits.{value, glyph, digits, is_word}
use Rattle.text.specs.Hex.{dash, is_dash, bytes_of, hex_read, hex_room, ReadsHex, pairs, hex_word}
use Rattle.text.specs.Inverse.{EachByte, lower, HexBack, HexAgain}
use Rattle.text.proofs.Choices.{picked, each, never}
use Rattle.text.proofs.Values.{value_glyph, glyph_value}
use Rattle.text.proofs.Words.{all_digits}
use Rattle.text.proofs.Pairs.{bytes_long, pairs_long, some_word}
use Rattle.text.proofs.Rooms.{stands}
use Rattle.text.proofs.Readings.{no_bytes, bytes}

-- ---- what is written, read

high_value : (b : ℕ) → b < 256 → value (glyph (b / 16)) ≡ b / 16
high_value b h = value_glyph (b / 16) (omega arith)

low_value : (b : ℕ) → value (glyph (b % 16)) ≡ b % 16
low_value b = value_glyph (b % 16) (omega arith)

bytes_pairs : (bs : List ℕ) → EachByte bs → bytes_of (pairs bs) ≡ bs
unfolding bytes_of pairs
bytes_pairs [] h = refl
bytes_pairs (b ∷ bs) h =
    let whole : b / 16 * 16 + b % 16 ≡ b = omega arith in
    ap₂ ◌∷◌ (ap₂ (λ (x y : ℕ). x * 16 + y) (high_value b (h 0)) (low_value b) ∙ whole) (bytes_pairs bs (λ i. h (suc i)))

digits_pairs : (bs : List ℕ) → EachByte bs → digits 16 (pairs bs) ≡ true
unfolding digits pairs
digits_pairs [] h = refl
digits_pairs (b ∷ bs) h =
    let high : value (glyph (b / 16)) < 16 = rw (high_value b (h 0)) (omega (arith, h 0)) in
    let low : value (glyph (b % 16)) < 16 = rw (low_value b) (omega arith) in
    ap₂ both (lt-ltb _ 16 high) (ap₂ both (lt-ltb _ 16 low) (digits_pairs bs (λ i. h (suc i))))

no_dash : (b : ℕ) (bs : List ℕ) → is_dash (pairs (b ∷ bs)) ≡ false
unfolding is_dash pairs
no_dash b bs = refl

read_written : (bs room : List ℕ) → EachByte bs → length bs ≤ length room
    → ReadsHex (hex_word bs) room (Ok (length bs)) (bs ++ drop (length bs) room)
unfolding hex_word is_dash
read_written [] room h l = no_bytes (dash ∷ []) room refl
read_written (b ∷ bs) room h l =
    let all : List ℕ = b ∷ bs in
    let half : length (pairs all) / 2 ≡ length all = omega (arith, pairs_long all) in
    let word : is_word 16 (pairs all) ≡ true = ap₂ both (le-leb 1 (length (pairs all)) (omega (arith, pairs_long all)))
    (digits_pairs all h) in
    rw half at
    (bytes (pairs all) room (no_dash b bs) word (λ o. omega (arith, pairs_long all)) (omega (arith, pairs_long all))
    (all ++ drop (length all) room)
    (ap (λ (l : List ℕ). l ++ drop (length l) room) (sym (bytes_pairs all h))))

-- ---- what is read, written

-- a word that is read is `-`, or an even number of digits
module _ (w : List ℕ) (size n : ℕ) (G : Type 0) where
  abbrev Read : Result ℕ HexFault → Type 0
  Read r = r ≡ Ok n → G

  accepted : (is_dash w ≡ true → n ≡ 0 → G)
      → (is_word 16 w ≡ true → (length w % 2 ≡ 1 → ⊥) → n ≡ length (bytes_of w) → G)
      → Read (hex_read w size)
  unfolding hex_read
  accepted none some =
      picked Read (is_dash w) (λ d e. none d (cc))
      (λ d. picked Read (not (is_word 16 w)) (λ t e. never (cc))
      (λ t. picked Read (eqb (length w % 2) 1) (λ v e. never (cc))
      (λ v. picked Read (ltb size (length (bytes_of w))) (λ l e. never (cc))
      (λ l e. some (not-false _ t) (eqb-false (length w % 2) 1 v) (cc)))))

dash_again : (w : List ℕ) → is_dash w ≡ true → hex_word [] ≡ map lower w
unfolding hex_word is_dash lower
dash_again [] t = absurd (false≢true t)
dash_again (c ∷ []) t = ap (λ (x : ℕ). lower x ∷ []) (sym (eqb-true c dash t))
dash_again (c ∷ (d ∷ w)) t = absurd (false≢true t)

pairs_again : (w : List ℕ) → digits 16 w ≡ true → (length w % 2 ≡ 1 → ⊥) → pairs (bytes_of w) ≡ map lower w
unfolding bytes_of pairs digits
pairs_again [] h e = refl
pairs_again (c ∷ []) h e = absurd (e refl)
pairs_again (c ∷ (d ∷ w)) h e =
    let first = each (ltb (value c) 16) _ h in
    let second = each (ltb (value d) 16) (digits 16 w) first.1 in
    let x : value c < 16 = ltb-true (value c) 16 first.0 in
    let y : value d < 16 = ltb-true (value d) 16 second.0 in
    let high : (value c * 16 + value d) / 16 ≡ value c = omega arith in
    let low : (value c * 16 + value d) % 16 ≡ value d = omega arith in
    ap₂ ◌∷◌ (ap glyph high ∙ glyph_value c x) (ap₂ ◌∷◌ (ap glyph low ∙ glyph_value d y)
    (pairs_again w second.1 (λ o. e (omega arith))))

written_read : (w room : List ℕ) (n : ℕ) (after : List ℕ) → ReadsHex w room (Ok n) after
    → hex_word (take n after) ≡ map lower w
written_read w room n after h =
    let held : after ≡ bytes_of w ++ drop n room = h.holds
    ∙ ap (λ (r : Result ℕ HexFault). hex_room r (bytes_of w) room) (sym h.says) in
    accepted w (length room) n (hex_word (take n after) ≡ map lower w)
    (λ d z. rw z (dash_again w d))
    (λ t v e.
    let got : take n after ≡ bytes_of w = ap (take n) held ∙ take_at (bytes_of w) (drop n room) n (sym e) in
    let long = leb-true 1 (length w) (each _ (digits 16 w) t).0 in
    rw got (sym (some_word (bytes_of w) (λ z. omega (arith, bytes_long w))) ∙ pairs_again w (all_digits 16 w t) v))
    (sym h.says)

-- ---- the theorems

pub hex_back : HexBack
hex_back bytes room other n text r after b h f k =
    let w = read_written bytes other b f in
    let g : ReadsHex (hex_word bytes) other r after = rw (stands (hex_word bytes) room n text h) at k in
    (g.says ∙ sym w.says, g.holds ∙ sym w.holds)

pub hex_again : HexAgain
hex_again word room other n after m text h k = stands (hex_word (take n after)) other m text k
    ∙ written_read word room n after h
