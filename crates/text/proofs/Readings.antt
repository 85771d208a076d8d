-- The answers of `read_hex`, each test taken or left.
use Rattle.std.specs.Prelude.{Result, Ok, Err, ℕ}
use Rattle.text.specs.declared.HexFault.TheVariants.{NotHex, Odd, Over}
use Rattle.text.specs.declared.HexFault.{HexFault}
use mathlib.Core.Path.{◌≡◌, refl, sym, ap, ◌∙◌}
use Rattle.std.proofs.Math.Bool.{and-true, and-false}
use mathlib.Core.Bool.{true, false, not, false≢true}
use mathlib.Core.List.{List, [], ◌∷◌, ◌++◌}
use Prim.Native.Nat.{ℕ, ◌%◌, ◌/◌, ◌≤◌, ◌<◌}
use native.Mathlib.Omega.{arith}
use lib.Dec.{eqb, ltb}
use lib.Pointwise.{pointwise}
use lib.ListN.{length, drop}
use borrow.Author.Tests.{ltb-false, eq-eqb, ne_eqb, lt-ltb, le-ltb}
use Rattle.text.specs.Digits.{is_word}
use Rattle.text.specs.Hex.{dash, is_dash, bytes_of, hex_read, hex_room, ReadsHex}
use Rattle.text.proofs.Choices.{picked, never}
use Rattle.text.proofs.Pairs.{bytes_long}

-- what `is_dash` tests
pub one_dash : (w : List ℕ) → pointwise eqb w (dash ∷ []) ≡ is_dash w
unfolding is_dash
one_dash [] = refl
one_dash (c ∷ []) = and-true (eqb c dash)
one_dash (c ∷ (d ∷ w)) = and-false (eqb c dash)

-- `-` has no bytes
dash_bytes : (w : List ℕ) → is_dash w ≡ true → bytes_of w ≡ []
unfolding is_dash bytes_of
dash_bytes [] h = refl
dash_bytes (c ∷ []) h = refl
dash_bytes (c ∷ (d ∷ w)) h = absurd (false≢true h)

-- an answer, and what it leaves in the room
module _ (w room : List ℕ) where
  answered : (r : Result ℕ HexFault) (after : List ℕ) → hex_read w (length room) ≡ r
      → after ≡ hex_room r (bytes_of w) room → ReadsHex w room r after
  answered r after e f = record {
    says = sym e;
    holds = f ∙ ap (λ (a : Result ℕ HexFault). hex_room a (bytes_of w) room) (sym e);
  }

  pub no_bytes : is_dash w ≡ true → ReadsHex w room (Ok 0) room
  unfolding hex_read
  no_bytes t = answered (Ok 0) room (simp t) (simp (dash_bytes w t))

  pub not_hex : is_dash w ≡ false → is_word 16 w ≡ false → ReadsHex w room (Err NotHex) room
  unfolding hex_read
  not_hex d t = answered (Err NotHex) room (simp (d, t)) refl

  pub odd : is_dash w ≡ false → is_word 16 w ≡ true → length w % 2 ≡ 1 → ReadsHex w room (Err Odd) room
  unfolding hex_read
  odd d t h = answered (Err Odd) room (simp (d, t, eq-eqb _ _ h)) refl

  pub over : is_dash w ≡ false → is_word 16 w ≡ true → (length w % 2 ≡ 1 → ⊥) → length room < length w / 2
      → ReadsHex w room (Err Over) room
  unfolding hex_read
  over d t h l = answered (Err Over) room (simp (d, t, ne_eqb _ _ h, bytes_long, lt-ltb _ _ l)) refl

  pub bytes : is_dash w ≡ false → is_word 16 w ≡ true → (length w % 2 ≡ 1 → ⊥) → length w / 2 ≤ length room
      → (after : List ℕ)
      → after ≡ bytes_of w ++ drop (length (bytes_of w)) room → ReadsHex w room (Ok (length w / 2)) after
  unfolding hex_read
  bytes d t h l after e = answered (Ok (length w / 2)) after (simp (d, t, ne_eqb _ _ h, bytes_long, le-ltb _ _ l))
      (e ∙ simp bytes_long)

-- no more bytes are read than the room has
module _ (w : List ℕ) (size n : ℕ) where
  abbrev Within : Result ℕ HexFault → Type 0
  Within r = r ≡ Ok n → n ≤ size

  read_fits : Within (hex_read w size)
  unfolding hex_read
  read_fits =
      picked Within (is_dash w) (λ d e. let none : n ≡ 0 = cc in omega arith)
      (λ d. picked Within (not (is_word 16 w)) (λ t e. never (cc))
      (λ t. picked Within (eqb (length w % 2) 1) (λ v e. never (cc))
      (λ v. picked Within (ltb size (length (bytes_of w))) (λ l e. never (cc))
      (λ l e. let some : n ≡ length (bytes_of w) = cc in
      omega (arith, ltb-false size (length (bytes_of w)) l)))))

pub read_within : (w room : List ℕ) (n : ℕ) (after : List ℕ) → ReadsHex w room (Ok n) after → n ≤ length room
read_within w room n after h = read_fits w (length room) n (sym h.says)
