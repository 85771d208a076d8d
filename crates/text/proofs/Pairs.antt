-- Two digits to a byte: how many there are, and which stands where.
use mathlib.Core.Path.{◌≡◌, refl, sym, ap, ap₂, ◌∙◌}
use mathlib.Core.List.{List, [], ◌∷◌}
use Prim.Native.Nat.{ℕ, zero, suc, ◌+◌, ◌*◌, ◌/◌, ◌%◌, ◌≤◌, ◌<◌}
use native.Mathlib.Omega.{arith}
use lib.ListN.{length, get_or, set}
use Rattle.text.specs.Digits.{value, glyph}
use Rattle.text.specs.Hex.{dash, bytes_of, pairs, hex_word}
use Rattle.text.proofs.Rooms.{begun, next}

pub bytes_long : (w : List ℕ) → length (bytes_of w) ≡ length w / 2
unfolding bytes_of
bytes_long [] = refl
bytes_long (c ∷ []) = refl
bytes_long (c ∷ (d ∷ w)) = omega (arith, bytes_long w)

pub pairs_long : (bs : List ℕ) → length (pairs bs) ≡ length bs * 2
unfolding pairs
pairs_long [] = refl
pairs_long (b ∷ bs) = omega (arith, pairs_long bs)

-- the place of a pair's first digit, and of its second, one pair on
first_on : (i : ℕ) → suc i * 2 ≡ suc (suc (i * 2))
first_on i = omega arith

second_on : (i : ℕ) → suc i * 2 + 1 ≡ suc (suc (i * 2 + 1))
second_on i = omega arith

pub byte_at : (w : List ℕ) (i : ℕ) → i < length w / 2
    → get_or (bytes_of w) i 0 ≡ value (get_or w (i * 2) 0) * 16 + value (get_or w (i * 2 + 1) 0)
unfolding bytes_of
byte_at [] i h = absurd (omega arith)
byte_at (c ∷ []) i h = absurd (omega arith)
byte_at (c ∷ (d ∷ w)) zero h = refl
byte_at (c ∷ (d ∷ w)) (suc i) h = rw (second_on, first_on) (byte_at w i (omega arith))

pub high_at : (bs : List ℕ) (i : ℕ) → i < length bs → get_or (pairs bs) (i * 2) 0 ≡ glyph (get_or bs i 0 / 16)
unfolding pairs
high_at [] i h = absurd (omega arith)
high_at (b ∷ bs) zero h = refl
high_at (b ∷ bs) (suc i) h = rw first_on (high_at bs i (omega arith))

pub low_at : (bs : List ℕ) (i : ℕ) → i < length bs → get_or (pairs bs) (i * 2 + 1) 0 ≡ glyph (get_or bs i 0 % 16)
unfolding pairs
low_at [] i h = absurd (omega arith)
low_at (b ∷ bs) zero h = refl
low_at (b ∷ bs) (suc i) h = rw second_on (low_at bs i (omega arith))

-- ---- the steps of the loops

-- one byte more is read
pub byte_next : (w room now : List ℕ) (i h l : ℕ) → i < length w / 2 → length w / 2 ≤ length room
    → now ≡ begun (bytes_of w) room i
    → h ≡ value (get_or w (i * 2) 0) → l ≡ value (get_or w (i * 2 + 1) 0)
    → set now i (h * 16 + l) ≡ begun (bytes_of w) room (i + 1)
byte_next w room now i h l b r e p q =
    let long = bytes_long w in
    next (bytes_of w) room i now (h * 16 + l) (omega arith) (omega arith) e
    (ap₂ (λ (x y : ℕ). x * 16 + y) p q ∙ sym (byte_at w i b))

-- two digits more are written
pub pair_next : (bs room now : List ℕ) (i h l : ℕ) → i < length bs → length bs * 2 ≤ length room
    → now ≡ begun (pairs bs) room (i * 2)
    → h ≡ glyph (get_or bs i 0 / 16) → l ≡ glyph (get_or bs i 0 % 16)
    → set (set now (i * 2) h) (i * 2 + 1) l ≡ begun (pairs bs) room ((i + 1) * 2)
pair_next bs room now i h l b r e p q =
    let long = pairs_long bs in
    let high = next (pairs bs) room (i * 2) now h (omega arith) (omega arith) e (p ∙ sym (high_at bs i b)) in
    let on : i * 2 + 1 + 1 ≡ (i + 1) * 2 = omega arith in
    next (pairs bs) room (i * 2 + 1) (set now (i * 2) h) l (omega arith) (omega arith) high (q ∙ sym (low_at bs i b))
    ∙ ap (begun (pairs bs) room) on

-- the word of bytes, where there are none, and where there are
pub none_word : (bs : List ℕ) → length bs ≡ 0 → dash ∷ [] ≡ hex_word bs
unfolding hex_word
none_word [] h = refl
none_word (b ∷ bs) h = absurd (omega arith)

pub some_word : (bs : List ℕ) → (length bs ≡ 0 → ⊥) → pairs bs ≡ hex_word bs
unfolding hex_word
some_word [] h = absurd (h refl)
some_word (b ∷ bs) h = refl
