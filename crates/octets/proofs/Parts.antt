-- Bytes from a place on.
use mathlib.Core.Path.{◌≡◌, refl, sym, ap, ◌∙◌}
use mathlib.Core.List.{List, [], ◌∷◌, ◌++◌, append-nil}
use Prim.Native.Nat.{ℕ, zero, suc, ◌+◌, ◌≤◌, ◌<◌}
use native.Mathlib.Omega.{arith}
use native.Mathlib.Nat.{add-zero, zero-add, add-suc, suc-add, le_of_suc-le-suc, not-suc-le-zero}
use lib.ListN.{
  length,
  take,
  drop,
  get_or,
  replicate,
  length-drop,
  drop_of_length-le,
  take-append-drop,
  get_or-append,
}
use lib.Seq.{length-take-le, take_all, get_or-drop, ext_get_or}
use Rattle.octets.specs.Parts.{bytes_from}

pub bytes_length : (s : List ℕ) (i n : ℕ) → length (bytes_from s i n) ≡ n
unfolding bytes_from
bytes_length s i zero = refl
bytes_length s i (suc n) = ap suc (bytes_length s (suc i) n)

bytes_at : (s : List ℕ) (n i k : ℕ) → k < n → get_or (bytes_from s i n) k 0 ≡ get_or s (i + k) 0
unfolding bytes_from
bytes_at s zero i k h = absurd (not-suc-le-zero h)
bytes_at s (suc n) i zero h = ap (λ (j : ℕ). get_or s j 0) (sym (add-zero i))
bytes_at s (suc n) i (suc k) h =
    bytes_at s n (suc i) k (le_of_suc-le-suc h) ∙ ap (λ (j : ℕ). get_or s j 0) (suc-add i k ∙ sym (add-suc i k))

-- the bytes of a tail are bytes of the whole
pub bytes_drop : (s : List ℕ) (n a : ℕ) → bytes_from (drop a s) 0 n ≡ bytes_from s a n
bytes_drop s n a =
    ext_get_or 0 (bytes_from (drop a s) 0 n) (bytes_from s a n) (bytes_length (drop a s) 0 n ∙ sym (bytes_length s a n))
    (λ k lt.
    let h : k < n = omega (arith, bytes_length (drop a s) 0 n) in
    bytes_at (drop a s) n 0 k h ∙ ap (λ (j : ℕ). get_or (drop a s) j 0) (zero-add k) ∙ get_or-drop a s k 0
    ∙ sym (bytes_at s n a k h))

-- the bytes of a list that something follows, and of a whole list
pub front : (xs ys : List ℕ) (n : ℕ) → length xs ≡ n → bytes_from (xs ++ ys) 0 n ≡ xs
front xs ys n e =
    ext_get_or 0 (bytes_from (xs ++ ys) 0 n) xs (bytes_length (xs ++ ys) 0 n ∙ sym e)
    (λ k lt.
    let h : k < n = omega (arith, bytes_length (xs ++ ys) 0 n) in
    bytes_at (xs ++ ys) n 0 k h ∙ ap (λ (j : ℕ). get_or (xs ++ ys) j 0) (zero-add k)
    ∙ get_or-append xs ys 0 k (omega arith))

pub whole : (xs : List ℕ) (n : ℕ) → length xs ≡ n → bytes_from xs 0 n ≡ xs
whole xs n e = ap (λ (l : List ℕ). bytes_from l 0 n) (sym (append-nil xs)) ∙ front xs [] n e

-- the bytes of a list that has them
pub bytes_taken : (s : List ℕ) (n : ℕ) → n ≤ length s → bytes_from s 0 n ≡ take n s
bytes_taken s n h =
    sym (ap (λ (l : List ℕ). bytes_from l 0 n) (take-append-drop n s))
    ∙ front (take n s) (drop n s) n (length-take-le n s h)

pub bytes_within : (s : List ℕ) (n at : ℕ) → at + n ≤ length s → bytes_from s at n ≡ take n (drop at s)
bytes_within s n at h = sym (bytes_drop s n at) ∙ bytes_taken (drop at s) n (omega (arith, length-drop at s))

-- a copy into a room that it does not fill, and into one that it fills
pub copied_short : (s room r : List ℕ) → length s < length room → r ≡ s
    → r ++ drop (length s) room ≡ take (length room) s ++ drop (length s) room
copied_short s room r h e =
    ap (λ (l : List ℕ). l ++ drop (length s) room) (e ∙ sym (take_all (length room) s (omega arith)))

pub copied_full : (s room r : List ℕ) → length room ≤ length s → r ≡ take (length room) s
    → r ≡ take (length room) s ++ drop (length s) room
copied_full s room r h e =
    e ∙ sym (append-nil (take (length room) s))
    ∙ ap (λ (l : List ℕ). take (length room) s ++ l) (sym (drop_of_length-le room {i = length s} h))

-- what is copied over zeros
none_filled : (n : ℕ) → replicate n 0 ≡ bytes_from [] 0 n
unfolding bytes_from
none_filled zero = refl
none_filled (suc n) = ap (λ (l : List ℕ). 0 ∷ l) (none_filled n ∙ bytes_drop [] n 1)

pub zeros_filled : (s : List ℕ) (n : ℕ) → take n s ++ drop (length s) (replicate n 0) ≡ bytes_from s 0 n
unfolding bytes_from
zeros_filled s zero = drop_of_length-le [] {i = length s} (omega arith)
zeros_filled [] (suc n) = none_filled (suc n)
zeros_filled (x ∷ xs) (suc n) = ap (λ (l : List ℕ). x ∷ l) (zeros_filled xs n ∙ bytes_drop (x ∷ xs) n 1)
