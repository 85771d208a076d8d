-- Lists of zeros, and what is filled up with them.
use mathlib.Core.Path.{◌≡◌, refl, sym, ap, ◌∙◌}
use mathlib.Core.List.{List, [], ◌∷◌, ◌++◌, append_assoc}
use Prim.Native.Nat.{ℕ, zero, suc, ◌+◌, ◌-◌, ◌≤◌}
use native.Mathlib.Omega.{arith}
use lib.ListN.{length, take, drop, replicate, length-append, length-replicate}
use Rattle.modes.specs.Room.{over}
use Rattle.payload.specs.Data.{filled}

abbrev pub zeros_of : ℕ → List ℕ
zeros_of n = replicate n 0

pub zeros_long : (n : ℕ) → length (zeros_of n) ≡ n
zeros_long n = length-replicate {A = ℕ} n 0

pub take_zeros : (n k : ℕ) → k ≤ n → take k (zeros_of n) ≡ zeros_of k
take_zeros n zero h = refl
take_zeros zero (suc k) h = absurd (let z : ⊥ = omega arith in z)
take_zeros (suc n) (suc k) h = ap {B = List ℕ} (λ l. 0 ∷ l) (take_zeros n k (omega arith))

drop_zeros : (n k : ℕ) → drop k (zeros_of n) ≡ zeros_of (n - k)
drop_zeros n zero = ap zeros_of (let e : n ≡ n - 0 = omega arith in e)
drop_zeros zero (suc k) = ap zeros_of (let e : 0 ≡ 0 - suc k = omega arith in e)
drop_zeros (suc n) (suc k) = drop_zeros n k ∙ ap zeros_of (let e : n - k ≡ suc n - suc k = omega arith in e)

-- what is put over zeros is filled up with them
pub zeros_filled : (n : ℕ) (s : List ℕ) → over s (zeros_of n) ≡ filled n s
unfolding filled
zeros_filled n s = ap (λ (l : List ℕ). s ++ l) (drop_zeros n (length s))

-- and what is filled up to k bytes has in its first n what is filled up to n
pub filled_part : (s : List ℕ) (n k : ℕ) → length s ≤ n → n ≤ k → take n (filled k s) ≡ filled n s
unfolding filled
filled_part [] n k h l = ap (take n) (ap zeros_of (let e : k - 0 ≡ k = omega arith in e)) ∙ take_zeros k n l
    ∙ ap zeros_of (let e : n ≡ n - 0 = omega arith in e)
filled_part (x ∷ s) zero k h l = absurd (let z : ⊥ = omega arith in z)
filled_part (x ∷ s) (suc n) zero h l = absurd (let z : ⊥ = omega arith in z)
filled_part (x ∷ s) (suc n) (suc k) h l =
    ap {B = List ℕ} (λ t. x ∷ t)
    (ap (λ (i : ℕ). take n (s ++ zeros_of i)) (let e : suc k - suc (length s) ≡ k - length s = omega arith in e)
    ∙ filled_part s n k (omega arith) (omega arith)
    ∙ ap (λ (i : ℕ). s ++ zeros_of i) (let e : n - length s ≡ suc n - suc (length s) = omega arith in e))

pub filled_long : (n : ℕ) (s : List ℕ) → length s ≤ n → length (filled n s) ≡ n
unfolding filled
filled_long n s h = omega (arith, zeros_long (n - length s), length-append s (zeros_of (n - length s)))

zeros_joined : (a b : ℕ) → zeros_of a ++ zeros_of b ≡ zeros_of (a + b)
zeros_joined zero b = ap zeros_of (let e : b ≡ 0 + b = omega arith in e)
zeros_joined (suc a) b =
    ap {B = List ℕ} (λ l. 0 ∷ l) (zeros_joined a b) ∙ ap zeros_of (let e : suc (a + b) ≡ suc a + b = omega arith in e)

-- what was filled up to n bytes, and stands behind h, is filled up to m as it was before
pub filled_twice : (h w : List ℕ) (n m : ℕ) → length w ≤ n → length h + n ≤ m
    → filled m (h ++ filled n w) ≡ filled m (h ++ w)
unfolding filled
filled_twice h w n m few fit =
    let z = n - length w in
    let long : length (h ++ (w ++ zeros_of z)) ≡ length h + n =
    omega (arith, length-append h (w ++ zeros_of z), length-append w (zeros_of z), zeros_long z) in
    let rest = m - length (h ++ (w ++ zeros_of z)) in
    let same : z + rest ≡ m - length (h ++ w) = omega (arith, long, length-append h w) in
    append_assoc h (w ++ zeros_of z) (zeros_of rest)
    ∙ ap (λ (l : List ℕ). h ++ l) (append_assoc w (zeros_of z) (zeros_of rest)
    ∙ ap (λ (l : List ℕ). w ++ l) (zeros_joined z rest ∙ ap zeros_of same))
    ∙ sym (append_assoc h w (zeros_of (m - length (h ++ w))))
