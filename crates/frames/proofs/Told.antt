-- What the first two bytes of a block tell of its constant and its Purpose.
use mathlib.Core.Path.{◌≡◌, ap}
use mathlib.Core.List.{List, [], ◌∷◌}
use Prim.Native.Nat.{ℕ, ◌+◌, ◌*◌, ◌/◌, ◌%◌, ◌<◌}
use native.Mathlib.Omega.{arith}
use Rattle.ground.specs.Bytes.{byte_at, two_bytes}
use Rattle.frames.specs.Constants.{with_purpose}

-- the bytes of a 12-bit constant with the Purpose that came are the bytes that came exactly where the constant came
pub constant_told : (c x y : ℕ) → y < 256 → x * 16 + y / 16 ≡ c → with_purpose c (y % 16) ≡ x ∷ y ∷ []
unfolding with_purpose
constant_told c x y hy e =
    let a : c / 16 ≡ x = omega arith in
    let b : c % 16 * 16 + y % 16 % 16 ≡ y = omega arith in
    λ i. a i ∷ b i ∷ []

pub constant_only : (c x y : ℕ) → y < 256 → with_purpose c (y % 16) ≡ x ∷ y ∷ [] → x * 16 + y / 16 ≡ c
unfolding with_purpose
constant_only c x y hy e =
    let a : c / 16 ≡ x = ap (λ (l : List ℕ). byte_at l 0) e in
    let b : c % 16 * 16 + y % 16 % 16 ≡ y = ap (λ (l : List ℕ). byte_at l 1) e in
    omega arith

-- Purpose comes back
pub purpose_told : (c p : ℕ) → p < 16 → byte_at (with_purpose c p) 1 % 16 ≡ p
unfolding with_purpose
purpose_told c p h = omega arith

-- a 16-bit constant comes back
pub two_told : (c : ℕ) → byte_at (two_bytes c) 0 * 256 + byte_at (two_bytes c) 1 ≡ c
two_told c = omega arith
