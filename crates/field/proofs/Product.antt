-- The product of the field is linear in its second factor; and two linear maps that agree at the eight bits agree at
-- each byte.
use mathlib.Core.Path.{◌≡◌, refl, sym, ap, ap₂, ◌∙◌}
use mathlib.Core.Logic.{◌⊎◌, inl, inr, ⊎_elim}
use Prim.Native.Nat.{ℕ, zero, suc, ◌+◌, ◌-◌, ◌*◌, ◌/◌, ◌%◌, ◌^◌, ◌<◌, ◌≤◌}
use native.Mathlib.Nat.{zero-mul, one-mul, two-pow-succ}
use native.Mathlib.Omega.{arith}
use lib.Bits.{bit_xor, xor_shr, xor_mod, xor_self, xor_zero_r, xor_shifted}
use Rattle.field.specs.Field.{times, remainder, polynomial_product}
use Rattle.field.specs.Block.{tabulated}
use Rattle.field.proofs.Table.{same_at}
use Rattle.field.proofs.Sum.{on_digits, digit, xor_swap}

abbrev pub Linear : (ℕ → ℕ) → Type 0
Linear f = (a b : ℕ) → f (bit_xor a b) ≡ bit_xor (f a) (f b)

-- a digit of a sum, times a constant
digit_times : (m a b : ℕ) → bit_xor a b % 2 * m ≡ bit_xor (a % 2 * m) (b % 2 * m)
digit_times m a b = ap (λ (x : ℕ). x * m) (xor_mod a b 1)
    ∙ on_digits (λ x. bit_xor x (b % 2) * m ≡ bit_xor (x * m) (b % 2 * m))
    (on_digits (λ y. bit_xor 0 y * m ≡ bit_xor (0 * m) (y * m)) (zero-mul m ∙ sym (xor_self (0 * m)))
    (ap (λ (x : ℕ). bit_xor x (1 * m)) (sym (zero-mul m))) (b % 2) (digit b))
    (on_digits (λ y. bit_xor 1 y * m ≡ bit_xor (1 * m) (y * m))
    (sym (ap (bit_xor (1 * m)) (zero-mul m) ∙ xor_zero_r (1 * m))) (zero-mul m ∙ sym (xor_self (1 * m))) (b % 2)
    (digit b))
    (a % 2) (digit a)

product_linear : (n a : ℕ) → Linear (polynomial_product n a)
unfolding polynomial_product
product_linear zero a b c = refl
product_linear (suc n) a b c =
    ap₂ bit_xor (digit_times a b c) (ap (polynomial_product n (a * 2)) (xor_shr b c 1)
    ∙ product_linear n (a * 2) (b / 2) (c / 2))
    ∙ xor_swap (b % 2 * a) (c % 2 * a) (polynomial_product n (a * 2) (b / 2)) (polynomial_product n (a * 2) (c / 2))

remainder_linear : (n : ℕ) → Linear (remainder n)
unfolding remainder
remainder_linear zero u v = refl
remainder_linear (suc n) u v =
    let m : ℕ = 0x11B * 2 ^ n in
    let a : ℕ = u / 2 ^ (8 + n) in
    let b : ℕ = v / 2 ^ (8 + n) in
    ap (remainder n)
    (ap (λ (x : ℕ). bit_xor x (bit_xor u v)) (ap (λ (x : ℕ). x % 2 * m) (xor_shr u v (8 + n)) ∙ digit_times m a b)
    ∙ xor_swap (a % 2 * m) (b % 2 * m) u v)
    ∙ remainder_linear n (bit_xor (a % 2 * m) u) (bit_xor (b % 2 * m) v)

pub times_linear : (a : ℕ) → Linear (times a)
unfolding times
times_linear a b c = ap (remainder 7) (product_linear 8 a b c)
    ∙ remainder_linear 7 (polynomial_product 8 a b) (polynomial_product 8 a c)

pub sum_linear : (f g : ℕ → ℕ) → Linear f → Linear g → Linear (λ x. bit_xor (f x) (g x))
sum_linear f g hf hg a b = ap₂ bit_xor (hf a b) (hg a b) ∙ xor_swap (f a) (f b) (g a) (g b)

pub itself_linear : Linear (λ x. x)
itself_linear a b = refl

lt_or_le : (a b : ℕ) → (a < b) ⊎ (b ≤ a)
lt_or_le a zero = inr (omega arith)
lt_or_le zero (suc b) = inl (omega arith)
lt_or_le (suc a) (suc b) = ⊎_elim (λ (h : a < b). inl (omega arith)) (λ (h : b ≤ a). inr (omega arith)) (lt_or_le a b)

zero_of : (f : ℕ → ℕ) → Linear f → f 0 ≡ 0
zero_of f h = h 0 0 ∙ xor_self (f 0)

module _ (f g : ℕ → ℕ) (hf : Linear f) (hg : Linear g) where
  up_to : (n : ℕ) → ((k : ℕ) → k < n → f (2 ^ k) ≡ g (2 ^ k)) → (x : ℕ) → x < 2 ^ n → f x ≡ g x
  up_to zero h x lt = let e : x ≡ 0 = omega arith in ap f e ∙ zero_of f hf ∙ sym (zero_of g hg) ∙ ap g (sym e)
  up_to (suc n) h x lt = ⊎_elim
      (λ (low : x < 2 ^ n). up_to n (λ k less. h k (omega arith)) x low)
      (λ (high : 2 ^ n ≤ x).
      let r : ℕ = x - 2 ^ n in
      let small : r < 2 ^ n = omega (arith, two-pow-succ n) in
      let e : x ≡ bit_xor (2 ^ n) r = (let q : x ≡ 1 * 2 ^ n + r = omega arith in q) ∙ sym (xor_shifted 1 n r small)
      ∙ ap (λ (y : ℕ). bit_xor y r) (one-mul (2 ^ n)) in
      ap f e ∙ hf (2 ^ n) r ∙ ap₂ bit_xor (h n (omega arith)) (up_to n (λ k less. h k (omega arith)) r small)
      ∙ sym (hg (2 ^ n) r) ∙ ap g (sym e))
      (lt_or_le x (2 ^ n))

  -- two linear maps that agree at 1, 2, 4 .. 128 agree at each byte
  pub linear_same : tabulated (λ k. f (2 ^ k)) 8 ≡ tabulated (λ k. g (2 ^ k)) 8 → (x : ℕ) → x < 256 → f x ≡ g x
  linear_same e x lt = up_to 8 (same_at (λ k. f (2 ^ k)) (λ k. g (2 ^ k)) 8 e) x lt

-- a product by a constant is a byte, by a test over the bytes
pub times_byte : (c : ℕ) → tabulated (λ b. times c b / 256) 256 ≡ tabulated (λ b. 0) 256 → (b : ℕ) → b < 256
    → times c b < 256
times_byte c e b h = omega (arith, same_at (λ b. times c b / 256) (λ b. 0) 256 e b h)
