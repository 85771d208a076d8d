-- Laws of the exclusive or that lib.Bits does not have.
use mathlib.Core.Path.{◌≡◌, refl, sym, ap, ap₂, ◌∙◌}
use Prim.Native.Nat.{ℕ, zero, suc, ◌+◌, ◌*◌, ◌/◌, ◌%◌, ◌<◌}
use native.Mathlib.Nat.{mod-lt, le_of_suc-le-suc, not-suc-le-zero, zero-lt-suc}
use lib.Arith.{bin_ind}
use lib.Bits.{bit_xor, differ, xor_step, xor_shr, xor_mod, xor_comm, xor_self, xor_zero_r, xor_lt}

-- what holds of 0 and of 1 holds of a binary digit
pub on_digits : (P : ℕ → Type 0) → P 0 → P 1 → (x : ℕ) → x < 2 → P x
on_digits P p q zero h = p
on_digits P p q (suc zero) h = q
on_digits P p q (suc (suc x)) h = absurd (not-suc-le-zero (le_of_suc-le-suc (le_of_suc-le-suc h)))

pub digit : (a : ℕ) → a % 2 < 2
digit a = mod-lt a (zero-lt-suc 1)

digit_assoc : (x y z : ℕ) → x < 2 → y < 2 → z < 2 → differ (bit_xor x y) z ≡ differ x (bit_xor y z)
digit_assoc x y z hx hy hz =
    on_digits (λ x. differ (bit_xor x y) z ≡ differ x (bit_xor y z))
    (on_digits (λ y. differ (bit_xor 0 y) z ≡ differ 0 (bit_xor y z))
    (on_digits (λ z. differ (bit_xor 0 0) z ≡ differ 0 (bit_xor 0 z)) refl refl z hz)
    (on_digits (λ z. differ (bit_xor 0 1) z ≡ differ 0 (bit_xor 1 z)) refl refl z hz) y hy)
    (on_digits (λ y. differ (bit_xor 1 y) z ≡ differ 1 (bit_xor y z))
    (on_digits (λ z. differ (bit_xor 1 0) z ≡ differ 1 (bit_xor 0 z)) refl refl z hz)
    (on_digits (λ z. differ (bit_xor 1 1) z ≡ differ 1 (bit_xor 1 z)) refl refl z hz) y hy)
    x hx

pub xor_assoc : (a b c : ℕ) → bit_xor (bit_xor a b) c ≡ bit_xor a (bit_xor b c)
xor_assoc a =
    bin_ind (λ (n : ℕ). (b c : ℕ) → bit_xor (bit_xor n b) c ≡ bit_xor n (bit_xor b c)) (λ b c. refl)
    (λ n ih b c.
    xor_step (bit_xor n b) c
    ∙ ap₂ (λ (x y : ℕ). bit_xor x (c / 2) * 2 + differ y (c % 2)) (xor_shr n b 1) (xor_mod n b 1)
    ∙ ap₂ (λ (x y : ℕ). x * 2 + y) (ih (b / 2) (c / 2))
    (digit_assoc (n % 2) (b % 2) (c % 2) (digit n) (digit b) (digit c))
    ∙ sym (ap₂ (λ (x y : ℕ). bit_xor (n / 2) x * 2 + differ (n % 2) y) (xor_shr b c 1) (xor_mod b c 1))
    ∙ sym (xor_step n (bit_xor b c)))
    a

-- what is added twice is gone
pub xor_twice : (a k : ℕ) → bit_xor (bit_xor a k) k ≡ a
xor_twice a k = xor_assoc a k k ∙ ap (bit_xor a) (xor_self k) ∙ xor_zero_r a

-- the middle two of four change places
pub xor_swap : (a b c d : ℕ) → bit_xor (bit_xor a b) (bit_xor c d) ≡ bit_xor (bit_xor a c) (bit_xor b d)
xor_swap a b c d =
    xor_assoc a b (bit_xor c d)
    ∙ ap (bit_xor a) (sym (xor_assoc b c d) ∙ ap (λ (x : ℕ). bit_xor x d) (xor_comm b c) ∙ xor_assoc c b d)
    ∙ sym (xor_assoc a c (bit_xor b d))

pub byte_xor : {a b : ℕ} → a < 256 → b < 256 → bit_xor a b < 256
byte_xor {a} {b} ha hb = xor_lt 8 a b ha hb
