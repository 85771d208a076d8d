-- A test that antt computes at each byte, and what it shows.
use mathlib.Core.Path.{◌∙◌, subst, sym}
use mathlib.Core.Bool.{Bool, true, false}
use Prim.Native.Nat.{ℕ, zero, suc, ◌+◌, ◌<◌}
use native.Mathlib.Nat.{add-zero, zero-add, add-suc, suc-add, le_of_suc-le-suc, not-suc-le-zero}
use lib.Dec.{T}
use Rattle.ground.specs.Choice.{both}

pub t_left : (a b : Bool) → T (both a b) → T a
t_left true b t = tt
t_left false b t = t

pub t_right : (a b : Bool) → T (both a b) → T b
t_right true b t = t
t_right false b t = absurd t

-- the test passes at i, i + 1, ..: n numbers
abbrev pub every : (ℕ → Bool) → ℕ → ℕ → Bool
every p i zero = true
every p i (suc n) = both (p i) (every p (suc i) n)

every_at : (p : ℕ → Bool) (n i : ℕ) → T (every p i n) → (k : ℕ) → k < n → T (p (i + k))
every_at p zero i t k h = absurd (not-suc-le-zero h)
every_at p (suc n) i t zero h = subst (λ (m : ℕ). T (p m)) (sym (add-zero i)) (t_left (p i) (every p (suc i) n) t)
every_at p (suc n) i t (suc k) h =
    subst (λ (m : ℕ). T (p m)) (suc-add i k ∙ sym (add-suc i k))
    (every_at p n (suc i) (t_right (p i) (every p (suc i) n) t) k (le_of_suc-le-suc h))

pub at_bytes : (p : ℕ → Bool) → T (every p 0 256) → (x : ℕ) → x < 256 → T (p x)
at_bytes p t x h = subst (λ (m : ℕ). T (p m)) (zero-add x) (every_at p 256 0 t x h)
