-- What antt computes once over a whole table holds at each of its entries.
use mathlib.Core.Path.{◌≡◌, refl, ◌∙◌, sym, ap, ap₂}
use mathlib.Core.List.{List, ◌∷◌}
use Prim.Native.Nat.{ℕ, zero, suc, ◌+◌, ◌<◌}
use native.Mathlib.Nat.{add-zero, zero-add, add-suc, suc-add, le_of_suc-le-suc, not-suc-le-zero}
use native.Mathlib.Omega.{arith}
use lib.ListN.{get_or}
use Rattle.field.specs.Block.{tabulated, tabulated_from}

module _ {A : Type 0} (d : A) (f : ℕ → A) where
  entry_from : (n i k : ℕ) → k < n → get_or (tabulated_from f i n) k d ≡ f (i + k)
  entry_from zero i k h = absurd (not-suc-le-zero h)
  entry_from (suc n) i zero h = ap f (sym (add-zero i))
  entry_from (suc n) i (suc k) h = entry_from n (suc i) k (le_of_suc-le-suc h) ∙ ap f (suc-add i k ∙ sym (add-suc i k))

  -- an entry of a table is the function at its place
  pub entry_at : (n k : ℕ) → k < n → get_or (tabulated f n) k d ≡ f k
  entry_at n k h = entry_from n 0 k h ∙ ap f (zero-add k)

-- two functions with equal tables agree at each place; that the tables are equal is `refl`, computed
pub same_at : (f g : ℕ → ℕ) (n : ℕ) → tabulated f n ≡ tabulated g n → (k : ℕ) → k < n → f k ≡ g k
same_at f g n e k h = sym (entry_at 0 f n k h) ∙ ap (λ (t : List ℕ). get_or t k 0) e ∙ entry_at 0 g n k h

-- and functions that agree at each place have equal tables
same_from : (f g : ℕ → ℕ) (n i : ℕ) → ((k : ℕ) → k < i + n → f k ≡ g k) → tabulated_from f i n ≡ tabulated_from g i n
same_from f g zero i h = refl
same_from f g (suc n) i h = ap₂ {C = List ℕ} (λ x l. x ∷ l) (h i (omega arith))
    (same_from f g n (suc i) (λ k less. h k (omega arith)))

pub same_table : (f g : ℕ → ℕ) (n : ℕ) → ((k : ℕ) → k < n → f k ≡ g k) → tabulated f n ≡ tabulated g n
same_table f g n h = same_from f g n 0 (λ k less. h k (omega arith))
