-- A loop that fills an array of n, one element a turn: the first i elements are those of f.
use mathlib.Core.Path.{◌≡◌, refl, sym, ap, ◌∙◌, subst}
use mathlib.Core.List.{List}
use mathlib.Core.Logic.{⊎_elim}
use Prim.Native.Nat.{ℕ, zero, suc, ◌+◌, ◌<◌, ◌≤◌}
use native.Mathlib.Nat.{not-suc-le-zero, eq-or-lt_of_le}
use native.Mathlib.Omega.{arith}
use lib.ListN.{length, get_or, set, length-set}
use lib.Seq.{ext_get_or, get_or-set_same, get_or-set_other}
use Rattle.field.specs.Block.{tabulated, tabulated_from}
use Rattle.field.proofs.Table.{entry_at}

length_from : (f : ℕ → ℕ) (n i : ℕ) → length (tabulated_from f i n) ≡ n
length_from f zero i = refl
length_from f (suc n) i = ap suc (length_from f n (suc i))

pub length_tabulated : (f : ℕ → ℕ) (n : ℕ) → length (tabulated f n) ≡ n
length_tabulated f n = length_from f n 0

module _ (f : ℕ → ℕ) (n : ℕ) where
  abbrev pub Filled : List ℕ → ℕ → Type 0
  Filled t i = (i ≤ n) × (length t ≡ n) × ((k : ℕ) → k < i → get_or t k 0 ≡ f k)

  pub none_yet : (t : List ℕ) → length t ≡ n → Filled t 0
  none_yet t e = (omega arith, e, λ k h. absurd (not-suc-le-zero h))

  pub one_more_lem : (t : List ℕ) (i v : ℕ) → i < n → v ≡ f i → Filled t i → Filled (set t i v) (i + 1)
  one_more_lem t i v h e inv = (
    omega arith,
    length-set t i v ∙ inv.1,
    λ k lt. ⊎_elim
        (λ (q : k ≡ i). subst (λ (j : ℕ). get_or (set t i v) j 0 ≡ f j) (sym q)
        (get_or-set_same t i v 0 (omega (arith, inv.1)) ∙ e))
        (λ (l : k < i). get_or-set_other t i k v 0 (λ q. (let z : ⊥ = omega arith in z)) ∙ inv.2 k l)
        (eq-or-lt_of_le (let z : k ≤ i = omega arith in z)),
  )

  pub filled : (t : List ℕ) (i : ℕ) → n ≤ i → Filled t i → t ≡ tabulated f n
  filled t i h inv =
      ext_get_or 0 t (tabulated f n) (inv.1 ∙ sym (length_tabulated f n))
      (λ k lt. inv.2 k (omega (arith, inv.1)) ∙ sym (entry_at 0 f n k (omega (arith, inv.1))))
