-- An array that a closure makes of the place, and which changes nothing that it captured, is the table of its answers.
use mathlib.Core.Path.{◌≡◌, sym, ◌∙◌, subst}
use mathlib.Core.List.{List}
use Prim.Native.Nat.{ℕ, zero, suc, ◌+◌, ◌<◌, ◌≤◌}
use native.Mathlib.Nat.{add-zero, zero-add, not-suc-le-zero, le_of_suc-le-suc}
use native.Mathlib.Omega.{arith}
use denote.Param.Members.{Mut, Called}
use lib.ListN.{get_or}
use lib.Seq.{ext_get_or}
use Rattle.std.specs.Array.{IsFromFnResult, IsFromFnResultFrom}
use Rattle.field.specs.Block.{tabulated}
use Rattle.field.proofs.Fill.{length_tabulated}
use Rattle.field.proofs.Table.{entry_at}

module _ {F : Type 0} {g : Mut F (ℕ × Unit {0}) ℕ} {f : F} (h : ℕ → ℕ) (n : ℕ)
    (answers : (i y : ℕ) (q : F) → i < n → Called g f (i, tt) y q → (q ≡ f) × (y ≡ h i)) where
  entries : (ys : List ℕ) (m i k : ℕ) → i + m ≤ n → IsFromFnResultFrom g f ys i m → k < m
      → get_or ys (i + k) 0 ≡ h (i + k)
  entries ys zero i k le e lt = absurd (not-suc-le-zero lt)
  entries ys (suc m) i zero le (q, y, el, called, rest) lt =
      let a = answers i y q (omega arith) called in
      subst (λ (j : ℕ). get_or ys j 0 ≡ h j) (sym (add-zero i)) (el.1 0 ∙ a.1)
  entries ys (suc m) i (suc k) le (q, y, el, called, rest) lt =
      let a = answers i y q (omega arith) called in
      let r : get_or ys (i + 1 + k) 0 ≡ h (i + 1 + k) =
      entries ys m (i + 1) k (omega arith) (subst (λ (p : F). IsFromFnResultFrom g p ys (i + 1) m) a.0 rest)
      (le_of_suc-le-suc lt) in
      let e : i + 1 + k ≡ i + suc k = omega arith in
      subst (λ (j : ℕ). get_or ys j 0 ≡ h j) e r

  pub made : {ys : List ℕ} → IsFromFnResult g f ys n → ys ≡ tabulated h n
  made {ys} r =
      ext_get_or 0 ys (tabulated h n) (r.long ∙ sym (length_tabulated h n))
      (λ k lt.
      let l : k < n = omega (arith, r.long) in
      subst (λ (j : ℕ). get_or ys j 0 ≡ h j) (zero-add k) (entries ys n 0 k (omega arith) r.each l)
      ∙ sym (entry_at 0 h n k l))
