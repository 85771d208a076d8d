-- Two lists of bytes are the same exactly if they are equal, and how a walk along both decides it.
use mathlib.Core.Path.{◌≡◌, refl, ap, ap₂, ◌∙◌}
use mathlib.Core.Bool.{Bool, true, false, ◌&&◌}
use mathlib.Core.List.{List, [], ◌∷◌}
use Prim.Native.Nat.{ℕ, suc}
use native.Mathlib.Omega.{arith}
use borrow.Author.Tests.{eq-eqb, eqb-true}
use lib.Dec.{eqb}
use lib.Pointwise.{pointwise}
use lib.ListN.{length}
use Rattle.ground.specs.Choice.{both}
use Rattle.ground.proofs.Choice.{both_true}
use Rattle.octets.specs.Alike.{same}

pub same_self : (a : List ℕ) → same a a ≡ true
unfolding same
same_self [] = refl
same_self (x ∷ xs) = ap₂ both (eq-eqb x x refl) (same_self xs)

pub same_equal : (a b : List ℕ) → same a b ≡ true → a ≡ b
unfolding same
same_equal [] [] e = refl
same_equal [] (y ∷ ys) e = absurd (let z : ◌≡◌ {A = ℕ} 0 1 = cc in let w : ⊥ = omega arith in w)
same_equal (x ∷ xs) [] e = absurd (let z : ◌≡◌ {A = ℕ} 0 1 = cc in let w : ⊥ = omega arith in w)
same_equal (x ∷ xs) (y ∷ ys) e =
    let h = both_true (eqb x y) (same xs ys) e in
    ap₂ {C = List ℕ} (λ z zs. z ∷ zs) (eqb-true x y h.0) (same_equal xs ys h.1)

-- lists of different lengths
pub same_lengths : (a b : List ℕ) → (length a ≡ length b → ⊥) → same a b ≡ false
unfolding same
same_lengths [] [] h = absurd (h refl)
same_lengths [] (y ∷ ys) h = refl
same_lengths (x ∷ xs) [] h = refl
same_lengths (x ∷ xs) (y ∷ ys) h = ap (both (eqb x y)) (same_lengths xs ys (λ e. h (ap suc e))) ∙ none (eqb x y)
  where
    none : (t : Bool) → both t false ≡ false
    none true = refl
    none false = refl

-- the logic's own `and` is this house's
pub and_both : (a b : Bool) → (a && b) ≡ both a b
and_both true b = refl
and_both false b = refl

-- `==` on two slices compares them byte by byte: it says the same
pub same_pointwise : (a b : List ℕ) → pointwise eqb a b ≡ same a b
unfolding same
same_pointwise [] [] = refl
same_pointwise [] (y ∷ ys) = refl
same_pointwise (x ∷ xs) [] = refl
same_pointwise (x ∷ xs) (y ∷ ys) = and_both (eqb x y) (pointwise eqb xs ys) ∙ ap (both (eqb x y)) (same_pointwise xs ys)
