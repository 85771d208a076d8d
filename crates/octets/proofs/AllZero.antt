-- A list is zeros exactly if it is that many of them, and how a walk along it decides it.
use mathlib.Core.Path.{◌≡◌, refl, ap, ap₂, ◌∙◌}
use mathlib.Core.Bool.{true}
use mathlib.Core.List.{List, [], ◌∷◌}
use Prim.Native.Nat.{ℕ, zero, suc}
use borrow.Author.Tests.{eqb-true}
use lib.Dec.{eqb}
use lib.ListN.{length, replicate}
use Rattle.std.specs.List.{list_all}
use Rattle.ground.proofs.Choice.{both_true}
use Rattle.octets.specs.Alike.{all_zero}
use Rattle.ground.specs.Choice.{both}
use Rattle.octets.proofs.Alike.{and_both}

pub zeros_all : (n : ℕ) → all_zero (replicate n 0) ≡ true
unfolding all_zero
zeros_all zero = refl
zeros_all (suc n) = zeros_all n

pub zeros_only : (s : List ℕ) → all_zero s ≡ true → s ≡ replicate (length s) 0
unfolding all_zero
zeros_only [] e = refl
zeros_only (x ∷ s) e =
    let h = both_true (eqb x 0) (all_zero s) e in
    ap₂ (λ (y : ℕ) (l : List ℕ). y ∷ l) (eqb-true x 0 h.0) (zeros_only s h.1)

-- the test of each byte says the same
pub zero_each : (s : List ℕ) → list_all (λ b. eqb b 0) s ≡ all_zero s
unfolding all_zero
zero_each [] = refl
zero_each (x ∷ s) = and_both (eqb x 0) (list_all (λ b. eqb b 0) s) ∙ ap (both (eqb x 0)) (zero_each s)
