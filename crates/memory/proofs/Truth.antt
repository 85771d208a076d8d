-- Tests: two that answer alike, what holds where one of two, or both, say yes, and of what a test picks.
use mathlib.Core.Path.{◌≡◌, refl, sym}
use mathlib.Core.Logic.{◌⊎◌, inl, inr}
use mathlib.Core.Bool.{Bool, true, false, cond, ◌&&◌, ◌||◌, false≢true}
use mathlib.Core.List.{List}
use Prim.Native.Nat.{ℕ}

pub alike : (p q : Bool) → (p ≡ true → q ≡ true) → (p ≡ false → q ≡ false) → p ≡ q
alike true q f g = sym (f refl)
alike false q f g = sym (g refl)

pub never : (p : Bool) → (p ≡ true → ⊥) → p ≡ false
never true f = absurd (f refl)
never false f = refl

pub either : (p q : Bool) → (p || q) ≡ true → (p ≡ true) ⊎ (q ≡ true)
either true q h = inl refl
either false q h = inr h

pub both : (p q : Bool) → (p && q) ≡ true → (p ≡ true) × (q ≡ true)
both true q h = (refl, h)
both false q h = absurd (false≢true h)

-- what holds of either is what holds of the one that a test picks
pub picked : (P : List ℕ → Type 0) (test : Bool) (x y : List ℕ) → (test ≡ true → P x) → (test ≡ false → P y)
    → P (cond test x y)
picked P true x y f g = f refl
picked P false x y f g = g refl
