-- Tests, and what they pick.
use mathlib.Core.Path.{◌≡◌, refl}
use mathlib.Core.Bool.{Bool, true, false, false≢true}
use Prim.Native.Nat.{ℕ}
use native.Mathlib.Omega.{arith}
use Rattle.ground.specs.Choice.{pick, both}

-- what holds of either holds of the one that is picked
pub picked : {A : Type 0} (P : A → Type 0) (test : Bool) {x y : A} → (test ≡ true → P x) → (test ≡ false → P y)
    → P (pick test x y)
picked P true f g = f refl
picked P false f g = g refl

-- what both say, each says
pub each : (p q : Bool) → both p q ≡ true → (p ≡ true) × (q ≡ true)
each true q h = (refl, h)
each false q h = absurd (false≢true h)

-- a no of the second is a no
pub second_no : (p : Bool) → both p false ≡ false
second_no true = refl
second_no false = refl

-- from two constructors that were equal, which `cc` turns into 0 and 1
pub never : {A : Type 0} → ◌≡◌ {A = ℕ} 0 1 → A
never e = absurd (omega arith)
