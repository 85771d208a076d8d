-- What a field ProtMode says.
use Rattle.std.specs.Prelude.{Option, Some, None}
use mathlib.Core.Path.{◌≡◌, refl, sym, ap, ◌∙◌}
use mathlib.Core.Bool.{Bool, true, false, false≢true}
use Prim.Native.Nat.{ℕ, ◌≤◌, ◌<◌}
use native.Mathlib.Omega.{arith}
use borrow.Author.Tests.{ltb-true, ltb-false, ne_eqb}
use lib.Dec.{ltb}
use Rattle.frames.specs.Modes.{prot_mode_of, in_mode}
use Rattle.frames.specs.declared.ProtMode.{ProtMode}

-- a field that says a mode, of which the test holds
pub record Says (p : ℕ) (test : ProtMode → Bool) : Type 0 where
  pub mode : ProtMode
  pub named : prot_mode_of p ≡ Some mode
  pub holds : test mode ≡ true

pub says : (p : ℕ) (test : ProtMode → Bool) → in_mode (prot_mode_of p) test false ≡ true → Says p test
says p test h = told (prot_mode_of p) refl h
  where
    told : (x : Option ProtMode) → prot_mode_of p ≡ x → in_mode x test false ≡ true → Says p test
    told (Some mode) e h = record { mode = mode; named = e; holds = h }
    told None e h = absurd (false≢true h)

-- such a field is 0, 1, 2 or 3
above : (p : ℕ) → 4 ≤ p → prot_mode_of p ≡ None
unfolding prot_mode_of
above p h = simp (
  ne_eqb p 0 (λ z. omega arith),
  ne_eqb p 1 (λ z. omega arith),
  ne_eqb p 2 (λ z. omega arith),
  ne_eqb p 3 (λ z. omega arith),
)

pub mode_below : (p : ℕ) (mode : ProtMode) → prot_mode_of p ≡ Some mode → p < 4
mode_below p mode named = tested (ltb p 4) refl
  where
    tested : (b : Bool) → ltb p 4 ≡ b → p < 4
    tested true e = ltb-true p 4 e
    tested false e =
        absurd (false≢true (ap (λ (x : Option ProtMode). in_mode x (λ m. true) false)
        (sym (above p (ltb-false p 4 e)) ∙ named)))
