-- What a builder leaves in a room, as bytes over its first ones, and the other way round.
use Rattle.std.specs.Prelude.{Option, Some, None}
use mathlib.Core.Path.{◌≡◌, refl, sym, ap, ap₂, ◌∙◌}
use mathlib.Core.Bool.{Bool, true, false}
use mathlib.Core.List.{List, ◌++◌}
use Prim.Native.Nat.{ℕ, ◌+◌, ◌≤◌, ◌<◌}
use native.Mathlib.Omega.{arith}
use borrow.Author.Tests.{le-leb, lt-leb}
use lib.Dec.{leb}
use lib.ListN.{length, take, drop, length-append}
use lib.Seq.{length-take-le}
use Rattle.ground.specs.Choice.{pick, both}
use Rattle.modes.specs.Room.{over}
use Rattle.frames.specs.Built.{Built}
use Rattle.payload.proofs.Overs.{over_behind}

both_none : (b : Bool) → both b false ≡ false
both_none true = refl
both_none false = refl

module _ (fit : Bool) (n : ℕ) (m room : List ℕ) where
  -- a room that is too short
  pub too_short : length room < n → Built fit n m room None room
  too_short h =
      let e : both fit (leb n (length room)) ≡ false = ap (both fit) (lt-leb n (length room) h) ∙ both_none fit in
      record {
        says = ap (λ (x : Bool). pick {A = Option ℕ} x (Some n) None) (sym e);
        holds = ap (λ (x : Bool). pick x (m ++ drop n room) room) (sym e);
      }

  module _ (f : fit ≡ true) (h : n ≤ length room) (l : length m ≡ n) (after : List ℕ) where
    taken : both fit (leb n (length room)) ≡ true
    taken = ap₂ both f (le-leb n (length room) h)

    pub built_over : (answer : Option ℕ) → Built fit n m room answer after → after ≡ over m room
    built_over answer b = b.holds ∙ ap (λ (x : Bool). pick x (m ++ drop n room) room) taken
        ∙ ap (λ (k : ℕ). m ++ drop k room) (sym l)

    pub over_built : (k : ℕ) → k ≡ n → after ≡ over m room → Built fit n m room (Some k) after
    over_built k w e = record {
      says = ap Some w ∙ ap (λ (x : Bool). pick {A = Option ℕ} x (Some n) None) (sym taken);
      holds = e ∙ ap (λ (k : ℕ). m ++ drop k room) l ∙ ap (λ (x : Bool). pick x (m ++ drop n room) room) (sym taken);
    }

-- d put behind the room's first bytes
module _ (at : ℕ) (d room : List ℕ) (h : at + length d ≤ length room) where
  put_long : length (take at room ++ d) ≡ at + length d
  put_long = length-append (take at room) d ∙ ap (λ (k : ℕ). k + length d) (length-take-le at room (omega arith))

  pub put_over : (answer : Option ℕ) (after : List ℕ) → Built true (at + length d) (take at room ++ d) room answer after
      → after ≡ take at room ++ over d (drop at room)
  put_over answer after b = built_over true (at + length d) (take at room ++ d) room refl h put_long after answer b
      ∙ sym (over_behind at d room (omega arith))
