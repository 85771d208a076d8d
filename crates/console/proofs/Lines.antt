-- A line up to its comment.
use Rattle.std.specs.Prelude.{Option, Some, None}
use mathlib.Core.Path.{◌≡◌, refl, sym, ◌∙◌}
use mathlib.Core.Bool.{Bool, true, false, cond}
use mathlib.Core.List.{List}
use Prim.Native.Nat.{ℕ}
use native.Mathlib.Nat.{le_refl}
use lib.Dec.{eqb, ltb}
use lib.ListN.{length, take}
use lib.Seq.{take_all}
use Rattle.std.specs.List.{position, position_or_len, before_first}
use Rattle.std.specs.Option.{unwrap_or}
use borrow.Author.Tests.{ltb-false}

abbrev pub is_hash : ℕ → Bool
is_hash c = eqb c 35

up_to : (w : List ℕ) (n : ℕ) (test : Bool) → ltb n (length w) ≡ test
    → take (unwrap_or (cond test (Some n) None) (length w)) w ≡ take n w
up_to w n true t = refl
up_to w n false t = take_all (length w) w (le_refl _) ∙ sym (take_all n w (ltb-false n (length w) t))

pub before_hash : (w : List ℕ) (r : Option ℕ) → r ≡ position is_hash w
    → take (unwrap_or r (length w)) w ≡ before_first is_hash w
before_hash w r e = rw e (up_to w (position_or_len is_hash w) _ refl)
