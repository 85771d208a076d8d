-- The answers of the calls that write into a lent room, each test taken or left.
use Rattle.std.specs.Prelude.{Result, Ok, Err}
use Rattle.modes.specs.declared.ChainingFault.{ChainingFault}
use Rattle.modes.specs.declared.ChainingFault.TheVariants.{BlocksOrRoom}
use mathlib.Core.Path.{◌≡◌, sym, ap, ap₂, ◌∙◌, subst}
use mathlib.Core.Bool.{Bool, true, false, false≢true}
use mathlib.Core.List.{List, ◌++◌}
use Prim.Native.Nat.{ℕ, ◌%◌, ◌≤◌}
use lib.Dec.{eqb, leb}
use lib.ListN.{length, drop}
use borrow.Author.Tests.{eq-eqb, le-leb, leb-true}
use Rattle.ground.specs.Choice.{pick, both}
use Rattle.modes.specs.Room.{Into, chains, macs, over}

pub done : (taken : Bool) (out room after : List ℕ) → taken ≡ true → after ≡ over out room
    → Into taken out room (Ok tt) after
done taken out room after e f = record {
  says = ap (λ (b : Bool). pick b (Ok tt) (Err BlocksOrRoom)) (sym e);
  number = ap (λ (b : Bool). pick b 0 8) (sym e);
  leaves = f ∙ ap (λ (b : Bool). pick b (over out room) room) (sym e);
}

-- what a copy leaves: `out` over the first bytes
pub copied : (out room front : List ℕ) (n : ℕ) → length out ≡ n → front ≡ out → front ++ drop n room ≡ over out room
copied out room front n l e =
    ap (λ (s : List ℕ). s ++ drop n room) e ∙ ap (λ (k : ℕ). out ++ drop k room) (sym l)

-- the same output by another name
pub renamed : {taken : Bool} {out out' room after : List ℕ} {answer : Result Unit ChainingFault} → out ≡ out'
    → Into taken out room answer after → Into taken out' room answer after
renamed {taken} {out} {out'} {room} {after} {answer} e i =
    subst (λ (o : List ℕ). Into taken o room answer after) e i

second : (a b : Bool) → both a b ≡ true → b ≡ true
second true b e = e
second false b e = absurd (false≢true e)

-- ---- chaining

pub enough : (n m : ℕ) → n % 16 ≡ 0 → n ≤ m → chains n m ≡ true
enough n m e h = ap₂ both (eq-eqb (n % 16) 0 e) (le-leb n m h)

-- what is taken has its room
pub has_room : (n m : ℕ) → chains n m ≡ true → n ≤ m
has_room n m e = leb-true n m (second (eqb (n % 16) 0) (leb n m) e)

-- ---- the MAC

pub room_for_mac : (n m : ℕ) → 1 ≤ n → n % 16 ≡ 0 → 12 ≤ m → macs n m ≡ true
room_for_mac n m l e h = ap₂ both (le-leb 1 n l) (ap₂ both (eq-eqb (n % 16) 0 e) (le-leb 12 m h))
