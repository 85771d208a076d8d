-- The four checks before a body's values: one too many of a kind, and what holds where none of them refuses.
use Rattle.std.specs.Prelude.{Option, Some, None, Ok, Err}
use mathlib.Core.Path.{◌≡◌, refl, sym, ap, ◌∙◌}
use mathlib.Core.Bool.{Bool, true, false, not}
use Prim.Native.Nat.{ℕ, ◌≤◌}
use native.Mathlib.Omega.{arith}
use lib.Dec.{ltb}
use borrow.Author.Tests.{ltb-false}
use Rattle.sheet.specs.Kinds.{kind_of, body_length, in_order}
use Rattle.sheet.specs.Judgement.{too_many, shut_if, opened_as, opened_of}
use Rattle.sheet.specs.declared.Kind.{Kind}
use Rattle.sheet.specs.declared.SheetFault.TheVariants.{Cut, Order, Many}
use Rattle.sheet.specs.declared.Gathered.{Gathered}

-- one too many of a kind that is known and in order
pub shut_many : (limit b left : ℕ) (k : Gathered) (q : Kind) → Some q ≡ kind_of b
    → (o : Bool) → o ≡ in_order k.marks.last b → not o ≡ false
    → (m : Bool) → m ≡ too_many limit q k → m ≡ true
    → Err Many ≡ opened_of limit b left k
unfolding opened_of
shut_many limit b left k q e o order ho m many h = rw (← e, ← order, ho, ← many, h)

-- what an opened record has passed
pub record Passed (limit b left : ℕ) (k : Gathered) (q : Kind) : Type 0 where
  pub known : kind_of b ≡ Some q
  pub ordered : in_order k.marks.last b ≡ true
  pub few : too_many limit q k ≡ false
  pub whole : body_length q ≤ left

all_open : (o m c : Bool) (p q : Kind) → shut_if (not o) Order (shut_if m Many (shut_if c Cut (Ok p))) ≡ Ok q
    → (o ≡ true) × (m ≡ false) × (c ≡ false) × (p ≡ q)
all_open false m c p q e = let z : ◌≡◌ {A = ℕ} 0 1 = cc in absurd (omega arith)
all_open true true c p q e = let z : ◌≡◌ {A = ℕ} 0 1 = cc in absurd (omega arith)
all_open true false true p q e = let z : ◌≡◌ {A = ℕ} 0 1 = cc in absurd (omega arith)
all_open true false false p q e = (refl, refl, refl, cc)

passed_as : (limit b left : ℕ) (k : Gathered) (o : Option Kind) (q : Kind) → kind_of b ≡ o
    → opened_as limit b left k o ≡ Ok q → Passed limit b left k q
passed_as limit b left k None q g e = let z : ◌≡◌ {A = ℕ} 0 1 = cc in absurd (omega arith)
passed_as limit b left k (Some p) q g e =
    let n = body_length p in
    let h = all_open (in_order k.marks.last b) (too_many limit p k) (ltb left n) p q e in
    let i = h.3 in
    record {
      known = g ∙ ap Some i;
      ordered = h.0;
      few = ap (λ (x : Kind). too_many limit x k) (sym i) ∙ h.1;
      whole = rw (← i) (ltb-false left n h.2);
    }

pub passed : (limit b left : ℕ) (k : Gathered) (q : Kind) → opened_of limit b left k ≡ Ok q → Passed limit b left k q
unfolding opened_of
passed limit b left k q e = passed_as limit b left k (kind_of b) q refl e
