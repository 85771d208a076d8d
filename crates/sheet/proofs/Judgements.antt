-- One record judged: what the calls on the way give.
use Rattle.std.specs.Prelude.{Some, None, Result, Ok, Err, slice_get}
use mathlib.Core.Path.{◌≡◌, refl, sym, ap, ◌∙◌}
use mathlib.Core.Bool.{false}
use mathlib.Core.List.{List, [], ◌∷◌}
use Prim.Native.Nat.{ℕ, suc, ◌+◌, ◌-◌, ◌≤◌, ◌<◌}
use native.Mathlib.Omega.{arith}
use lib.ListN.{length, take, drop, length-take, length-drop}
use borrow.Author.Tests.{leb-false}
use Rattle.sheet.specs.Limits.{profile_limit, lock_limit}
use Rattle.sheet.specs.Kinds.{body_length}
use Rattle.sheet.specs.Judgement.{too_many, opened_of, refused, record_of, judged_of, IsJudgement}
use Rattle.sheet.specs.PaperNumbers.{keeps_rule}
use Rattle.sheet.specs.declared.Kind.{Kind}
use Rattle.sheet.specs.declared.Kind.TheVariants.{FeatureRecord, SizeRecord, KeyRecord, ProfileRecord}
use Rattle.sheet.specs.declared.Kind.TheVariants.{LockRecord, EndRecord}
use Rattle.sheet.specs.declared.SheetFault.{SheetFault}
use Rattle.sheet.specs.declared.SheetFault.TheVariants.{Cut, Value}
use Rattle.sheet.specs.declared.Finding.{Finding}
use Rattle.sheet.specs.declared.Gathered.{Gathered}
use Rattle.sheet.specs.declared.Judged.{Judged}
use Rattle.sheet.proofs.Openings.{Passed, passed}

-- there is room for one more of its kind
module _ (limit : ℕ) (q : Kind) (k : Gathered) where
  pub key_room_lem : q ≡ KeyRecord → too_many limit q k ≡ false → k.marks.keys < limit
  unfolding too_many
  key_room_lem e h = leb-false _ _ (rw e at h)

  pub profile_room : q ≡ ProfileRecord → too_many limit q k ≡ false → k.marks.profiles < profile_limit
  unfolding too_many
  profile_room e h = leb-false _ _ (rw e at h)

  pub lock_room : q ≡ LockRecord → too_many limit q k ≡ false → k.terms.locks.count < lock_limit
  unfolding too_many
  lock_room e h = leb-false _ _ (rw e at h)

-- 33
pub rule_broken : (q : Kind) (b : List ℕ) (k : Gathered) → keeps_rule q b k ≡ false → refused Value k ≡ record_of q b k
unfolding record_of
rule_broken FeatureRecord b k h = rw h
rule_broken SizeRecord b k h = rw h
rule_broken KeyRecord b k h = rw h
rule_broken ProfileRecord b k h = rw h
rule_broken LockRecord b k h = rw h
rule_broken EndRecord b k h = let z : ◌≡◌ {A = ℕ} 0 1 = cc in absurd (omega arith)

pub judged_none : (limit : ℕ) (r : List ℕ) (k : Gathered) → slice_get r 0 ≡ None → refused Cut k ≡ judged_of limit r k
unfolding judged_of
judged_none limit [] k e = refl
judged_none limit (b ∷ t) k e = cc

-- b is the kind byte
pub judged_shut : (limit : ℕ) (r : List ℕ) (k : Gathered) (b : ℕ) (o : Result Kind SheetFault) (f : SheetFault)
    → slice_get r 0 ≡ Some b → o ≡ opened_of limit b (length r - 1) k → o ≡ Err f
    → refused f k ≡ judged_of limit r k
unfolding judged_of
judged_shut limit [] k b o f some e h = cc
judged_shut limit (a ∷ t) k b o f some e h =
    let same : b ≡ a = cc in
    let l : suc (length t) - 1 ≡ length t = omega arith in
    rw (sym (rw (l, same) at e) ∙ h)

-- q and n are the kind and the body's length
module _ (limit : ℕ) (r : List ℕ) (k : Gathered) (b : ℕ) (o : Result Kind SheetFault) (q : Kind) (n : ℕ)
    (some : slice_get r 0 ≡ Some b) (eo : o ≡ opened_of limit b (length r - 1) k) (eop : o ≡ Ok q)
    (en : n ≡ body_length q) where
  opened : Passed limit b (length r - 1) k q
  opened = passed limit b (length r - 1) k q (sym eo ∙ eop)

  pub body_fits : n ≤ length r - 1
  body_fits = rw en opened.whole

  pub body_few : too_many limit q k ≡ false
  body_few = opened.few

  pub body_long : length (take (1 + n - 1) (drop 1 r)) ≡ body_length q
  body_long = simp (length-take, length-drop) (omega (arith, body_fits, en))

-- where a kind byte stands there are bytes
pub some_there : (r : List ℕ) (b : ℕ) → slice_get r 0 ≡ Some b → 0 < length r
some_there [] b e = cc
some_there (a ∷ t) b e = omega arith

pub judged_open : (limit : ℕ) (r : List ℕ) (k : Gathered) (b : ℕ) (o : Result Kind SheetFault) (q : Kind) (n : ℕ)
    (j : Judged) → slice_get r 0 ≡ Some b → o ≡ opened_of limit b (length r - 1) k → o ≡ Ok q
    → n ≡ body_length q → j ≡ record_of q (take (1 + n - 1) (drop 1 r)) k → j ≡ judged_of limit r k
unfolding judged_of
judged_open limit [] k b o q n j some eo eop en ej = cc
judged_open limit (a ∷ t) k b o q n j some eo eop en ej =
    let same : b ≡ a = cc in
    let l : suc (length t) - 1 ≡ length t = omega arith in
    let m : 1 + n - 1 ≡ n = omega arith in
    rw (sym (rw (l, same) at eo) ∙ eop, ← en) (rw m at ej)

-- the bytes from a place of a sheet on, judged
pub judged_in : (limit : ℕ) (s : List ℕ) (at : ℕ) (k : Gathered) (r : List ℕ) (f : Result Finding SheetFault)
    (n : Gathered) → r ≡ drop at s → IsJudgement f n (judged_of limit r k)
    → record { finding = f; gathered = n } ≡ judged_of limit (drop at s) k
judged_in limit s at k r f n e j = j ∙ ap (λ (x : List ℕ). judged_of limit x k) e
