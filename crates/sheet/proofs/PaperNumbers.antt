-- The numbers 30 to 35 and their places are those of the scope paper's list.
use Rattle.std.specs.Prelude.{Option, Some, None, Result, Ok, Err}
use Rattle.sheet.specs.declared.Finding.TheVariants.{Taken, Ended}
use Rattle.sheet.specs.declared.Finding.{Finding}
use mathlib.Core.Path.{◌≡◌, refl, sym, ap, subst, subst₂, ◌∙◌}
use mathlib.Core.Bool.{Bool, true, false, not}
use mathlib.Core.Logic.{◌↔◌}
use mathlib.Core.List.{List, [], ◌∷◌}
use Prim.Native.Nat.{ℕ, ◌<◌}
use native.Mathlib.Omega.{arith}
use lib.ListN.{length, take, drop}
use lib.Dec.{ltb}
use Rattle.ground.specs.Choice.{pick}
use Rattle.sheet.specs.Kinds.{kind_of, body_length, in_order, number_of}
use Rattle.sheet.specs.Records.{features_rule, sizes_rule, key_rule, profile_rule, lock_rule}
use Rattle.sheet.specs.Setups.{nothing_gathered}
use Rattle.sheet.specs.Judgement.{too_many, shut_if, opened_as, opened_of, taken_if, record_of, record_in, judged_of}
use Rattle.sheet.specs.Judgement.{with_features, with_sizes, with_key, with_profile, with_lock}
use Rattle.sheet.specs.Judgement.{finding_number, judged_number}
use Rattle.sheet.specs.Sheet.{read_of, verdict_of, verdict_number, verdict_place, read_number, read_place, RefusedBy}
use Rattle.sheet.specs.Refusals.{InTurn, kinds_taken, FirstFault, there, behind}
use Rattle.sheet.specs.PaperNumbers.{keeps_rule, listed_as, paper_number, PaperSays, line, bytes_follow}
use Rattle.sheet.specs.declared.Kind.{Kind}
use Rattle.sheet.specs.declared.Kind.TheVariants.{FeatureRecord, SizeRecord, KeyRecord, ProfileRecord}
use Rattle.sheet.specs.declared.Kind.TheVariants.{LockRecord, EndRecord}
use Rattle.sheet.specs.declared.SheetFault.{SheetFault}
use Rattle.sheet.specs.declared.SheetFault.TheVariants.{Cut, Unknown, Order, Value, Many, Tail}
use Rattle.sheet.specs.declared.SheetRefusal.{SheetRefusal}
use Rattle.sheet.specs.declared.Reading.{Reading}
use Rattle.sheet.specs.declared.Gathered.{Gathered}
use Rattle.sheet.proofs.Verdicts.{refused_told}
use Rattle.sheet.proofs.Refusals.{sheet_refused, sheet_stops}
use Rattle.sheet.proofs.Counts.{Counted, many_stand, counted}

-- 33, of a record that the checks before it let through
rule_number : (r : Bool) (q : Kind) (k k' : Gathered)
    → finding_number (taken_if r q k k').finding ≡ pick (not r) 33 0
rule_number true q k k' = refl
rule_number false q k k' = refl

value_number : (q : Kind) (b : List ℕ) (k : Gathered)
    → finding_number (record_of q b k).finding ≡ pick (not (keeps_rule q b k)) 33 0
unfolding record_of
value_number FeatureRecord b k = rule_number (features_rule b) FeatureRecord k (with_features k b)
value_number SizeRecord b k = rule_number (sizes_rule b) SizeRecord k (with_sizes k b)
value_number KeyRecord b k = rule_number (key_rule k.marks.id b) KeyRecord k (with_key k b)
value_number ProfileRecord b k =
    rule_number (profile_rule k.marks.number k.terms.sizes b) ProfileRecord k (with_profile k b)
value_number LockRecord b k =
    rule_number (lock_rule k.marks.area k.marks.word k.terms.sizes b) LockRecord k (with_lock k b)
value_number EndRecord b k = refl

-- 31, 32, 34, 30, and n behind them
line_by_line : (u o m c : Bool) (q : Kind) (t : List ℕ) (k : Gathered) (n : ℕ)
    → (u ≡ false → finding_number (record_of q (take (body_length q) t) k).finding ≡ n)
    → finding_number
    (record_in (shut_if u Unknown (shut_if (not o) Order (shut_if m Many (shut_if c Cut (Ok q))))) t k).finding
    ≡ pick u 31 (pick (not o) 32 (pick m 34 (pick c 30 n)))
line_by_line true o m c q t k n h = refl
line_by_line false false m c q t k n h = refl
line_by_line false true true c q t k n h = refl
line_by_line false true false true q t k n h = refl
line_by_line false true false false q t k n h = h refl

-- the same of what the kind byte says: no kind is 31
number_as : (limit b : ℕ) (t kinds : List ℕ) (k : Gathered) → Counted k kinds → (o : Option Kind)
    → finding_number (record_in (opened_as limit b (length t) k o) t k).finding ≡ listed_as limit b t kinds k o
number_as limit b t kinds k c None = refl
number_as limit b t kinds k c (Some q) =
    rw (← c.last, ← many_stand limit q k kinds c)
    (line_by_line false (in_order k.marks.last b) (too_many limit q k) (ltb (length t) (body_length q)) q t k _
    (λ e. value_number q (take (body_length q) t) k))

pub judged_number_lem : (limit : ℕ) (s kinds : List ℕ) (k : Gathered) → Counted k kinds
    → judged_number limit s k ≡ paper_number limit s kinds k
unfolding judged_number judged_of opened_of
judged_number_lem limit [] kinds k c = refl
judged_number_lem limit (b ∷ t) kinds k c = number_as limit b t kinds k c (kind_of b)

some_number : (f : SheetFault) → 0 < number_of f
some_number Cut = omega arith
some_number Unknown = omega arith
some_number Order = omega arith
some_number Value = omega arith
some_number Many = omega arith
some_number Tail = omega arith

module _ (limit : ℕ) (s : List ℕ) where
  abbrev Fault : SheetFault → ℕ → Type 0
  Fault = FirstFault limit s 0 nothing_gathered

  -- the number of a finding, told by the list
  found : {p : ℕ} {k : Gathered} (h : InTurn limit s 0 nothing_gathered p k) (f : Result Finding SheetFault)
      → (judged_of limit (drop p s) k).finding ≡ f → finding_number f ≡ paper_number limit (drop p s) (kinds_taken h) k
  unfolding judged_number
  found {p = p} {k = k} h f e =
      ap finding_number (sym e) ∙ judged_number_lem limit (drop p s) (kinds_taken h) k (counted limit s h)

  -- a first fault is on the list
  fault_listed : {f : SheetFault} {p : ℕ} → FirstFault limit s 0 nothing_gathered f p
      → PaperSays limit s (number_of f) p
  fault_listed (there {p = p} {k = k} {f = f} h e) =
      let q : number_of f ≡ paper_number limit (drop p s) (kinds_taken h) k = found h (Err f) e in
      subst (λ (n : ℕ). PaperSays limit s n p) (sym q) (line h (omega (arith, some_number f)))
  fault_listed (behind h e l) = bytes_follow h e l

  -- what is on the list is a first fault
  on_list : (p : ℕ) (k : Gathered) (h : InTurn limit s 0 nothing_gathered p k) (f : Result Finding SheetFault)
      → (judged_of limit (drop p s) k).finding ≡ f → 0 < paper_number limit (drop p s) (kinds_taken h) k
      → (g : SheetFault) × Fault g p × (number_of g ≡ paper_number limit (drop p s) (kinds_taken h) k)
  on_list p k h (Ok (Taken n)) e l = absurd (omega (arith, found h (Ok (Taken n)) e))
  on_list p k h (Ok Ended) e l = absurd (omega (arith, found h (Ok Ended) e))
  on_list p k h (Err f) e l = (f, there h e, found h (Err f) e)

  listed_fault : {n p : ℕ} → PaperSays limit s n p → (f : SheetFault) × Fault f p × (number_of f ≡ n)
  listed_fault (line {p = p} {k = k} h l) = on_list p k h (judged_of limit (drop p s) k).finding refl l
  listed_fault (bytes_follow h e l) = (Tail, behind h e l, refl)

  by_verdict : (n p : ℕ) (r : Result Reading SheetRefusal) → read_of limit s ≡ r → 0 < n
      → verdict_number (verdict_of r) ≡ n → verdict_place (verdict_of r) ≡ p → PaperSays limit s n p
  by_verdict n p (Ok r) e i en ep = absurd (omega arith)
  by_verdict n p (Err x) e i en ep =
      subst₂ (PaperSays limit s) en ep (fault_listed ((sheet_refused limit s x.fault x.at).0 e))

  listed_read : {n p : ℕ} → PaperSays limit s n p → RefusedBy limit s n p
  listed_read {p = p} h =
      let x = listed_fault h in
      rw x.2 at (refused_told limit s x.0 p (sheet_stops limit s x.1))

  pub paper_exactly : (n p : ℕ) → 0 < n → RefusedBy limit s n p ↔ PaperSays limit s n p
  unfolding read_number read_place
  paper_exactly n p i = (
    (λ e. by_verdict n p (read_of limit s) refl i e.0 e.1),
    listed_read,
  )
