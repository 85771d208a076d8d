-- A sheet is refused by f at p exactly if the records before p are taken in turn and f is the first fault there; it is
-- whole exactly if they are taken in turn up to an end record that is its last byte. So no refusal's place is past the
-- sheet.
use Rattle.std.specs.Prelude.{Result, Ok, Err}
use Rattle.sheet.specs.declared.Finding.TheVariants.{Taken, Ended}
use Rattle.sheet.specs.declared.Finding.{Finding}
use mathlib.Core.Path.{◌≡◌, refl, sym, ap, subst, ◌∙◌}
use mathlib.Core.Bool.{Bool, true, false}
use mathlib.Core.Logic.{◌↔◌}
use mathlib.Core.List.{List}
use Prim.Native.Nat.{ℕ, zero, suc, ◌+◌, ◌≤◌, ◌<◌}
use native.Mathlib.Omega.{arith}
use native.Mathlib.Nat.{le_of_eq, min-le_right, min-eq_left}
use lib.ListN.{length, drop, length-drop, drop_of_length-le}
use lib.Dec.{ltb}
use borrow.Author.Tests.{ltb-true, ltb-false}
use Rattle.sheet.specs.Setups.{nothing_gathered}
use Rattle.sheet.specs.Judgement.{judged_of}
use Rattle.sheet.specs.Sheet.{refused_at, ends, verdict_of, walk, place_in, read_from, read_of, Accepted}
use Rattle.sheet.specs.Refusals.{InTurn, begins, goes_on, FirstFault, there, behind, Complete}
use Rattle.sheet.specs.declared.SheetFault.{SheetFault}
use Rattle.sheet.specs.declared.SheetFault.TheVariants.{Cut}
use Rattle.sheet.specs.declared.SheetRefusal.{SheetRefusal}
use Rattle.sheet.specs.declared.Gathered.{Gathered}
use Rattle.sheet.specs.declared.Reading.{Reading}
use Rattle.sheet.proofs.Walks.{nothing_there, from_start, read_faulty, read_tail, read_whole, read_taken}
use Rattle.sheet.proofs.Ends.{ended_same}

-- From a place in the sheet on.
module _ (limit : ℕ) (s : List ℕ) (from : ℕ) (before : Gathered) (start : from ≤ length s) where
  -- what the sheet says from there on it says from each place on up to which its records are taken
  on : {p : ℕ} {k : Gathered} → InTurn limit s from before p k
      → (p ≤ length s) × (read_from limit s from before ≡ read_from limit s p k)
  on begins = (start, refl)
  on (goes_on {p = p} {n = n} {k = k} {k' = k'} h e) =
      let i = on h in
      let t = read_taken limit s p k (record { finding = Ok (Taken n); gathered = k' }) i.0 (sym e) n refl in
      (t.1, i.1 ∙ t.2)

  refused_there : {f : SheetFault} {p : ℕ} → FirstFault limit s from before f p
      → (p ≤ length s) × (read_from limit s from before ≡ refused_at f p)
  refused_there (there {p = p} {k = k} {f = f} h e) =
      let i = on h in
      (i.0, i.1 ∙ read_faulty limit s p k _ i.0 refl f e)
  refused_there (behind {p = p} {k = k} h e l) =
      let i = on h in
      (omega arith, i.1 ∙ read_tail limit s p k _ i.0 refl e l)

  completed : {k : Gathered} → Complete limit s from before k → read_from limit s from before ≡ ends k
  completed {k = k} c =
      let i = on c.taken in
      let l : length s ≤ c.place + 1 = omega (arith, c.last) in
      i.1
      ∙ read_whole limit s c.place k _ i.0 refl c.ended l
      ∙ ap ends (ended_same limit (drop c.place s) k c.ended).1

  -- where no kind byte stands it is cut short
  at_the_length : {f : SheetFault} {p : ℕ} → FirstFault limit s from before f p → p ≡ length s → f ≡ Cut
  at_the_length (there {p = p} {k = k} h e) q =
      let n = nothing_there limit k in
      let g = rw (drop_of_length-le s {i = p} (le_of_eq (sym q))) at e in
      cc
  at_the_length (behind h e l) q = absurd (omega arith)

  -- the two ways in which a reading ends
  data Ending : Result Reading SheetRefusal → Type 0 where
    refuses : {f : SheetFault} {p : ℕ} → FirstFault limit s from before f p → Ending (refused_at f p)
    completes : {k : Gathered} → Complete limit s from before k → Ending (ends k)

  abbrev Ends : Type 0
  Ends = Ending (read_from limit s from before)

  fault_ends : {f : SheetFault} {p : ℕ} → FirstFault limit s from before f p → Ends
  fault_ends h = subst Ending (sym (refused_there h).1) (refuses h)

  -- the end record, with or without a byte behind it
  last_ends : (p : ℕ) (k : Gathered) → InTurn limit s from before p k
      → (judged_of limit (drop p s) k).finding ≡ (Ok Ended) → (t : Bool) → ltb (p + 1) (length s) ≡ t → Ends
  last_ends p k h e true l = fault_ends (behind h e (ltb-true (p + 1) (length s) l))
  last_ends p k h e false l =
      let i = ended_same limit (drop p s) k e in
      let d = length-drop p s in
      let g = ltb-false (p + 1) (length s) l in
      let c : Complete limit s from before k =
      record { place = p; taken = h; ended = e; last = let q : p + 1 ≡ length s = omega arith in q } in
      subst Ending (sym (completed c)) (completes c)

  turn : (p : ℕ) (k : Gathered) → InTurn limit s from before p k
      → (f : Result Finding SheetFault) → (judged_of limit (drop p s) k).finding ≡ f
      → ((q : ℕ) (k' : Gathered) → p < q → InTurn limit s from before q k' → Ends) → Ends
  turn p k h (Ok (Taken n)) e rest =
      let k' = (judged_of limit (drop p s) k).gathered in
      let t = read_taken limit s p k _ (on h).0 refl n e in
      rest (p + n) k' (omega (arith, t.0)) (goes_on h (λ i. record { finding = e i; gathered = k' }))
  turn p k h (Ok Ended) e rest = last_ends p k h e (ltb (p + 1) (length s)) refl
  turn p k h (Err f) e rest = fault_ends (there h e)

  -- N bounds the bytes that are left
  go : (N p : ℕ) (k : Gathered) → length s < p + N → InTurn limit s from before p k → Ends
  go zero p k l h = absurd (omega (arith, (on h).0))
  go (suc N) p k l h =
      turn p k h (judged_of limit (drop p s) k).finding refl (λ q k' m h'. go N q k' (omega arith) h')

  every_reading : Ends
  every_reading = go (suc (length s)) from before (omega arith) begins

  to_fault : {r : Result Reading SheetRefusal} (f : SheetFault) (p : ℕ) → Ending r → r ≡ refused_at f p
      → FirstFault limit s from before f p
  to_fault f p (refuses {f = g} {p = q} h) e =
      let x : ◌≡◌ {A = SheetRefusal} (record { fault = g; at = q }) (record { fault = f; at = p }) = cc in
      subst (λ (y : SheetRefusal). FirstFault limit s from before y.fault y.at) x h
  to_fault f p (completes c) e = let z : ◌≡◌ {A = ℕ} 0 1 = cc in absurd (omega arith)

  to_whole : {r : Result Reading SheetRefusal} → Ending r → verdict_of r ≡ Ok tt
      → (k : Gathered) × Complete limit s from before k
  to_whole (refuses h) e = let z : ◌≡◌ {A = ℕ} 0 1 = cc in absurd (omega arith)
  to_whole (completes {k = k} c) e = (k, c)

  pub refused_exactly : (f : SheetFault) (p : ℕ)
      → (read_from limit s from before ≡ refused_at f p) ↔ FirstFault limit s from before f p
  refused_exactly f p = (to_fault f p every_reading, (λ h. (refused_there h).1))

  pub whole_exactly : (verdict_of (read_from limit s from before) ≡ Ok tt)
      ↔ ((k : Gathered) × Complete limit s from before k)
  whole_exactly = (to_whole every_reading, (λ c. ap verdict_of (completed c.1)))

-- A whole sheet.
module _ (limit : ℕ) (s : List ℕ) where
  pub sheet_refused : (f : SheetFault) (p : ℕ)
      → (read_of limit s ≡ refused_at f p) ↔ FirstFault limit s 0 nothing_gathered f p
  sheet_refused f p = rw (from_start limit s) at (refused_exactly limit s 0 nothing_gathered (omega arith) f p)

  -- all of the reading, not its verdict alone
  pub sheet_stops : {f : SheetFault} {p : ℕ} → FirstFault limit s 0 nothing_gathered f p
      → read_of limit s ≡ refused_at f p
  sheet_stops h = sym (from_start limit s) ∙ (refused_there limit s 0 nothing_gathered (omega arith) h).1

  pub sheet_whole : Accepted limit s ↔ ((k : Gathered) × Complete limit s 0 nothing_gathered k)
  sheet_whole = rw (from_start limit s) at (whole_exactly limit s 0 nothing_gathered (omega arith))

  -- it says what was gathered
  pub sheet_says : {k : Gathered} → Complete limit s 0 nothing_gathered k → read_of limit s ≡ ends k
  sheet_says c = sym (from_start limit s) ∙ completed limit s 0 nothing_gathered (omega arith) c

  -- the place of a refusal is in the sheet, or just behind its last byte
  pub place_inside : (f : SheetFault) (p : ℕ) → read_of limit s ≡ refused_at f p → p ≤ length s
  place_inside f p e = (refused_there limit s 0 nothing_gathered (omega arith) ((sheet_refused f p).0 e)).0

  -- just behind it only where a kind byte is missing, and by 30
  pub length_is_cut : (f : SheetFault) → read_of limit s ≡ refused_at f (length s) → f ≡ Cut
  length_is_cut f e = at_the_length limit s 0 nothing_gathered (omega arith) ((sheet_refused f (length s)).0 e) refl

-- The same from any place on, and from the sheet's end where the place lies behind it.
module _ (limit : ℕ) (s : List ℕ) (at : ℕ) (k : Gathered) (f : SheetFault) (p : ℕ) where
  placed_again : read_from limit s (place_in s at) k ≡ read_from limit s at k
  placed_again = ap (λ (q : ℕ). walk limit (drop q s) 0 q k) (min-eq_left (min-le_right at (length s)))

  pub from_refused : (read_from limit s at k ≡ refused_at f p) ↔ FirstFault limit s (place_in s at) k f p
  from_refused =
      let h = refused_exactly limit s (place_in s at) k (min-le_right at (length s)) f p in
      let e = placed_again in
      ((λ i. h.0 (e ∙ i)), (λ i. sym e ∙ h.1 i))

  pub from_inside : read_from limit s at k ≡ refused_at f p → p ≤ length s
  from_inside e = (refused_there limit s (place_in s at) k (min-le_right at (length s)) (from_refused.0 e)).0
