-- The walk over a sheet's bytes: a record that is taken is passed.
use Rattle.std.specs.Prelude.{Result, Ok, Err}
use Rattle.sheet.specs.declared.Finding.TheVariants.{Taken, Ended}
use mathlib.Core.Path.{◌≡◌, refl, sym, ap, ◌∙◌}
use mathlib.Core.Bool.{Bool, true, false}
use mathlib.Core.List.{List, [], ◌∷◌}
use Prim.Native.Nat.{ℕ, zero, suc, ◌+◌, ◌-◌, ◌≤◌, ◌<◌}
use native.Mathlib.Omega.{arith}
use native.Mathlib.Nat.{le_of_suc-le-suc, not-suc-le-zero, min-eq_left, min-eq_right}
use lib.ListN.{length, take, drop, length-drop}
use lib.Seq.{take_all, drop-drop, drop-length}
use Rattle.sheet.specs.Kinds.{kind_of, body_length, length_behind, record_length}
use Rattle.sheet.specs.Records.{features_rule, sizes_rule, key_rule, profile_rule, lock_rule}
use Rattle.sheet.specs.Judgement.{opened_of, record_in, taken_if, record_of, judged_of}
use Rattle.sheet.specs.Judgement.{with_features, with_sizes, with_key, with_profile, with_lock}
use Rattle.sheet.specs.Setups.{nothing_gathered}
use Rattle.sheet.specs.Sheet.{walk, after, ends, refused_at, read_from, read_of}
use Rattle.sheet.specs.declared.Kind.{Kind}
use Rattle.sheet.specs.declared.Kind.TheVariants.{FeatureRecord, SizeRecord, KeyRecord, ProfileRecord}
use Rattle.sheet.specs.declared.Kind.TheVariants.{LockRecord, EndRecord}
use Rattle.sheet.specs.declared.SheetFault.{SheetFault}
use Rattle.sheet.specs.declared.SheetFault.TheVariants.{Cut, Tail}
use Rattle.sheet.specs.declared.Gathered.{Gathered}
use Rattle.sheet.specs.declared.Judged.{Judged}
use Rattle.sheet.proofs.Openings.{Passed, passed}

-- a body is passed
pub pass : (limit n : ℕ) (t : List ℕ) (at : ℕ) (k : Gathered) → n ≤ length t
    → walk limit t n at k ≡ walk limit (drop n t) 0 (at + n) k
unfolding walk
pass limit zero t at k h = ap (λ (m : ℕ). walk limit t 0 m k) (let e : at ≡ at + 0 = omega arith in e)
pass limit (suc n) [] at k h = absurd (not-suc-le-zero h)
pass limit (suc n) (b ∷ t) at k h =
    let e : at + 1 + n ≡ at + suc n = omega arith in
    pass limit n t (at + 1) k (le_of_suc-le-suc h) ∙ ap (λ (m : ℕ). walk limit (drop n t) 0 m k) e

-- A record that is taken: its rule holds, and what is gathered is that of its kind.
pub data Took : Kind → List ℕ → Gathered → Gathered → Type 0 where
  took_features : {b : List ℕ} {k : Gathered} → features_rule b ≡ true → Took FeatureRecord b k (with_features k b)
  took_sizes : {b : List ℕ} {k : Gathered} → sizes_rule b ≡ true → Took SizeRecord b k (with_sizes k b)
  took_key : {b : List ℕ} {k : Gathered} → key_rule k.marks.id b ≡ true → Took KeyRecord b k (with_key k b)
  took_profile : {b : List ℕ} {k : Gathered} → profile_rule k.marks.number k.terms.sizes b ≡ true
      → Took ProfileRecord b k (with_profile k b)
  took_lock : {b : List ℕ} {k : Gathered} → lock_rule k.marks.area k.marks.word k.terms.sizes b ≡ true
      → Took LockRecord b k (with_lock k b)

picked : (q : Kind) (b : List ℕ) (k k' : Gathered) (r : Bool) (n : ℕ) → (r ≡ true → Took q b k k')
    → (taken_if r q k k').finding ≡ Ok (Taken n) → (n ≡ record_length q) × Took q b k (taken_if r q k k').gathered
picked q b k k' true n t e = (let h : n ≡ record_length q = cc in h, t refl)
picked q b k k' false n t e = let z : ◌≡◌ {A = ℕ} 0 1 = cc in absurd (omega arith)

pub record_took : (q : Kind) (b : List ℕ) (k : Gathered) (n : ℕ) → (record_of q b k).finding ≡ Ok (Taken n)
    → (n ≡ record_length q) × Took q b k (record_of q b k).gathered
unfolding record_of
record_took FeatureRecord b k n e = picked FeatureRecord b k (with_features k b) (features_rule b) n took_features e
record_took SizeRecord b k n e = picked SizeRecord b k (with_sizes k b) (sizes_rule b) n took_sizes e
record_took KeyRecord b k n e = picked KeyRecord b k (with_key k b) (key_rule k.marks.id b) n took_key e
record_took ProfileRecord b k n e =
    let fits = profile_rule k.marks.number k.terms.sizes b in
    picked ProfileRecord b k (with_profile k b) fits n took_profile e
record_took LockRecord b k n e =
    let fits = lock_rule k.marks.area k.marks.word k.terms.sizes b in
    picked LockRecord b k (with_lock k b) fits n took_lock e
record_took EndRecord b k n e = let z : ◌≡◌ {A = ℕ} 0 1 = cc in absurd (omega arith)

-- The same of the record at which the bytes b ∷ t start.
pub record Step (limit b : ℕ) (t : List ℕ) (k k' : Gathered) (n : ℕ) : Type 0 where
  pub kind : Kind
  pub passed_checks : Passed limit b (length t) k kind
  pub size : n ≡ record_length kind
  pub took : Took kind (take (body_length kind) t) k k'
  pub judged : judged_of limit (b ∷ t) k ≡ record { finding = Ok (Taken n); gathered = k' }

stepped : (limit b : ℕ) (t : List ℕ) (k : Gathered) (n : ℕ) (o : Result Kind SheetFault)
    → opened_of limit b (length t) k ≡ o → (record_in o t k).finding ≡ Ok (Taken n)
    → (q : Kind) × Passed limit b (length t) k q × (n ≡ record_length q)
    × Took q (take (body_length q) t) k (record_in o t k).gathered
stepped limit b t k n (Ok q) o e =
    let h = record_took q (take (body_length q) t) k n e in
    (q, passed limit b (length t) k q o, h.0, h.1)
stepped limit b t k n (Err f) o e = let z : ◌≡◌ {A = ℕ} 0 1 = cc in absurd (omega arith)

pub step : (limit b : ℕ) (t : List ℕ) (k : Gathered) (n : ℕ) → (judged_of limit (b ∷ t) k).finding ≡ Ok (Taken n)
    → Step limit b t k (judged_of limit (b ∷ t) k).gathered n
unfolding judged_of
step limit b t k n e =
    let h = stepped limit b t k n (opened_of limit b (length t) k) refl e in
    record {
      kind = h.0;
      passed_checks = h.1;
      size = h.2;
      took = h.3;
      judged = λ i. record { finding = e i; gathered = (judged_of limit (b ∷ t) k).gathered };
    }

-- of a record of a known kind so many bytes follow the kind byte
pub behind_kind : {limit b left : ℕ} {k : Gathered} {q : Kind} → Passed limit b left k q
    → length_behind (kind_of b) ≡ body_length q
behind_kind p = ap length_behind p.known

-- where no byte is left
pub nothing_there : (limit : ℕ) (k : Gathered) → (judged_of limit [] k).finding ≡ Err Cut
unfolding judged_of
nothing_there limit k = refl

-- What each finding on the record at which the bytes r start means for the walk.
module _ (limit at : ℕ) (k : Gathered) where
  pub walk_faulty : (r : List ℕ) (f : SheetFault) → (judged_of limit r k).finding ≡ Err f
      → walk limit r 0 at k ≡ refused_at f at
  unfolding walk after
  walk_faulty [] f e =
      let h = nothing_there limit k in
      let c : Cut ≡ f = cc in
      ap (λ (g : SheetFault). refused_at g at) c
  walk_faulty (b ∷ t) f e = rw e

  pub walk_tail : (r : List ℕ) → 1 < length r → (judged_of limit r k).finding ≡ (Ok Ended)
      → walk limit r 0 at k ≡ refused_at Tail (at + 1)
  unfolding walk after
  walk_tail [] h e = absurd (omega arith)
  walk_tail (b ∷ []) h e = absurd (omega arith)
  walk_tail (b ∷ x ∷ t) h e = rw e

  pub walk_whole : (r : List ℕ) → length r ≤ 1 → (judged_of limit r k).finding ≡ (Ok Ended)
      → walk limit r 0 at k ≡ ends (judged_of limit r k).gathered
  unfolding walk after
  walk_whole [] h e =
      let n = nothing_there limit k in
      let z : ◌≡◌ {A = ℕ} 0 1 = cc in
      absurd (omega arith)
  walk_whole (b ∷ []) h e = rw e
  walk_whole (b ∷ x ∷ t) h e = absurd (omega arith)

  pub walk_taken : (r : List ℕ) (n : ℕ) → (judged_of limit r k).finding ≡ Ok (Taken n)
      → (1 ≤ n) × (n ≤ length r) × (walk limit r 0 at k ≡ walk limit (drop n r) 0 (at + n)
      (judged_of limit r k).gathered)
  unfolding walk after
  walk_taken [] n e =
      let h = nothing_there limit k in
      let z : ◌≡◌ {A = ℕ} 0 1 = cc in
      absurd (omega arith)
  walk_taken (b ∷ t) n e =
      let s = step limit b t k n e in
      let w = s.passed_checks.whole in
      let z = s.size in
      let m = body_length s.kind in
      let q : at + 1 + m ≡ at + suc m = omega arith in (
        omega arith,
        omega arith,
        rw (e, z, behind_kind s.passed_checks, pass limit m t (at + 1) (judged_of limit (b ∷ t) k).gathered w, q),
      )

-- A part of a sheet that reaches to its end is all that follows the place.
pub rest : (s : List ℕ) (at : ℕ) → take (length s - at) (drop at s) ≡ drop at s
rest s at = take_all (length s - at) (drop at s) (rw (length-drop at s) (omega arith))

-- a place in the sheet is where it is read from
pub placed : (limit : ℕ) (s : List ℕ) (at : ℕ) (k : Gathered) → at ≤ length s
    → read_from limit s at k ≡ walk limit (drop at s) 0 at k
placed limit s at k h = ap (λ (p : ℕ). walk limit (drop p s) 0 p k) (min-eq_left h)

-- from its first byte on, with nothing gathered, it is the whole sheet
pub from_start : (limit : ℕ) (s : List ℕ) → read_from limit s 0 nothing_gathered ≡ read_of limit s
unfolding read_of
from_start limit s = placed limit s 0 nothing_gathered (omega arith)

-- The same at a place of the sheet s, where j is the judgement on the bytes from there on.
module _ (limit : ℕ) (s : List ℕ) (at : ℕ) (k : Gathered) (j : Judged) (h : at ≤ length s)
    (judged : j ≡ judged_of limit (drop at s) k) where
  long : length (drop at s) ≡ length s - at
  long = length-drop at s

  pub read_faulty : (f : SheetFault) → j.finding ≡ Err f → read_from limit s at k ≡ refused_at f at
  read_faulty f g = placed limit s at k h ∙ walk_faulty limit at k (drop at s) f (rw judged at g)

  pub read_tail : j.finding ≡ (Ok Ended) → at + 1 < length s → read_from limit s at k ≡ refused_at Tail (at + 1)
  read_tail g l =
      placed limit s at k h ∙ walk_tail limit at k (drop at s) (rw long (omega arith)) (rw judged at g)

  pub read_whole : j.finding ≡ (Ok Ended) → length s ≤ at + 1 → read_from limit s at k ≡ ends j.gathered
  read_whole g l =
      placed limit s at k h
      ∙ walk_whole limit at k (drop at s) (rw long (omega arith)) (rw judged at g)
      ∙ ap (λ (x : Judged). ends x.gathered) (sym judged)

  pub read_taken : (n : ℕ) → j.finding ≡ Ok (Taken n)
      → (1 ≤ n) × (at + n ≤ length s) × (read_from limit s at k ≡ read_from limit s (at + n) j.gathered)
  read_taken n g =
      let t = walk_taken limit at k (drop at s) n (rw judged at g) in
      let l : n ≤ length s - at = rw long at t.1 in
      let i : at + n ≤ length s = omega arith in
      let on : walk limit (drop at s) 0 at k ≡ walk limit (drop (at + n) s) 0 (at + n) j.gathered =
      rw (judged, ← drop-drop n at s) t.2 in
      (t.0, i, placed limit s at k h ∙ on ∙ sym (placed limit s (at + n) j.gathered i))

-- at the sheet's end, and behind it
pub read_cut : (limit : ℕ) (s : List ℕ) (at : ℕ) (k : Gathered) → length s ≤ at
    → read_from limit s at k ≡ refused_at Cut (length s)
unfolding walk
read_cut limit s at k h =
    ap (λ (p : ℕ). walk limit (drop p s) 0 p k) (min-eq_right h) ∙ rw (drop-length s)
