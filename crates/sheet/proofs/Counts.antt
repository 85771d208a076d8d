-- What is gathered counts the records that were taken, and has the kind of the last: so 32 and 34 speak of the records
-- that stand before.
use Rattle.std.specs.Prelude.{Ok}
use Rattle.sheet.specs.declared.Finding.TheVariants.{Taken}
use mathlib.Core.Path.{◌≡◌, refl, sym, ap, subst}
use mathlib.Core.List.{List, [], ◌∷◌}
use Prim.Native.Nat.{ℕ}
use native.Mathlib.Omega.{arith}
use lib.ListN.{drop}
use lib.Dec.{leb}
use Rattle.ground.specs.Bytes.{byte_at}
use Rattle.sheet.specs.Limits.{profile_limit, lock_limit}
use Rattle.sheet.specs.Setups.{empty_terms, no_marks, nothing_gathered}
use Rattle.sheet.specs.Judgement.{too_many, judged_of, with_features, with_sizes, with_key, with_profile, with_lock}
use Rattle.sheet.specs.Refusals.{InTurn, begins, goes_on, kinds_taken, how_many}
use Rattle.sheet.specs.PaperNumbers.{all_stand}
use Rattle.sheet.specs.declared.Kind.{Kind}
use Rattle.sheet.specs.declared.Kind.TheVariants.{FeatureRecord, SizeRecord, KeyRecord, ProfileRecord}
use Rattle.sheet.specs.declared.Kind.TheVariants.{LockRecord, EndRecord}
use Rattle.sheet.specs.declared.Gathered.{Gathered}
use Rattle.sheet.specs.declared.Judged.{Judged}
use Rattle.sheet.proofs.Walks.{Took, took_features, took_sizes, took_key, took_profile, took_lock}
use Rattle.sheet.proofs.Walks.{step, nothing_there}
use Rattle.sheet.proofs.Ends.{code_of, kind_code}

-- the kinds of the records taken, the last first, and what is gathered of them
pub record Counted (k : Gathered) (kinds : List ℕ) : Type 0 where
  pub last : k.marks.last ≡ byte_at kinds 0
  pub keys : k.marks.keys ≡ how_many 3 kinds
  pub profiles : k.marks.profiles ≡ how_many 4 kinds
  pub locks : k.terms.locks.count ≡ how_many 5 kinds

took_counted : {q : Kind} {b : List ℕ} {k k' : Gathered} (kinds : List ℕ) → Took q b k k' → Counted k kinds
    → Counted k' (code_of q ∷ kinds)
unfolding with_features with_sizes with_key with_profile with_lock
took_counted kinds (took_features r) c =
    record { last = refl; keys = c.keys; profiles = c.profiles; locks = c.locks }
took_counted kinds (took_sizes r) c =
    record { last = refl; keys = c.keys; profiles = c.profiles; locks = c.locks }
took_counted kinds (took_key r) c =
    record { last = refl; keys = omega (arith, c.keys); profiles = c.profiles; locks = c.locks }
took_counted kinds (took_profile r) c =
    record { last = refl; keys = c.keys; profiles = omega (arith, c.profiles); locks = c.locks }
took_counted kinds (took_lock r) c =
    record { last = refl; keys = c.keys; profiles = c.profiles; locks = omega (arith, c.locks) }

one_counted : (limit n : ℕ) (k k' : Gathered) (kinds r : List ℕ)
    → judged_of limit r k ≡ record { finding = Ok (Taken n); gathered = k' } → Counted k kinds
    → Counted k' (byte_at r 0 ∷ kinds)
one_counted limit n k k' kinds [] j c =
    let h = nothing_there limit k in
    let f = ap (λ (x : Judged). x.finding) j in
    let z : ◌≡◌ {A = ℕ} 0 1 = cc in
    absurd (omega arith)
one_counted limit n k k' kinds (b ∷ t) j c =
    let one = step limit b t k n (ap (λ (x : Judged). x.finding) j) in
    let code = kind_code b one.kind one.passed_checks.known in
    let more = took_counted kinds one.took c in
    subst (λ (x : ℕ). Counted k' (x ∷ kinds)) (sym code)
    (subst (λ (x : Gathered). Counted x (code_of one.kind ∷ kinds)) (ap (λ (x : Judged). x.gathered) j) more)

-- 34: as many of its kind stand before it as there may be
pub many_stand : (limit : ℕ) (q : Kind) (k : Gathered) (kinds : List ℕ) → Counted k kinds
    → too_many limit q k ≡ all_stand limit q kinds
unfolding too_many
many_stand limit FeatureRecord k kinds c = refl
many_stand limit SizeRecord k kinds c = refl
many_stand limit KeyRecord k kinds c = ap (leb limit) c.keys
many_stand limit ProfileRecord k kinds c = ap (leb profile_limit) c.profiles
many_stand limit LockRecord k kinds c = ap (leb lock_limit) c.locks
many_stand limit EndRecord k kinds c = refl

module _ (limit : ℕ) (s : List ℕ) where
  pub counted : {p : ℕ} {k : Gathered} (h : InTurn limit s 0 nothing_gathered p k) → Counted k (kinds_taken h)
  unfolding nothing_gathered no_marks empty_terms
  counted begins = record { last = refl; keys = refl; profiles = refl; locks = refl }
  counted (goes_on {p = p} {n = n} {k = k} {k' = k'} h e) =
      one_counted limit n k k' (kinds_taken h) (drop p s) e (counted h)
