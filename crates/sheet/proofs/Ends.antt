-- The end record: it is 06, and leaves what was gathered.
use Rattle.std.specs.Prelude.{Option, Some, None, Result, Ok, Err}
use Rattle.sheet.specs.declared.Finding.TheVariants.{Ended}
use Rattle.sheet.specs.declared.SheetFault.{SheetFault}
use mathlib.Core.Path.{◌≡◌, refl, ap, ◌∙◌}
use mathlib.Core.Bool.{Bool, true, false}
use mathlib.Core.List.{List, [], ◌∷◌}
use Prim.Native.Nat.{ℕ, ◌<◌}
use native.Mathlib.Omega.{arith}
use lib.ListN.{length, take}
use lib.Dec.{eqb}
use borrow.Author.Tests.{eqb-true}
use Rattle.ground.specs.Choice.{pick}
use Rattle.sheet.specs.Kinds.{kind_of, body_length, in_order}
use Rattle.sheet.specs.Records.{features_rule, sizes_rule, key_rule, profile_rule, lock_rule}
use Rattle.sheet.specs.Judgement.{opened_of, record_in, taken_if, record_of, judged_of}
use Rattle.sheet.specs.Judgement.{with_features, with_sizes, with_key, with_profile, with_lock}
use Rattle.sheet.specs.declared.Kind.{Kind}
use Rattle.sheet.specs.declared.Kind.TheVariants.{FeatureRecord, SizeRecord, KeyRecord, ProfileRecord}
use Rattle.sheet.specs.declared.Kind.TheVariants.{LockRecord, EndRecord}
use Rattle.sheet.specs.declared.Gathered.{Gathered}
use Rattle.sheet.proofs.Openings.{passed}
use Rattle.sheet.proofs.Walks.{nothing_there}

-- the byte of a kind
abbrev pub code_of : Kind → ℕ
code_of FeatureRecord = 1
code_of SizeRecord = 2
code_of KeyRecord = 3
code_of ProfileRecord = 4
code_of LockRecord = 5
code_of EndRecord = 6

same : {p q : Kind} → ◌≡◌ {A = Option Kind} (Some p) (Some q) → p ≡ q
same e = cc

abbrev chosen : Bool → Bool → Bool → Bool → Bool → Bool → Option Kind
chosen a b c d e f =
    pick a (Some FeatureRecord)
    (pick b (Some SizeRecord)
    (pick c (Some KeyRecord)
    (pick d (Some ProfileRecord)
    (pick e (Some LockRecord)
    (pick f (Some EndRecord)
    None)))))

code_is : (x : ℕ) (q : Kind) (a b c d e f : Bool)
    → eqb x 1 ≡ a → eqb x 2 ≡ b → eqb x 3 ≡ c → eqb x 4 ≡ d → eqb x 5 ≡ e → eqb x 6 ≡ f
    → chosen a b c d e f ≡ Some q → x ≡ code_of q
code_is x q true b c d e f p1 p2 p3 p4 p5 p6 h = eqb-true x 1 p1 ∙ ap code_of (same h)
code_is x q false true c d e f p1 p2 p3 p4 p5 p6 h = eqb-true x 2 p2 ∙ ap code_of (same h)
code_is x q false false true d e f p1 p2 p3 p4 p5 p6 h = eqb-true x 3 p3 ∙ ap code_of (same h)
code_is x q false false false true e f p1 p2 p3 p4 p5 p6 h = eqb-true x 4 p4 ∙ ap code_of (same h)
code_is x q false false false false true f p1 p2 p3 p4 p5 p6 h = eqb-true x 5 p5 ∙ ap code_of (same h)
code_is x q false false false false false true p1 p2 p3 p4 p5 p6 h = eqb-true x 6 p6 ∙ ap code_of (same h)
code_is x q false false false false false false p1 p2 p3 p4 p5 p6 h =
    let z : ◌≡◌ {A = ℕ} 0 1 = cc in
    absurd (omega arith)

pub kind_code : (x : ℕ) (q : Kind) → kind_of x ≡ Some q → x ≡ code_of q
unfolding kind_of
kind_code x q h =
    code_is x q (eqb x 1) (eqb x 2) (eqb x 3) (eqb x 4) (eqb x 5) (eqb x 6) refl refl refl refl refl refl h

-- the end record leaves what was gathered
pick_end : (q : Kind) (k k' : Gathered) (r : Bool) → (taken_if r q k k').finding ≡ (Ok Ended) → ⊥
pick_end q k k' true e = let z : ◌≡◌ {A = ℕ} 0 1 = cc in omega arith
pick_end q k k' false e = let z : ◌≡◌ {A = ℕ} 0 1 = cc in omega arith

record_end : (q : Kind) (b : List ℕ) (k : Gathered) → (record_of q b k).finding ≡ (Ok Ended)
    → (q ≡ EndRecord) × ((record_of q b k).gathered ≡ k)
unfolding record_of
record_end FeatureRecord b k e = absurd (pick_end FeatureRecord k (with_features k b) (features_rule b) e)
record_end SizeRecord b k e = absurd (pick_end SizeRecord k (with_sizes k b) (sizes_rule b) e)
record_end KeyRecord b k e = absurd (pick_end KeyRecord k (with_key k b) (key_rule k.marks.id b) e)
record_end ProfileRecord b k e =
    let fits = profile_rule k.marks.number k.terms.sizes b in
    absurd (pick_end ProfileRecord k (with_profile k b) fits e)
record_end LockRecord b k e =
    let fits = lock_rule k.marks.area k.marks.word k.terms.sizes b in
    absurd (pick_end LockRecord k (with_lock k b) fits e)
record_end EndRecord b k e = (refl, refl)

-- the record that ends a sheet
pub record End (limit b : ℕ) (t : List ℕ) (k : Gathered) : Type 0 where
  pub byte : b ≡ 6
  pub ordered : in_order k.marks.last 6 ≡ true
  pub same : (judged_of limit (b ∷ t) k).gathered ≡ k

ended : (limit b : ℕ) (t : List ℕ) (k : Gathered) (o : Result Kind SheetFault) → opened_of limit b (length t) k ≡ o
    → (record_in o t k).finding ≡ (Ok Ended)
    → (b ≡ 6) × (in_order k.marks.last 6 ≡ true) × ((record_in o t k).gathered ≡ k)
ended limit b t k (Ok q) o e =
    let h = record_end q (take (body_length q) t) k e in
    let p = passed limit b (length t) k q o in
    let six = kind_code b q p.known ∙ ap code_of h.0 in
    (six, rw six at p.ordered, h.1)
ended limit b t k (Err f) o e = let z : ◌≡◌ {A = ℕ} 0 1 = cc in absurd (omega arith)

pub end : (limit b : ℕ) (t : List ℕ) (k : Gathered) → (judged_of limit (b ∷ t) k).finding ≡ (Ok Ended)
    → End limit b t k
unfolding judged_of
end limit b t k e =
    let h = ended limit b t k (opened_of limit b (length t) k) refl e in
    record { byte = h.0; ordered = h.1; same = h.2 }

-- of the bytes r: there is a byte, and nothing is gathered of it
pub ended_same : (limit : ℕ) (r : List ℕ) (k : Gathered) → (judged_of limit r k).finding ≡ (Ok Ended)
    → (0 < length r) × ((judged_of limit r k).gathered ≡ k)
ended_same limit [] k e =
    let h = nothing_there limit k in
    let z : ◌≡◌ {A = ℕ} 0 1 = cc in
    absurd (omega arith)
ended_same limit (b ∷ t) k e = (omega arith, (end limit b t k e).same)
