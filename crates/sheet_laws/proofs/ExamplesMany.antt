-- 34: a seventeenth profile and a seventeenth lock, each at its place, whatever follows its kind byte. (A seventeenth
-- key: `seventeenth` in Examples.) No profile number is above 15, so 34 has to come before 33.
use mathlib.Core.Path.{◌≡◌, refl, ap, subst, ◌∙◌}
use mathlib.Core.Bool.{true}
use mathlib.Core.List.{List, [], ◌∷◌, ◌++◌}
use Prim.Native.Nat.{ℕ, zero, suc, ◌+◌, ◌*◌, ◌≤◌, ◌<◌}
use native.Mathlib.Omega.{arith}
use native.Mathlib.Nat.{le_refl}
use borrow.Author.Tests.{le-leb, lt-leb, lt-ltb}
use Rattle.sheet.specs.Limits.{profile_limit, lock_limit}
use Rattle.sheet.specs.Kinds.{kind_of}
use Rattle.sheet.specs.Records.{words_in, inside, profile_rule, lock_rule}
use Rattle.sheet.specs.Judgement.{too_many, record_of, with_profile, with_lock}
use Rattle.sheet.specs.Sheet.{walk, RefusedBy}
use Rattle.sheet.specs.declared.Kind.TheVariants.{ProfileRecord, LockRecord}
use Rattle.sheet.specs.declared.SheetFault.TheVariants.{Many}
use Rattle.sheet.specs.declared.Gathered.{Gathered}
use Rattle.sheet.proofs.Verdicts.{refused_told}
use Rattle.sheet_laws.proofs.OneRecord.{order_on, go_on, one_too_many}
use Rattle.sheet_laws.proofs.ExamplesValues.{opening, sixteen, begun, behind_opening}

-- m records, numbered from n on, in front of t
pub rows : (ℕ → List ℕ) → ℕ → ℕ → List ℕ → List ℕ
rows one n zero t = t
rows one n (suc m) t = one n ++ rows one (n + 1) m t

-- each of sixteen is taken: K n says what was gathered before number n, at its place
module _ (limit : ℕ) (one : ℕ → List ℕ) (place : ℕ → ℕ) (K : ℕ → Gathered → Type 0)
    (takes : (n : ℕ) (t : List ℕ) (k : Gathered) → n < 16 → K n k
    → (k' : Gathered) × K (n + 1) k'
    × (walk limit (one n ++ t) 0 (place n) k ≡ walk limit t 0 (place (n + 1)) k')) where
  -- from number n at the bytes r on, up to number q at the bytes t
  abbrev Through : ℕ → ℕ → List ℕ → List ℕ → Gathered → Type 0
  Through n q r t k = (k' : Gathered) × K q k' × (walk limit r 0 (place n) k ≡ walk limit t 0 (place q) k')

  one_first : (n q : ℕ) (r t : List ℕ) (k : Gathered) → n < 16 → K n k
      → ((k' : Gathered) → K (n + 1) k' → Through (n + 1) q r t k') → Through n q (one n ++ r) t k
  one_first n q r t k h w rest =
      let i = takes n r k h w in
      let j = rest i.0 i.1 in
      (j.0, j.1, i.2 ∙ j.2)

  rows_taken : (m n q : ℕ) (t : List ℕ) (k : Gathered) → n + m ≡ q → q ≤ 16 → K n k
      → Through n q (rows one n m t) t k
  unfolding rows
  rows_taken zero n q t k e h w = let i : n ≡ q = omega arith in subst (λ (x : ℕ). Through n x t t k) i (k, w, refl)
  rows_taken (suc m) n q t k e h w =
      one_first n q (rows one (n + 1) m t) t k (omega arith) w
      (λ k' w'. rows_taken m (n + 1) q t k' (omega arith) h w')

-- profile n: word 0 of area 0
abbrev pub profile : ℕ → List ℕ
profile n = 0x04 ∷ n ∷ 0x00 ∷ 0x00 ∷ 0x00 ∷ 0x00 ∷ 0x01 ∷ []

-- n profiles have been read
record Profiles (n : ℕ) (k : Gathered) : Type 0 where
  behind : 2 ≤ k.marks.last
  low : k.marks.last ≤ 4
  count : k.marks.profiles ≡ n
  next : k.marks.number ≤ n
  sizes : k.terms.sizes ≡ sixteen

abbrev profile_place : ℕ → ℕ
profile_place n = 8 + 7 * n

profile_taken : (limit n : ℕ) (t : List ℕ) (k : Gathered) → n < 16 → Profiles n k
    → (k' : Gathered) × Profiles (n + 1) k'
    × (walk limit (profile n ++ t) 0 (profile_place n) k ≡ walk limit t 0 (profile_place (n + 1)) k')
unfolding kind_of too_many record_of with_profile profile_rule inside words_in profile_limit
profile_taken limit n t k h w =
    let c : List ℕ = n ∷ 0x00 ∷ 0x00 ∷ 0x00 ∷ 0x00 ∷ 0x01 ∷ [] in
    let k' = with_profile k c in
    let fine : profile_rule k.marks.number k.terms.sizes c ≡ true =
    rw (w.sizes, le-leb k.marks.number n w.next, lt-ltb n 16 h) in
    let e : 8 + 7 * n + 1 + 6 ≡ 8 + 7 * (n + 1) = omega arith in
    let room : k.marks.profiles < 16 = omega (arith, w.count) in (
      k',
      record {
        behind = omega arith;
        low = omega arith;
        count = ap (λ (m : ℕ). m + 1) w.count;
        next = le_refl (n + 1);
        sizes = w.sizes;
      },
      go_on limit 4 ProfileRecord c t k k' refl (order_on k.marks.last 4 w.behind w.low (omega arith))
          (lt-leb 16 k.marks.profiles room) refl (rw fine) (8 + 7 * n)
          ∙ ap (λ (m : ℕ). walk limit t 0 m k') e,
    )

pub seventeenth_profile : (limit : ℕ) (t : List ℕ) → RefusedBy limit (opening (rows profile 0 16 (0x04 ∷ t))) 34 120
unfolding kind_of too_many profile_limit
seventeenth_profile limit t =
    let w : Profiles 0 begun = record {
      behind = omega arith;
      low = omega arith;
      count = refl;
      next = omega arith;
      sizes = refl;
    } in
    let r = rows_taken limit profile profile_place Profiles (profile_taken limit) 16 0 16 (0x04 ∷ t) begun refl
    (le_refl 16) w in
    let k = r.0 in
    refused_told limit (opening (rows profile 0 16 (0x04 ∷ t))) Many 120
    (behind_opening limit (rows profile 0 16 (0x04 ∷ t))
    ∙ r.2
    ∙ one_too_many limit 4 ProfileRecord 120 k t refl (order_on k.marks.last 4 r.1.behind r.1.low (omega arith))
    (le-leb 16 k.marks.profiles (omega (arith, r.1.count))))

-- lock n: word n of area 0
abbrev pub lock : ℕ → List ℕ
lock n = 0x05 ∷ 0x00 ∷ 0x00 ∷ n ∷ 0x00 ∷ 0x01 ∷ []

-- n locks have been read
record Locked (n : ℕ) (k : Gathered) : Type 0 where
  behind : 2 ≤ k.marks.last
  low : k.marks.last ≤ 5
  count : k.terms.locks.count ≡ n
  area : k.marks.area ≡ 0
  word : k.marks.word ≤ n
  sizes : k.terms.sizes ≡ sixteen

abbrev lock_place : ℕ → ℕ
lock_place n = 8 + 6 * n

lock_taken : (limit n : ℕ) (t : List ℕ) (k : Gathered) → n < 16 → Locked n k
    → (k' : Gathered) × Locked (n + 1) k'
    × (walk limit (lock n ++ t) 0 (lock_place n) k ≡ walk limit t 0 (lock_place (n + 1)) k')
unfolding kind_of too_many record_of with_lock lock_rule inside words_in lock_limit
lock_taken limit n t k h w =
    let c : List ℕ = 0x00 ∷ 0x00 ∷ n ∷ 0x00 ∷ 0x01 ∷ [] in
    let k' = with_lock k c in
    let first : 0 * 256 + n ≡ n = omega arith in
    let fine : lock_rule k.marks.area k.marks.word k.terms.sizes c ≡ true =
    rw (w.sizes, w.area, first, le-leb (n + 1) 16 (omega arith), le-leb k.marks.word n w.word) in
    let e : 8 + 6 * n + 1 + 5 ≡ 8 + 6 * (n + 1) = omega arith in
    let room : k.terms.locks.count < 16 = omega (arith, w.count) in (
      k',
      record {
        behind = omega arith;
        low = omega arith;
        count = ap (λ (m : ℕ). m + 1) w.count;
        area = refl;
        word = omega arith;
        sizes = w.sizes;
      },
      go_on limit 5 LockRecord c t k k' refl (order_on k.marks.last 5 w.behind w.low (omega arith))
          (lt-leb 16 k.terms.locks.count room) refl (rw fine) (8 + 6 * n)
          ∙ ap (λ (m : ℕ). walk limit t 0 m k') e,
    )

pub seventeenth_lock : (limit : ℕ) (t : List ℕ) → RefusedBy limit (opening (rows lock 0 16 (0x05 ∷ t))) 34 104
unfolding kind_of too_many lock_limit
seventeenth_lock limit t =
    let w : Locked 0 begun = record {
      behind = omega arith;
      low = omega arith;
      count = refl;
      area = refl;
      word = omega arith;
      sizes = refl;
    } in
    let r = rows_taken limit lock lock_place Locked (lock_taken limit) 16 0 16 (0x05 ∷ t) begun refl (le_refl 16) w in
    let k = r.0 in
    refused_told limit (opening (rows lock 0 16 (0x05 ∷ t))) Many 104
    (behind_opening limit (rows lock 0 16 (0x05 ∷ t))
    ∙ r.2
    ∙ one_too_many limit 5 LockRecord 104 k t refl (order_on k.marks.last 5 r.1.behind r.1.low (omega arith))
    (le-leb 16 k.terms.locks.count (omega (arith, r.1.count))))
