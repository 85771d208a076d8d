-- `some_locked` says yes exactly if a word address lies in the block and in a lock in use, in the same area; and the
-- steps of `overlaps` and `locked`.
use mathlib.Core.Path.{◌≡◌, refl, sym, ap, ◌∙◌}
use mathlib.Core.Logic.{⊎_elim, ◌↔◌}
use mathlib.Core.Bool.{Bool, true, false, not, or-true, false≢true}
use mathlib.Core.List.{List, [], ◌∷◌}
use Prim.Native.Nat.{ℕ, zero, suc, ◌+◌, ◌-◌, ◌≤◌, ◌<◌, max}
use native.Mathlib.Omega.{arith}
use native.Mathlib.Nat.{eq-or-lt_of_le}
use lib.Dec.{ltb, eqb}
use denote.Enum.Bare.{sameb}
use Rattle.std.specs.List.{list_any}
use Rattle.memory.specs.contracts.Area.{the_type}
use Rattle.memory.specs.declared.Area.{Area}
use Rattle.memory.specs.declared.Area.TheVariants.{Identity, User}
use lib.ListN.{length, take, get_or, length-take}
use lib.Seq.{get_or-take}
use borrow.Author.Tests.{eqb-true, leb-true, ltb-true, ltb-false, eq-eqb, le-leb, lt-ltb}
use Rattle.memory.specs.declared.Block.{Block}
use Rattle.memory.specs.declared.Lock.{Lock}
use Rattle.memory.specs.Address.{area_number, same_area}
use Rattle.memory.specs.Rights.{holds, some, meets, meets_any, some_locked, no_lock}
use Rattle.memory.proofs.Truth.{alike, never, either, both}

module _ (test : ℕ → Bool) where
  pub some_found : (n i w : ℕ) → i ≤ w → w < i + n → test w ≡ true → some test i n ≡ true
  unfolding some
  some_found zero i w p q h = let z : ⊥ = omega arith in absurd z
  some_found (suc n) i w p q h =
      ⊎_elim
      (λ (e : i ≡ w). simp (ap test e ∙ h))
      (λ (l : i < w). simp (some_found n (suc i) w l (omega arith) h, or-true))
      (eq-or-lt_of_le p)

  pub some_where : (n i : ℕ) → some test i n ≡ true → (w : ℕ) × (i ≤ w) × (w < i + n) × (test w ≡ true)
  unfolding some
  some_where zero i h = absurd (false≢true h)
  some_where (suc n) i h =
      ⊎_elim
      (λ (e : test i ≡ true). (i, omega arith, omega arith, e))
      (λ (l : some test (suc i) n ≡ true). let s = some_where n (suc i) l in
      (s.0, omega (arith, s.1), omega (arith, s.2), s.3))
      (either (test i) (some test (suc i) n) h)

-- `==` of two areas compares their numbers
told : (a b : Area) → sameb the_type a b ≡ eqb (area_number a) (area_number b)
unfolding area_number
told Identity Identity = refl
told Identity User = refl
told User Identity = refl
told User User = refl

not_false : (b : Bool) → not b ≡ false → b ≡ true
not_false true h = refl
not_false false h = sym h

not_true : (b : Bool) → not b ≡ true → b ≡ false
not_true true h = sym h
not_true false h = refl

-- the word `w` lies in the block and in the lock, in one area
pub record Common (block : Block) (lock : Lock) (w : ℕ) : Type 0 where
  pub area : area_number lock.area ≡ area_number block.area
  pub lock_from : lock.first.0 ≤ w
  pub lock_to : w < lock.first.0 + lock.words
  pub block_from : block.first.0 ≤ w
  pub block_to : w < block.first.0 + block.words

module _ (block : Block) (lock : Lock) where
  pub meets_at : (w : ℕ) → Common block lock w → meets block lock ≡ true
  unfolding meets holds same_area
  meets_at w k =
      some_found (holds lock block.area) block.words block.first.0 w k.block_from k.block_to
      (simp (eq-eqb _ _ k.area, le-leb _ _ k.lock_from, lt-ltb _ _ k.lock_to))

  pub meets_where : meets block lock ≡ true → (w : ℕ) × Common block lock w
  unfolding meets holds same_area
  meets_where h =
      let s = some_where (holds lock block.area) block.words block.first.0 h in
      let a = both _ _ s.3 in
      let l = both _ _ a.1 in (
        s.0,
        record {
          area = eqb-true _ _ a.0;
          lock_from = leb-true _ _ l.0;
          lock_to = ltb-true _ _ l.1;
          block_from = s.1;
          block_to = s.2;
        },
      )

  -- the steps of `overlaps`
  pub apart : not (sameb the_type lock.area block.area) ≡ true → false ≡ meets block lock
  apart n =
      sym (never (meets block lock) (λ h.
      let k = (meets_where h).1 in
      false≢true (sym (not_true _ n) ∙ told lock.area block.area ∙ eq-eqb _ _ k.area)))

  pub behind : (w : ℕ) → w ≡ max block.first.0 lock.first.0 → lock.first.0 + lock.words ≤ w
      → false ≡ meets block lock
  behind w e h =
      sym (never (meets block lock) (λ t. let s = meets_where t in let k = s.1 in let z : ⊥ = omega arith in z))

  pub tested : not (sameb the_type lock.area block.area) ≡ false → (w : ℕ) → w ≡ max block.first.0 lock.first.0
      → w < lock.first.0 + lock.words → ltb (w - block.first.0) block.words ≡ meets block lock
  tested a w e h =
      alike _ _
      (λ t.
      let near = ltb-true (w - block.first.0) block.words t in
      meets_at w
      (record {
        area = eqb-true _ _ (sym (told lock.area block.area) ∙ not_false _ a);
        lock_from = omega arith;
        lock_to = h;
        block_from = omega arith;
        block_to = omega arith;
      }))
      (λ t.
      let far = ltb-false (w - block.first.0) block.words t in
      never (meets block lock) (λ u. let s = meets_where u in let k = s.1 in let z : ⊥ = omega arith in z))

module _ (block : Block) where
  any_at : (locks : List Lock) (i : ℕ) → i < length locks → meets block (get_or locks i no_lock) ≡ true
      → meets_any block locks ≡ true
  unfolding meets_any
  any_at [] i p h = let z : ⊥ = omega arith in absurd z
  any_at (lock ∷ locks) zero p h = simp h
  any_at (lock ∷ locks) (suc i) p h = simp (any_at locks i (omega arith) h, or-true)

  any_where : (locks : List Lock) → meets_any block locks ≡ true → (i : ℕ) × (i < length locks)
      × (meets block (get_or locks i no_lock) ≡ true)
  unfolding meets_any
  any_where [] h = absurd (false≢true h)
  any_where (lock ∷ locks) h =
      ⊎_elim
      (λ (e : meets block lock ≡ true). (0, omega arith, e))
      (λ (l : meets_any block locks ≡ true). let s = any_where locks l in (suc s.0, omega (arith, s.1), s.2))
      (either (meets block lock) (meets_any block locks) h)

  module _ (locks : List Lock) (used : ℕ) where
    -- a lock in use, the i-th, has a word in common with the block
    pub locked_at : (i : ℕ) → i < used → i < length locks → meets block (get_or locks i no_lock) ≡ true
        → some_locked locks used block ≡ true
    unfolding some_locked
    locked_at i p q h =
        any_at (take used locks) i (omega (arith, length-take used locks)) (simp (get_or-take used locks i no_lock p) h)

    pub locked_where : some_locked locks used block ≡ true
        → (i : ℕ) × (i < used) × (i < length locks) × (meets block (get_or locks i no_lock) ≡ true)
    unfolding some_locked
    locked_where h =
        let s = any_where (take used locks) h in
        let n = length-take used locks in
        let p : s.0 < used = omega (arith, s.1) in
        (s.0, p, omega (arith, s.1), simp (get_or-take used locks s.0 no_lock p) at s.2)

    -- exactly where some word lies in the block and in a lock in use, in one area
    pub locked_exactly : (some_locked locks used block ≡ true)
        ↔ ((i : ℕ) × (w : ℕ) × (i < used) × (i < length locks) × Common block (get_or locks i no_lock) w)
    locked_exactly = (
      λ h. let s = locked_where h in
          let m = meets_where block (get_or locks s.0 no_lock) s.3 in
          (s.0, m.0, s.1, s.2, m.1),
      λ k. locked_at k.0 k.2 k.3 (meets_at block (get_or locks k.0 no_lock) k.1 k.4),
    )

-- a search of the locks in use
pub any_meets : (block : Block) (locks : List Lock) → list_any (meets block) locks ≡ meets_any block locks
unfolding meets_any
any_meets block [] = refl
any_meets block (lock ∷ locks) = simp (any_meets block locks)
