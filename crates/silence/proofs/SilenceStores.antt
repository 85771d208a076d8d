-- The same change: nothing changed, one change after another, and the same bytes stored in both areas.
use mathlib.Core.Path.{◌≡◌, refl, sym, ap, ◌∙◌}
use mathlib.Core.Logic.{◌⊎◌, ⊎_elim, inl, inr}
use mathlib.Core.Bool.{Bool, true, false, cond, ◌&&◌}
use mathlib.Core.List.{List, ◌++◌}
use Prim.Native.Nat.{ℕ, ◌+◌, ◌-◌, ◌*◌, ◌≤◌, ◌<◌}
use native.Mathlib.Omega.{arith}
use lib.Dec.{eqb, leb, ltb}
use lib.ListN.{length, take, drop, get_or, length-take, get_or-append}
use lib.Seq.{get_or-append-add}
use borrow.Author.Tests.{leb-true, ltb-true, ltb-false, eqb-true}
use Rattle.memory.specs.declared.Area.{Area}
use Rattle.memory.specs.declared.Block.{Block}
use Rattle.memory.specs.Address.{same_area}
use Rattle.memory.specs.Areas.{first_byte, byte_count, within, written, stored_in}
use Rattle.memory.proofs.Truth.{both}
use Rattle.memory.proofs.Stores.{stored_elsewhere, stored_length, stored_outside}
use Rattle.silence.specs.Silence.{word_of, SameChange}

pub unchanged : (s t : List ℕ) → SameChange s t s t
unchanged s t = record { differed = λ w h. (refl, refl); agreed = λ w e. e; long = refl; long' = refl }

pub one_after_another : (s t m n k l : List ℕ) → SameChange s t m n → SameChange m n k l → SameChange s t k l
one_after_another s t m n k l f g = record {
  differed = λ w h.
      (let p = f.differed w h in
      let q = g.differed w (λ e. h (sym p.0 ∙ e ∙ p.1)) in
      (q.0 ∙ p.0, q.1 ∙ p.1));
  agreed = λ w e. g.agreed w (f.agreed w e);
  long = g.long ∙ f.long;
  long' = g.long' ∙ f.long';
}

-- one side of a number, or between
sides : (i a e : ℕ) → ((i < a) ⊎ (e ≤ i)) ⊎ ((a ≤ i) × (i < e))
sides i a e = tested (ltb i a) refl (ltb i e) refl
  where
    tested : (b : Bool) → ltb i a ≡ b → (d : Bool) → ltb i e ≡ d → ((i < a) ⊎ (e ≤ i)) ⊎ ((a ≤ i) × (i < e))
    tested true p d q = inl (inl (ltb-true i a p))
    tested false p true q = inr (ltb-false i a p, ltb-true i e q)
    tested false p false q = inl (inr (ltb-false i e q))

-- ---- the same bytes stored in both

module _ (i : ℕ) where
  cond_agree : (t : Bool) (x y x' y' : List ℕ) → (t ≡ true → get_or x i 0 ≡ get_or x' i 0)
      → get_or y i 0 ≡ get_or y' i 0
      → get_or (cond t x y) i 0 ≡ get_or (cond t x' y') i 0
  cond_agree true x y x' y' f e = f refl
  cond_agree false x y x' y' f e = e

  -- a byte in the middle of a list is the middle's
  middle : (a : ℕ) (s d rest : List ℕ) → a ≤ length s → a ≤ i → i < a + length d
      → get_or (take a s ++ (d ++ rest)) i 0 ≡ get_or d (i - a) 0
  middle a s d rest h p q =
      let e : i ≡ length (take a s) + (i - a) = omega (arith, length-take a s) in
      ap (λ (j : ℕ). get_or (take a s ++ (d ++ rest)) j 0) e ∙ get_or-append-add (take a s) (d ++ rest) (i - a) 0
      ∙ get_or-append d rest 0 (i - a) (omega arith)

  module _ (block : Block) (bytes : List ℕ) (s t : List ℕ) (long : length s ≡ length t) where
    written_agree : first_byte block ≤ i → i < first_byte block + byte_count block → get_or s i 0 ≡ get_or t i 0
        → get_or (written block bytes s) i 0 ≡ get_or (written block bytes t) i 0
    unfolding written within
    written_agree p q e =
        let a = first_byte block in
        let n = byte_count block in
        rw long
        (cond_agree (leb (a + n) (length t) && eqb (length bytes) n) (take a s ++ (bytes ++ drop (a + n) s)) s
        (take a t ++ (bytes ++ drop (a + n) t)) t
        (λ h.
        let k = both (leb (a + n) (length t)) (eqb (length bytes) n) h in
        let room = leb-true (a + n) (length t) k.0 in
        let many = eqb-true (length bytes) n k.1 in
        middle a s bytes (drop (a + n) s) (omega arith) p (omega arith)
        ∙ sym (middle a t bytes (drop (a + n) t) (omega arith) p (omega arith)))
        e)

    byte_agree : (name : Area) → get_or s i 0 ≡ get_or t i 0
        → get_or (stored_in name block bytes s) i 0 ≡ get_or (stored_in name block bytes t) i 0
    unfolding stored_in
    byte_agree name e =
        ⊎_elim
        (λ o. stored_outside name block bytes s i o ∙ e ∙ sym (stored_outside name block bytes t i o))
        (λ o. cond_agree (same_area name block.area) (written block bytes s) s (written block bytes t) t
        (λ h. written_agree o.0 o.1 e) e)
        (sides i (first_byte block) (first_byte block + byte_count block))

module _ (name : Area) (block : Block) (bytes : List ℕ) where
  -- a word that is none of the block's is as it was
  word_outside : (s : List ℕ) (w : ℕ) → (w < block.first.0) ⊎ (block.first.0 + block.words ≤ w)
      → word_of (stored_in name block bytes s) w ≡ word_of s w
  word_outside s w o =
      let at : (i : ℕ) → w * 2 ≤ i → i ≤ w * 2 + 1 → get_or (stored_in name block bytes s) i 0 ≡ get_or s i 0 =
      λ i p q. stored_outside name block bytes s i (⊎_elim (λ (l : w < block.first.0). inl (omega arith))
      (λ (g : block.first.0 + block.words ≤ w). inr (omega arith)) o) in
      λ j. (at (w * 2) (omega arith) (omega arith) j, at (w * 2 + 1) (omega arith) (omega arith) j)

  module _ (s t : List ℕ) (long : length s ≡ length t)
      (same : (w : ℕ) → same_area name block.area ≡ true → block.first.0 ≤ w → w < block.first.0 + block.words
      → word_of s w ≡ word_of t w) where
    abbrev Stays : ℕ → Type 0
    Stays w = (word_of (stored_in name block bytes s) w ≡ word_of s w)
        × (word_of (stored_in name block bytes t) w ≡ word_of t w)

    stays : (w : ℕ) → (word_of s w ≡ word_of t w → ⊥) → (b : Bool) → same_area name block.area ≡ b → Stays w
    stays w h true e =
        ⊎_elim
        (λ o. (word_outside s w o, word_outside t w o))
        (λ o. absurd (h (same w e o.0 o.1)))
        (sides w block.first.0 (block.first.0 + block.words))
    stays w h false e = (
      ap (λ (l : List ℕ). word_of l w) (stored_elsewhere name block bytes s e),
      ap
          (λ (l : List ℕ). word_of l w) (stored_elsewhere name block bytes t e),
    )

    -- where the words of the block are the same before, the store is the same change
    pub stored_alike : SameChange s t (stored_in name block bytes s) (stored_in name block bytes t)
    stored_alike = record {
      differed = λ w h. stays w h (same_area name block.area) refl;
      agreed = λ w e. (λ j. (
        byte_agree (w * 2) block bytes s t long name (λ k. (e k).0) j,
        byte_agree (w * 2 + 1) block
            bytes s t long name (λ k. (e k).1) j,
      ));
      long = stored_length name block bytes s;
      long' = stored_length name block bytes t;
    }
