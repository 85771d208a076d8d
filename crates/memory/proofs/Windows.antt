-- Laws of the window, for whoever builds on it: where its words lie, how long it is, and what it depends on.
use mathlib.Core.Path.{◌≡◌, refl, sym}
use mathlib.Core.Logic.{⊎_elim}
use mathlib.Core.Bool.{true, false}
use mathlib.Core.List.{List, []}
use Prim.Native.Nat.{ℕ, ◌+◌, ◌-◌, ◌*◌, ◌≤◌, ◌<◌}
use native.Mathlib.Omega.{arith}
use native.Mathlib.Nat.{eq-or-lt_of_le}
use lib.ListN.{length, take, drop, get_or, length-take, length-drop}
use lib.Seq.{ext_get_or, get_or-take, get_or-drop}
use lib.Dec.{leb}
use borrow.Author.Tests.{leb-true, leb-false, le-leb, lt-ltb}
use Rattle.memory.specs.declared.BlockSize.{BlockSize}
use Rattle.memory.specs.declared.Offset.{Offset}
use Rattle.memory.specs.declared.Profile.{Profile}
use Rattle.memory.specs.declared.Block.{Block}
use Rattle.memory.specs.Address.{address_of, last_word, profile_end, overruns}
use Rattle.memory.specs.Areas.{word_bytes, first_byte, byte_count, area_of, within, part_of, window_of}
use Rattle.memory.proofs.Truth.{picked}

-- a block with words that does not overrun its profile ends inside it
pub ends_inside : (profile : Profile) (block : Block) → 0 < block.words → overruns profile block ≡ false
    → block.first.0 + block.words ≤ profile_end profile
unfolding overruns last_word profile_end
ends_inside profile block w h =
    let n = leb-false (profile.base.0 + profile.words) (block.first.0 + block.words - 1)
    (simp (lt-ltb _ _ w) at h) in
    omega arith

-- each word of an addressed block that fits lies in the profile
pub word_inside : (profile : Profile) (size : BlockSize) (offset : Offset) (count w : ℕ)
    → overruns profile (address_of profile size offset count) ≡ false
    → (address_of profile size offset count).first.0 ≤ w
    → w < (address_of profile size offset count).first.0 + (address_of profile size offset count).words
    → (profile.base.0 ≤ w) × (w < profile_end profile)
unfolding address_of
word_inside profile size offset count w h p q =
    let n = ends_inside profile (address_of profile size offset count) (omega arith) h in
    (omega arith, omega arith)

-- a profile that lies in its area takes with it every block with words that fits the profile
pub within_area : (profile : Profile) (block : Block) (area : List ℕ) → profile_end profile * word_bytes ≤ length area
    → overruns profile block ≡ false → 0 < block.words → within block area ≡ true
unfolding within
within_area profile block area p h w =
    let n = ends_inside profile block w h in
    let room : first_byte block + byte_count block ≤ length area = omega arith in
    le-leb _ _ room

module _ (block : Block) where
  pub part_length : (area : List ℕ) → within block area ≡ true → length (part_of block area) ≡ byte_count block
  unfolding part_of within
  part_length area h =
      let room = leb-true (first_byte block + byte_count block) (length area) h in
      simp (h, length-take, length-drop) (omega arith)

  -- a block that lies in its area is two bytes a word
  pub window_length : (identity user : List ℕ) → within block (area_of block.area identity user) ≡ true
      → length (window_of identity user block) ≡ byte_count block
  unfolding window_of
  window_length identity user h = part_length (area_of block.area identity user) h

  -- the part of no words is empty
  pub empty_part : (area : List ℕ) → block.words ≡ 0 → part_of block area ≡ []
  unfolding part_of
  empty_part area z =
      let e : byte_count block ≡ 0 = omega arith in
      picked (λ (l : List ℕ). l ≡ []) (within block area) (take (byte_count block) (drop (first_byte block) area)) []
      (λ t. rw e) (λ t. refl)

  -- so is a block that fits a profile in its area, also one of no words
  pub fitting_length : (profile : Profile) (area : List ℕ) → profile_end profile * word_bytes ≤ length area
      → overruns profile block ≡ false
      → length (part_of block area) ≡ byte_count block
  fitting_length profile area p h =
      ⊎_elim
      (λ (z : 0 ≡ block.words). let e : byte_count block ≡ 0 = omega arith in rw (e, empty_part area (sym z)))
      (λ (w : 0 < block.words). part_length area (within_area profile block area p h w))
      (eq-or-lt_of_le (omega arith))

  -- two areas of one length that agree on the block's bytes have the same part
  pub part_agree : (s t : List ℕ) → length s ≡ length t
      → ((i : ℕ) → first_byte block ≤ i → i < first_byte block + byte_count block → get_or s i 0 ≡ get_or t i 0)
      → part_of block s ≡ part_of block t
  unfolding part_of within
  part_agree s t e f =
      let a = first_byte block in
      let n = byte_count block in
      rw e (picked (λ (l : List ℕ). l ≡ part_of block t) (leb (a + n) (length t)) (take n (drop a s)) []
      (λ h.
      let room = leb-true (a + n) (length t) h in
      simp h
      (ext_get_or 0 (take n (drop a s)) (take n (drop a t))
      (simp (length-take, length-drop) (omega arith))
      (λ i q.
      let lt : i < n = omega (arith, simp (length-take, length-drop) at q) in
      simp (get_or-take n (drop a s) i 0 lt, get_or-take n (drop a t) i 0 lt, get_or-drop)
      (f (a + i) (omega arith) (omega arith)))))
      (λ h. simp h))

  -- and the same window
  pub window_agree : (identity user identity' user' : List ℕ)
      → length (area_of block.area identity user) ≡ length (area_of block.area identity' user')
      → ((i : ℕ) → first_byte block ≤ i → i < first_byte block + byte_count block
      → get_or (area_of block.area identity user) i 0 ≡ get_or (area_of block.area identity' user') i 0)
      → window_of identity user block ≡ window_of identity' user' block
  unfolding window_of
  window_agree identity user identity' user' e f = part_agree _ _ e f
