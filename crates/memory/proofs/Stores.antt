-- What a store leaves in an area: the block's bytes are the ones stored, every other is as it was, and none is added or
-- lost.
use mathlib.Core.Path.{◌≡◌, refl, ap, ◌∙◌}
use mathlib.Core.Logic.{◌⊎◌, ⊎_elim}
use mathlib.Core.Bool.{true, false}
use mathlib.Core.List.{List, ◌++◌}
use Prim.Native.Nat.{ℕ, ◌+◌, ◌-◌, ◌≤◌, ◌<◌}
use native.Mathlib.Omega.{arith}
use native.Mathlib.Nat.{add-sub_cancel_left}
use lib.Dec.{leb}
use lib.ListN.{length, take, drop, get_or, length-append, length-take, length-drop, get_or-append}
use lib.Seq.{drop-drop, length-take-le, get_or-append-add, get_or-take, get_or-drop, take_at, drop_at}
use borrow.Author.Tests.{leb-true, eqb-true, le-leb, eq-eqb}
use Rattle.memory.specs.declared.Area.{Area}
use Rattle.memory.specs.declared.Area.TheVariants.{Identity, User}
use Rattle.memory.specs.declared.Block.{Block}
use Rattle.memory.specs.Address.{area_number, same_area}
use Rattle.memory.specs.Areas.{first_byte, byte_count, area_of, within, part_of, window_of, written, stored_in}
use Rattle.memory.proofs.Truth.{picked, both}

-- the bytes are put in where the block lies in the area and they are as many as it has
module _ (block : Block) (bytes area : List ℕ) where
  -- the part that was lent came back as `l`, which is `bytes`
  pub put_in : first_byte block + byte_count block ≤ length area → length bytes ≡ byte_count block → (l : List ℕ)
      → l ≡ bytes
      → take (first_byte block) area ++ (l ++ drop (first_byte block + byte_count block - first_byte block)
      (drop (first_byte block) area))
      ≡ written block bytes area
  unfolding written within
  put_in h n l e = simp (le-leb _ _ h, eq-eqb _ _ n, e, add-sub_cancel_left, drop-drop)

  pub put_out : leb (first_byte block + byte_count block) (length area) ≡ false → area ≡ written block bytes area
  unfolding written within
  put_out h = simp h

-- a list whose middle is `d`
module _ (s d : List ℕ) (a : ℕ) where
  abbrev spliced : List ℕ
  spliced = take a s ++ (d ++ drop (a + length d) s)

  spliced_length : a + length d ≤ length s → length spliced ≡ length s
  spliced_length h = simp (length-append, length-take, length-drop) (omega arith)

  spliced_before : (i : ℕ) → a ≤ length s → i < a → get_or spliced i 0 ≡ get_or s i 0
  spliced_before i h l =
      get_or-append (take a s) _ 0 i (omega (arith, length-take a s)) ∙ get_or-take a s i 0 l

  spliced_after : (i : ℕ) → a ≤ length s → a + length d ≤ i → get_or spliced i 0 ≡ get_or s i 0
  spliced_after i h l =
      let k = i - (a + length d) in
      let e : i ≡ length (take a s) + (length d + k) = omega (arith, length-take a s) in
      let f : a + length d + k ≡ i = omega arith in
      ap (λ (j : ℕ). get_or spliced j 0) e ∙ get_or-append-add (take a s) _ (length d + k) 0 ∙ get_or-append-add d _ k 0
      ∙ get_or-drop (a + length d) s k 0 ∙ ap (λ (j : ℕ). get_or s j 0) f

  spliced_middle : a ≤ length s → take (length d) (drop a spliced) ≡ d
  spliced_middle h = rw (drop_at (take a s) _ a (length-take-le a s h), take_at d _ (length d) refl)

-- what holds of the area as it was, and of it with the bytes in their place, holds after a store
either_way : (P : List ℕ → Type 0) (block : Block) (bytes area : List ℕ) → P area
    → (first_byte block + length bytes ≤ length area → length bytes ≡ byte_count block
    → P (spliced area bytes (first_byte block)))
    → P (written block bytes area)
unfolding written within
either_way P block bytes area old new =
    picked P _ _ area
    (λ t.
    let k = both (leb (first_byte block + byte_count block) (length area)) _ t in
    let room = leb-true (first_byte block + byte_count block) (length area) k.0 in
    let n = eqb-true (length bytes) (byte_count block) k.1 in
    rw n at (new (omega arith) n))
    (λ t. old)

module _ (block : Block) (bytes area : List ℕ) where
  written_length : length (written block bytes area) ≡ length area
  written_length =
      either_way (λ (l : List ℕ). length l ≡ length area) block bytes area refl
      (λ h n. spliced_length area bytes (first_byte block) h)

  written_outside : (i : ℕ) → (i < first_byte block) ⊎ (first_byte block + byte_count block ≤ i)
      → get_or (written block bytes area) i 0 ≡ get_or area i 0
  written_outside i o =
      either_way (λ (l : List ℕ). get_or l i 0 ≡ get_or area i 0) block bytes area refl
      (λ h n. ⊎_elim
      (λ (l : i < first_byte block). spliced_before area bytes (first_byte block) i (omega arith) l)
      (λ (g : first_byte block + byte_count block ≤ i). spliced_after area bytes (first_byte block) i (omega arith)
      (omega arith))
      o)

  part_written : within block area ≡ true → length bytes ≡ byte_count block
      → part_of block (written block bytes area) ≡ bytes
  unfolding part_of within written
  part_written h n =
      let room = leb-true (first_byte block + byte_count block) (length area) h in
      let still : within block (written block bytes area) ≡ true = simp written_length h in
      rw still (simp (h, eq-eqb _ _ n) (rw n at (spliced_middle area bytes (first_byte block) (omega arith))))

-- the laws of a store into an area of either name
module _ (name : Area) (block : Block) (bytes area : List ℕ) where
  -- the area in which the block does not lie is as it was
  pub stored_elsewhere : same_area name block.area ≡ false → stored_in name block bytes area ≡ area
  unfolding stored_in
  stored_elsewhere h = simp h

  -- no byte is added or lost
  pub stored_length : length (stored_in name block bytes area) ≡ length area
  unfolding stored_in
  stored_length =
      picked (λ (l : List ℕ). length l ≡ length area) (same_area name block.area) (written block bytes area) area
      (λ t. written_length block bytes area) (λ t. refl)

  -- every byte outside the block is as it was
  pub stored_outside : (i : ℕ) → (i < first_byte block) ⊎ (first_byte block + byte_count block ≤ i)
      → get_or (stored_in name block bytes area) i 0 ≡ get_or area i 0
  unfolding stored_in
  stored_outside i o =
      picked (λ (l : List ℕ). get_or l i 0 ≡ get_or area i 0) (same_area name block.area) (written block bytes area)
      area
      (λ t. written_outside block bytes area i o) (λ t. refl)

-- of the two areas, the block's own is the one that is written
own_area : (block : Block) (bytes identity user : List ℕ) (a : Area) → block.area ≡ a
    → area_of a (stored_in Identity block bytes identity) (stored_in User block bytes user) ≡ written block bytes
    (area_of a identity user)
unfolding stored_in same_area area_number area_of
own_area block bytes identity user Identity e = simp e
own_area block bytes identity user User e = simp e

-- the window after a store is what was stored
pub window_stored : (block : Block) (bytes identity user : List ℕ)
    → within block (area_of block.area identity user) ≡ true → length bytes ≡ byte_count block
    → window_of (stored_in Identity block bytes identity) (stored_in User block bytes user) block ≡ bytes
unfolding window_of
window_stored block bytes identity user h n =
    rw (own_area block bytes identity user block.area refl)
    (part_written block bytes (area_of block.area identity user) h n)
