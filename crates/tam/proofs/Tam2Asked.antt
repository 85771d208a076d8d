-- What the fields of a TAM2 message, and the words that it asks for, come with.
use mathlib.Core.Path.{◌≡◌, sym, ap, ◌∙◌, subst}
use mathlib.Core.Bool.{Bool, true, false, cond}
use mathlib.Core.List.{List, [], ◌∷◌}
use Prim.Native.Nat.{ℕ, zero, suc, ◌/◌, ◌%◌, ◌≤◌}
use native.Mathlib.Omega.{arith}
use lib.Dec.{lit<}
use lib.ListN.{length, take, drop}
use Rattle.ground.specs.Bytes.{Bytes, byte_at}
use Rattle.memory.specs.declared.Area.{Area}
use Rattle.memory.specs.declared.Area.TheVariants.{Identity, User}
use Rattle.memory.specs.declared.Block.{Block}
use Rattle.memory.specs.Areas.{byte_count, first_byte, area_of, within, part_of, window_of}
use Rattle.modes.proofs.Whole.{bytes_take}
use Rattle.sheet.specs.declared.Slot.{Slot}
use Rattle.frames.specs.declared.Custom.{Custom}
use Rattle.frames.specs.Blocks.{data_length}
use Rattle.frames.specs.Fields.{size_of, custom_fits}
use Rattle.frames.specs.Messages.{tam1_of, tam2_of}
use Rattle.frames.proofs.Asked.{asked_bytes as words-bytes-asked}
use Rattle.offer.specs.Records.{slot_named, block_asked}
use Rattle.offer.proofs.Bytes.{Ten, drop_bytes, challenge_ten, select_custom_fits}

module _ (m : List ℕ) (h : Bytes m) where
  pub tam2_custom_fits : custom_fits (tam2_of m).custom ≡ true
  unfolding tam2_of
  tam2_custom_fits =
      select_custom_fits (size_of (byte_at m 0 / 16 % 2)) (byte_at m 12) (byte_at m 13) (byte_at m 14) (h 12) (h 13)
      (h 14)

  pub tam1_challenge : Ten (tam1_of m).ichallenge
  unfolding tam1_of
  tam1_challenge = challenge_ten m h

  pub tam2_challenge : Ten (tam2_of m).ichallenge
  unfolding tam2_of
  tam2_challenge = challenge_ten m h

-- the words of a block are at most its bytes, also where the block runs past its area
cond_most : (b : Bool) (s : List ℕ) (n : ℕ) → length s ≤ n → length (cond b s []) ≤ n
cond_most true s n h = h
cond_most false s n h = omega arith

take_most : (n : ℕ) (s : List ℕ) → length (take n s) ≤ n
take_most zero s = omega arith
take_most (suc n) [] = omega arith
take_most (suc n) (x ∷ s) = let z = take_most n s in omega arith

window_most : (identity user : List ℕ) (b : Block) → length (window_of identity user b) ≤ byte_count b
unfolding window_of part_of
window_most identity user b =
    let area = area_of b.area identity user in
    cond_most (within b area) (take (byte_count b) (drop (first_byte b) area)) (byte_count b)
    (take_most (byte_count b) (drop (first_byte b) area))

pub asked_bytes : (profiles : List Slot) (c : Custom)
    → byte_count (block_asked profiles c) ≡ data_length c.blocksize c.blockcount
unfolding block_asked
asked_bytes profiles c = sym (words-bytes-asked (slot_named profiles c.profile).profile c)

pub words_most : (profiles : List Slot) (c : Custom) (identity user : List ℕ)
    → length (window_of identity user (block_asked profiles c)) ≤ data_length c.blocksize c.blockcount
words_most profiles c identity user = omega (
  arith,
  window_most identity user (block_asked profiles c),
  asked_bytes
      profiles c,
)

cond_bytes : (b : Bool) (s : List ℕ) → Bytes s → Bytes (cond b s [])
cond_bytes true s h = h
cond_bytes false s h = λ i. lit< tt

area_bytes : (a : Area) (identity user : List ℕ) → Bytes identity → Bytes user → Bytes (area_of a identity user)
unfolding area_of
area_bytes Identity identity user h k = h
area_bytes User identity user h k = k

pub words_bytes : (b : Block) (identity user : List ℕ) → Bytes identity → Bytes user → Bytes (window_of identity user b)
unfolding window_of part_of
words_bytes b identity user h k =
    let area = area_of b.area identity user in
    cond_bytes (within b area) (take (byte_count b) (drop (first_byte b) area))
    (bytes_take (byte_count b) (drop (first_byte b) area)
    (drop_bytes (first_byte b) area (area_bytes b.area identity user h k)))

-- the same of the words that the code has
pub words_fit : (profiles : List Slot) (c : Custom) (identity user : List ℕ) {b : Block} {words : List ℕ}
    → b ≡ block_asked profiles c → words ≡ window_of identity user b
    → length words ≤ data_length c.blocksize c.blockcount
words_fit profiles c identity user e w = subst (λ (l : List ℕ). length l ≤ data_length c.blocksize c.blockcount)
    (sym (w ∙ ap (window_of identity user) e)) (words_most profiles c identity user)
