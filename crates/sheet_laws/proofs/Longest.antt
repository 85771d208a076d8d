-- The bound on a sheet's length is reached: by a sheet with as many records of each kind as there may be.
use mathlib.Core.Path.{◌≡◌, refl, ap, ◌∙◌}
use mathlib.Core.Bool.{true}
use mathlib.Core.Logic.{inr}
use mathlib.Core.List.{List, [], ◌∷◌}
use Prim.Native.Nat.{ℕ, zero, suc, ◌+◌, ◌*◌, ◌≤◌}
use native.Mathlib.Omega.{arith}
use native.Mathlib.Nat.{le_of_eq, le_refl}
use lib.ListN.{length, replicate, length-replicate}
use borrow.Author.Tests.{le-leb}
use Rattle.memory.specs.Address.{area_number}
use Rattle.memory.specs.declared.Area.TheVariants.{Identity}
use Rattle.memory.specs.declared.Lock.{Lock}
use Rattle.ground.specs.Bytes.{Bytes}
use Rattle.sheet.specs.Limits.{key_limit, profile_limit, lock_limit, word_limit, longest_sheet}
use Rattle.sheet.specs.Setups.{Setup, no_features}
use Rattle.sheet.specs.Records.{inside, words_in}
use Rattle.sheet.specs.Sheet.{Accepted}
use Rattle.sheet.specs.Writer.{profile_body, profiles_written, written}
use Rattle.sheet.specs.Within.{SlotsFine, LockFine, LocksRise, Within}
use Rattle.sheet.specs.declared.Sizes.{Sizes}
use Rattle.sheet.specs.declared.Slot.{Slot}
use Rattle.sheet_laws.proofs.RoundTrip.{written_reads}
use Rattle.sheet_laws.proofs.Lengths.{written_long, written_bytes, longest_is}
use Rattle.sheet_laws.proofs.Examples.{numbered, numbered_length, numbered_rise}

-- an area of a word for each lock
abbrev words : Sizes
words = record { identity = 16; user = 0 }

-- a profile of one word, which all profiles may have
abbrev one_word : Slot
one_word = record { present = true; profile = record { area = Identity; base = record { 0 = 0 }; words = 1 } }

-- m locks of one word each, from word w on
row : ℕ → ℕ → List Lock
row w zero = []
row w (suc m) = record { area = Identity; first = record { 0 = w }; words = 1 } ∷ row (w + 1) m

row_length : (w m : ℕ) → length (row w m) ≡ m
unfolding row
row_length w zero = refl
row_length w (suc m) = ap suc (row_length (w + 1) m)

row_rises : (w m : ℕ) → w + m ≤ 16 → LocksRise 0 w words (row w m)
unfolding row inside words_in area_number
row_rises w zero h = tt
row_rises w (suc m) h =
    let one : LockFine 0 w words (record { area = Identity; first = record { 0 = w }; words = 1 }) = record {
      within = le-leb (w + 1) 16 (omega arith);
      rises = le_refl 0;
      after = λ e. le_refl w;
    } in
    (one, row_rises (w + 1) m (omega arith))

present_fine : (n : ℕ) → SlotsFine words (replicate n one_word)
unfolding inside words_in area_number
present_fine zero = tt
present_fine (suc n) = (inr (refl, refl), present_fine n)

present_long : (n m : ℕ) → length (profiles_written n (replicate m one_word)) ≡ 7 * m
unfolding profiles_written profile_body
present_long n zero = refl
present_long n (suc m) = let e = present_long (n + 1) m in omega arith

-- as many keys, profiles and locks as there may be
pub fullest : ℕ → Setup
fullest limit = record {
  features = no_features;
  sizes = words;
  keys = numbered 0 limit;
  profiles = replicate profile_limit one_word;
  locks = record { count = lock_limit; table = row 0 lock_limit };
}

-- KeyIDs are bytes, and rise
module _ (limit : ℕ) (few : limit ≤ 256) where
  fullest_within : Within limit (fullest limit)
  unfolding fullest no_features word_limit lock_limit row
  fullest_within = record {
    iam3 = refl;
    identity = omega arith;
    user = omega arith;
    few = le_of_eq (numbered_length 0 limit);
    keys = numbered_rise 0 limit (omega arith);
    slots = length-replicate profile_limit one_word;
    profiles = present_fine profile_limit;
    lock_table = record { few = le_refl 16; all = row_length 0 16; unused = refl };
    locks = row_rises 0 16 (le_refl 16);
  }

  -- a sheet of the greatest length is accepted
  pub longest_reached : Bytes (written (fullest limit))
      × Accepted limit (written (fullest limit))
      × (length (written (fullest limit)) ≡ longest_sheet limit)
  unfolding fullest longest_sheet profile_limit lock_limit
  longest_reached = (
    written_bytes limit (fullest limit) fullest_within,
    (written_reads limit (fullest limit) fullest_within).0,
    omega (arith, written_long limit (fullest limit) fullest_within, numbered_length 0 limit, present_long 0 16),
  )

few_keys : key_limit ≤ 256
unfolding key_limit
few_keys = omega arith

-- with 16 key records it has 809 bytes
pub witness_809 : (s : List ℕ) × Bytes s × Accepted key_limit s × (length s ≡ 809)
witness_809 =
    let h = longest_reached key_limit few_keys in
    (written (fullest key_limit), h.0, h.1, h.2 ∙ longest_is)
