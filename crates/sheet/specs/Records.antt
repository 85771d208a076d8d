-- The scope paper, "The tag sheet": each kind's body b, its rule (33 where it fails) and what it says. Numbers go most
-- significant first.
use Rattle.std.specs.Prelude.{ℕ, ◌+◌, ◌^◌, Bool, true, List, take, drop, eqb, leb, ltb}
use Rattle.memory.specs.declared.Area.{Area}
use Rattle.memory.specs.declared.Area.TheVariants.{Identity, User}
use Rattle.memory.specs.declared.Lock.{Lock}
use Rattle.ground.specs.Choice.{pick, both, implies}
use Rattle.ground.specs.Bytes.{byte_at, word_at, bit, flag}
use Rattle.octets.specs.Alike.{all_zero}
use Rattle.sheet.specs.Limits.{profile_limit, word_limit}
use Rattle.sheet.specs.declared.Features.{Features}
use Rattle.sheet.specs.declared.Sizes.{Sizes}
use Rattle.sheet.specs.declared.Key.{Key}
use Rattle.sheet.specs.declared.Slot.{Slot}

-- feature i of a byte of features
abbrev pub feature : ℕ → ℕ → Bool
feature i f = flag (bit f i)

-- 01: features in bits 0 to 5, ProtModes in bits 0 to 3, other bits zero. IAM3 (bit 4) needs IAM1 and IAM2 (bit 3).
unfoldable pub features_rule : List ℕ → Bool
features_rule b =
    both (ltb (byte_at b 0) (2 ^ 6))
    (both (ltb (byte_at b 1) (2 ^ 4))
    (implies (feature 4 (byte_at b 0)) (feature 3 (byte_at b 0))))

unfoldable pub features_of : List ℕ → Features
features_of b = record {
  blocksize1 = feature 0 (byte_at b 0);
  rev0 = feature 1 (byte_at b 0);
  rev1 = feature 2 (byte_at b 0);
  iam = feature 3 (byte_at b 0);
  iam3 = feature 4 (byte_at b 0);
  mam = feature 5 (byte_at b 0);
  mode0 = feature 0 (byte_at b 1);
  mode1 = feature 1 (byte_at b 1);
  mode2 = feature 2 (byte_at b 1);
  mode3 = feature 3 (byte_at b 1);
}

-- 02: words of area 0, of area 1, each at most 1,024
unfoldable pub sizes_rule : List ℕ → Bool
sizes_rule b = both (leb (word_at b 0) word_limit) (leb (word_at b 2) word_limit)

unfoldable pub sizes_of : List ℕ → Sizes
sizes_of b = record { identity = word_at b 0; user = word_at b 2 }

-- area 0 is identity, area 1 user
unfoldable pub area_of : ℕ → Area
area_of a = pick (eqb a 1) User Identity

unfoldable pub words_in : Sizes → ℕ → ℕ
words_in z a = pick (eqb a 1) z.user z.identity

-- at least one word, inside its area
unfoldable pub inside : Sizes → ℕ → ℕ → ℕ → Bool
inside z a first count = both (leb a 1) (both (leb 1 count) (leb (first + count) (words_in z a)))

-- 03: KeyID, MAC present 0 or 1, MPI 2, ENC_key 16, MAC_key 16 (zeros if absent). KeyIDs rise: `id` is the least that
-- may come.
unfoldable pub key_rule : ℕ → List ℕ → Bool
key_rule id b =
    both (leb id (byte_at b 0))
    (both (leb (byte_at b 1) 1)
    (implies (eqb (byte_at b 1) 0) (all_zero (take 16 (drop 20 b)))))

unfoldable pub key_of : List ℕ → Key
key_of b = record {
  id = byte_at b 0;
  mac = flag (byte_at b 1);
  mpi = word_at b 2;
  enc = take 16 (drop 4 b);
  mackey = take 16 (drop 20 b);
}

-- 04: profile 0 to 15, area, base, words. Inside its area. Numbers rise: `number` is the least that may come.
unfoldable pub profile_rule : ℕ → Sizes → List ℕ → Bool
profile_rule number z b =
    both (leb number (byte_at b 0))
    (both (ltb (byte_at b 0) profile_limit)
    (inside z (byte_at b 1) (word_at b 2) (word_at b 4)))

unfoldable pub slot_of : List ℕ → Slot
slot_of b = record {
  present = true;
  profile = record { area = area_of (byte_at b 1); base = record { 0 = word_at b 2 }; words = word_at b 4 };
}

-- 05: area, first word, count. Inside its area; areas don't fall, and in an area each starts at or after the end of the
-- one before: `area` is the area of the lock before, and `word` its end (both 0 where there is none).
unfoldable pub lock_rule : ℕ → ℕ → Sizes → List ℕ → Bool
lock_rule area word z b =
    both (inside z (byte_at b 0) (word_at b 1) (word_at b 3))
    (both (leb area (byte_at b 0))
    (implies (eqb (byte_at b 0) area) (leb word (word_at b 1))))

unfoldable pub lock_of : List ℕ → Lock
lock_of b = record { area = area_of (byte_at b 0); first = record { 0 = word_at b 1 }; words = word_at b 3 }
