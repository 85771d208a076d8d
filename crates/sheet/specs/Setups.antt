-- What a sheet says; and what it says before its first record, where every entry is zero.
use Rattle.std.specs.Prelude.{ℕ, false, List, [], replicate}
use Rattle.memory.specs.declared.Area.TheVariants.{Identity}
use Rattle.memory.specs.Rights as rights
use Rattle.memory.specs.declared.Lock.{Lock}
use Rattle.sheet.specs.Limits.{profile_limit, lock_limit}
use Rattle.sheet.specs.KeyTable.{keys_in}
use Rattle.sheet.specs.declared.Features.{Features}
use Rattle.sheet.specs.declared.Sizes.{Sizes}
use Rattle.sheet.specs.declared.Key.{Key}
use Rattle.sheet.specs.declared.Slot.{Slot}
use Rattle.sheet.specs.declared.Locks.{Locks}
use Rattle.sheet.specs.declared.Terms.{Terms}
use Rattle.sheet.specs.declared.Marks.{Marks}
use Rattle.sheet.specs.declared.Gathered.{Gathered}

-- The terms on which a tag serves, and its keys. In the code the terms go by value, and the keys stay in the bytes that
-- hold them.
pub record Setup : Type 0 where
  pub features : Features
  pub sizes : Sizes
  pub keys : List Key
  pub profiles : List Slot
  pub locks : Locks

-- the setup of these terms, with this key table
abbrev pub setup_of : Terms → List ℕ → Setup
setup_of t table = record {
  features = t.features;
  sizes = t.sizes;
  keys = keys_in table;
  profiles = t.profiles;
  locks = t.locks;
}

abbrev pub terms_of : Setup → Terms
terms_of s = record { features = s.features; sizes = s.sizes; profiles = s.profiles; locks = s.locks }

unfoldable pub no_features : Features
no_features = record {
  blocksize1 = false;
  rev0 = false;
  rev1 = false;
  iam = false;
  iam3 = false;
  mam = false;
  mode0 = false;
  mode1 = false;
  mode2 = false;
  mode3 = false;
}

unfoldable pub no_slot : Slot
no_slot = record { present = false; profile = record { area = Identity; base = record { 0 = 0 }; words = 0 } }

unfoldable pub no_lock : Lock
no_lock = rights.no_lock

unfoldable pub empty_terms : Terms
empty_terms = record {
  features = no_features;
  sizes = record { identity = 0; user = 0 };
  profiles = replicate profile_limit no_slot;
  locks = record { count = 0; table = replicate lock_limit no_lock };
}

-- the empty terms, and no keys
unfoldable pub empty_setup : Setup
empty_setup = setup_of empty_terms []

-- What the next record is held against, before the first: no kind, no key and no profile yet, every KeyID and every
-- number may come, and a lock anywhere.
unfoldable pub no_marks : Marks
no_marks = record { last = 0; keys = 0; profiles = 0; id = 0; number = 0; area = 0; word = 0 }

unfoldable pub nothing_gathered : Gathered
nothing_gathered = record { marks = no_marks; terms = empty_terms }
