-- What is gathered when lists of keys, slots and locks have been read, and after one record more.
use mathlib.Core.Path.{◌≡◌}
use mathlib.Core.List.{List, [], ◌∷◌, ◌++◌}
use Prim.Native.Nat.{ℕ, ◌+◌, ◌-◌, ◌≤◌, ◌<◌}
use lib.ListN.{length, replicate}
use Rattle.memory.specs.declared.Lock.{Lock}
use Rattle.ground.specs.Bytes.{byte_at, word_at}
use Rattle.sheet.specs.Limits.{profile_limit, lock_limit}
use Rattle.sheet.specs.Setups.{no_slot, no_lock}
use Rattle.sheet.specs.Records.{slot_of, lock_of}
use Rattle.sheet.specs.Judgement.{with_profile, with_lock}
use Rattle.sheet.specs.declared.Features.{Features}
use Rattle.sheet.specs.declared.Sizes.{Sizes}
use Rattle.sheet.specs.declared.Slot.{Slot}
use Rattle.sheet.specs.declared.Terms.{Terms}
use Rattle.sheet.specs.declared.Marks.{Marks}
use Rattle.sheet.specs.declared.Gathered.{Gathered}
use Rattle.sheet_laws.proofs.Tables.{filled, longer, filled_more, filled_far}

abbrev pub marks_of : ℕ → ℕ → ℕ → ℕ → ℕ → ℕ → ℕ → Marks
marks_of last keys profiles id number area word = record {
  last = last;
  keys = keys;
  profiles = profiles;
  id = id;
  number = number;
  area = area;
  word = word;
}

abbrev pub terms_of_lem : Features → Sizes → List Slot → List Lock → Terms
terms_of_lem f z ss ls = record {
  features = f;
  sizes = z;
  profiles = filled no_slot profile_limit ss;
  locks = record { count = length ls; table = filled no_lock lock_limit ls };
}

abbrev pub state : Features → Sizes → Marks → List Slot → List Lock → Gathered
state f z m ss ls = record { marks = m; terms = terms_of_lem f z ss ls }

-- a profile at a number p above those before it: the numbers between are absent
abbrev pub up_to : List Slot → ℕ → Slot → List Slot
up_to ss p x = ss ++ (replicate (p - length ss) no_slot ++ x ∷ [])

-- the marks after a profile with this body, and after a lock
abbrev pub profile_marks : Marks → List ℕ → Marks
profile_marks m b = marks_of 4 m.keys (m.profiles + 1) m.id (byte_at b 0 + 1) m.area m.word

abbrev pub lock_marks : Marks → List ℕ → Marks
lock_marks m b = marks_of 5 m.keys m.profiles m.id m.number (byte_at b 0) (word_at b 1 + word_at b 3)

module _ (f : Features) (z : Sizes) (m : Marks) (ss : List Slot) (ls : List Lock) (b : List ℕ) where
  pub slot_gathered : length ss ≤ byte_at b 0 → byte_at b 0 < profile_limit
      → with_profile (state f z m ss ls) b ≡ state f z (profile_marks m b) (up_to ss (byte_at b 0) (slot_of b)) ls
  unfolding with_profile
  slot_gathered h l = rw (filled_far no_slot profile_limit ss (slot_of b) (byte_at b 0) h l)

  pub lock_gathered : length ls < lock_limit
      → with_lock (state f z m ss ls) b ≡ state f z (lock_marks m b) ss (ls ++ lock_of b ∷ [])
  unfolding with_lock
  lock_gathered h = rw (filled_more no_lock lock_limit ls (lock_of b) h, longer no_lock lock_limit ls (lock_of b))
