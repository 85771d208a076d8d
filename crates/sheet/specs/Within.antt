-- A setup within the rules of the scope paper: what a sheet can say. `limit` is how many key records there may be.
use Rattle.std.specs.Prelude.{ℕ, ◌+◌, ◌-◌, ◌<◌, ◌≤◌, ◌≡◌, true, false, ◌⊎◌, List, [], ◌∷◌, length, take, drop}
use Rattle.std.specs.Prelude.{replicate}
use Rattle.memory.specs.declared.Lock.{Lock}
use Rattle.ground.specs.Choice.{implies}
use Rattle.ground.specs.Bytes.{Bytes}
use Rattle.sheet.specs.Limits.{profile_limit, lock_limit, word_limit}
use Rattle.sheet.specs.Setups.{Setup, no_slot, no_lock}
use Rattle.sheet.specs.Records.{inside}
use Rattle.sheet.specs.Writer.{area_byte}
use Rattle.sheet.specs.declared.Sizes.{Sizes}
use Rattle.sheet.specs.declared.Key.{Key}
use Rattle.sheet.specs.declared.Slot.{Slot}

-- sixteen bytes
pub record Key16 (k : List ℕ) : Type 0 where
  pub sixteen : length k ≡ 16
  pub bytes : Bytes k

-- A table of `limit` entries of which the first `count` are used. The others are empty, each `z`.
pub record Table {A : Type 0} (z : A) (limit count : ℕ) (t : List A) : Type 0 where
  pub few : count ≤ limit
  pub all : length t ≡ limit
  pub unused : drop count t ≡ replicate (limit - count) z

-- 03: MAC_key is zeros if absent
pub record KeyFine (k : Key) : Type 0 where
  pub id : k.id < 256
  pub mpi : k.mpi < 65536
  pub enc : Key16 k.enc
  pub mackey : Key16 k.mackey
  pub absent : k.mac ≡ false → k.mackey ≡ replicate 16 0

-- KeyIDs rise, from `id` on
abbrev pub KeysRise : ℕ → List Key → Type 0
KeysRise id [] = Unit {0}
KeysRise id (k ∷ ks) = (id ≤ k.id) × KeyFine k × KeysRise (k.id + 1) ks

-- 04: an absent profile is zero, and a present one lies inside its area
abbrev pub SlotFine : Sizes → Slot → Type 0
SlotFine z s =
    (s ≡ no_slot)
    ⊎ ((s.present ≡ true)
    × (inside z (area_byte s.profile.area) s.profile.base.0 s.profile.words ≡ true))

abbrev pub SlotsFine : Sizes → List Slot → Type 0
SlotsFine z [] = Unit {0}
SlotsFine z (s ∷ ss) = SlotFine z s × SlotsFine z ss

-- 05: inside its area; areas don't fall, and in an area each starts at or after the end of the one before
pub record LockFine (area word : ℕ) (z : Sizes) (l : Lock) : Type 0 where
  pub within : inside z (area_byte l.area) l.first.0 l.words ≡ true
  pub rises : area ≤ area_byte l.area
  pub after : area_byte l.area ≡ area → word ≤ l.first.0

abbrev pub LocksRise : ℕ → ℕ → Sizes → List Lock → Type 0
LocksRise area word z [] = Unit {0}
LocksRise area word z (l ∷ ls) =
    LockFine area word z l × LocksRise (area_byte l.area) (l.first.0 + l.words) z ls

pub record Within (limit : ℕ) (s : Setup) : Type 0 where
  pub iam3 : implies s.features.iam3 s.features.iam ≡ true
  pub identity : s.sizes.identity ≤ word_limit
  pub user : s.sizes.user ≤ word_limit
  pub few : length s.keys ≤ limit
  pub keys : KeysRise 0 s.keys
  pub slots : length s.profiles ≡ profile_limit
  pub profiles : SlotsFine s.sizes s.profiles
  pub lock_table : Table no_lock lock_limit s.locks.count s.locks.table
  pub locks : LocksRise 0 0 s.sizes (take s.locks.count s.locks.table)
