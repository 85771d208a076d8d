-- The sheet of a setup, as the scope paper lays records out: what a writer has to write.
use Rattle.std.specs.Prelude.{ℕ, ◌+◌, ◌*◌, Bool, List, [], ◌∷◌, ◌++◌, take}
use Rattle.memory.specs.Address.{area_number}
use Rattle.memory.specs.declared.Area.{Area}
use Rattle.memory.specs.declared.Lock.{Lock}
use Rattle.memory.specs.declared.Profile.{Profile}
use Rattle.ground.specs.Choice.{pick}
use Rattle.ground.specs.Bytes.{two_bytes, bit_of}
use Rattle.sheet.specs.Setups.{Setup}
use Rattle.sheet.specs.declared.Features.{Features}
use Rattle.sheet.specs.declared.Sizes.{Sizes}
use Rattle.sheet.specs.declared.Key.{Key}
use Rattle.sheet.specs.declared.Slot.{Slot}

-- a byte of bits, bit 0 first
abbrev pub byte_of : List Bool → ℕ
byte_of [] = 0
byte_of (b ∷ bs) = bit_of b + 2 * byte_of bs

abbrev pub area_byte : Area → ℕ
area_byte a = area_number a

-- the bodies of the records 01 to 05
unfoldable pub features_body : Features → List ℕ
features_body f =
    byte_of (f.blocksize1 ∷ f.rev0 ∷ f.rev1 ∷ f.iam ∷ f.iam3 ∷ f.mam ∷ [])
    ∷ byte_of (f.mode0 ∷ f.mode1 ∷ f.mode2 ∷ f.mode3 ∷ [])
    ∷ []

unfoldable pub sizes_body : Sizes → List ℕ
sizes_body z = two_bytes z.identity ++ two_bytes z.user

unfoldable pub key_body : Key → List ℕ
key_body k = k.id ∷ bit_of k.mac ∷ two_bytes k.mpi ++ (k.enc ++ k.mackey)

unfoldable pub profile_body : ℕ → Profile → List ℕ
profile_body n p = n ∷ area_byte p.area ∷ two_bytes p.base.0 ++ two_bytes p.words

unfoldable pub lock_body : Lock → List ℕ
lock_body l = area_byte l.area ∷ two_bytes l.first.0 ++ two_bytes l.words

unfoldable pub keys_written : List Key → List ℕ
keys_written [] = []
keys_written (k ∷ ks) = 3 ∷ key_body k ++ keys_written ks

-- the profiles from number n on; an absent one has no record
unfoldable pub profiles_written : ℕ → List Slot → List ℕ
profiles_written n [] = []
profiles_written n (s ∷ ss) =
    pick s.present (4 ∷ profile_body n s.profile) [] ++ profiles_written (n + 1) ss

unfoldable pub locks_written : List Lock → List ℕ
locks_written [] = []
locks_written (l ∷ ls) = 5 ∷ lock_body l ++ locks_written ls

unfoldable pub written : Setup → List ℕ
written s =
    1 ∷ features_body s.features
    ++ (2 ∷ sizes_body s.sizes
    ++ (keys_written s.keys
    ++ (profiles_written 0 s.profiles
    ++ (locks_written (take s.locks.count s.locks.table)
    ++ (6 ∷ [])))))
