-- Each record's body as it is written: its length, that its rule holds, and that it reads back.
use mathlib.Core.Path.{◌≡◌, refl, sym}
use mathlib.Core.Bool.{Bool, true, false}
use mathlib.Core.List.{[], ◌∷◌}
use Prim.Native.Nat.{ℕ, ◌^◌, ◌≤◌, ◌<◌}
use native.Mathlib.Omega.{arith}
use native.Mathlib.Nat.{le_of_eq}
use lib.ListN.{length, take, drop, length-append}
use lib.Seq.{take_at, drop_at, take_all}
use lib.Dec.{eqb, leb}
use borrow.Author.Tests.{le-leb, lt-ltb, eqb-true}
use Rattle.memory.specs.Address.{area_number}
use Rattle.memory.specs.declared.Area.{Area}
use Rattle.memory.specs.declared.Area.TheVariants.{Identity, User}
use Rattle.memory.specs.declared.Lock.{Lock}
use Rattle.memory.specs.declared.Profile.{Profile}
use Rattle.ground.specs.Choice.{implies}
use Rattle.ground.specs.Bytes.{bit_of}
use Rattle.octets.specs.Alike.{all_zero}
use Rattle.octets.proofs.AllZero.{zeros_all}
use Rattle.sheet.specs.Limits.{profile_limit, word_limit}
use Rattle.sheet.specs.Records.{area_of, inside, features_rule, features_of, sizes_rule, sizes_of}
use Rattle.sheet.specs.Records.{key_rule, key_of, profile_rule, slot_of, lock_rule, lock_of}
use Rattle.sheet.specs.Writer.{byte_of, area_byte, features_body, sizes_body, key_body, profile_body, lock_body}
use Rattle.sheet.specs.Within.{KeyFine, LockFine}
use Rattle.sheet.proofs.Bits.{bit_small, bit_back, bit_at, byte_low, two_back}
use Rattle.sheet.specs.declared.Features.{Features}
use Rattle.sheet.specs.declared.Sizes.{Sizes}
use Rattle.sheet.specs.declared.Key.{Key}
use Rattle.sheet.specs.declared.Slot.{Slot}

-- 01
pub features_length : (f : Features) → length (features_body f) ≡ 2
unfolding features_body
features_length f = refl

pub features_back : (f : Features) → features_of (features_body f) ≡ f
unfolding features_of features_body
features_back f =
    let x = f.blocksize1 ∷ f.rev0 ∷ f.rev1 ∷ f.iam ∷ f.iam3 ∷ f.mam ∷ [] in
    let y = f.mode0 ∷ f.mode1 ∷ f.mode2 ∷ f.mode3 ∷ [] in
    λ i. record {
      blocksize1 = bit_at x 0 i;
      rev0 = bit_at x 1 i;
      rev1 = bit_at x 2 i;
      iam = bit_at x 3 i;
      iam3 = bit_at x 4 i;
      mam = bit_at x 5 i;
      mode0 = bit_at y 0 i;
      mode1 = bit_at y 1 i;
      mode2 = bit_at y 2 i;
      mode3 = bit_at y 3 i;
    }

pub features_fine : (f : Features) → implies f.iam3 f.iam ≡ true → features_rule (features_body f) ≡ true
unfolding features_rule features_body
features_fine f h =
    let x = f.blocksize1 ∷ f.rev0 ∷ f.rev1 ∷ f.iam ∷ f.iam3 ∷ f.mam ∷ [] in
    let y = f.mode0 ∷ f.mode1 ∷ f.mode2 ∷ f.mode3 ∷ [] in
    rw (lt-ltb (byte_of x) (2 ^ 6) (byte_low x), lt-ltb (byte_of y) (2 ^ 4) (byte_low y), bit_at x 4, bit_at x 3) h

-- 02
pub sizes_length : (z : Sizes) → length (sizes_body z) ≡ 4
unfolding sizes_body
sizes_length z = refl

pub sizes_back : (z : Sizes) → sizes_of (sizes_body z) ≡ z
unfolding sizes_of sizes_body
sizes_back z = λ i. record { identity = two_back z.identity i; user = two_back z.user i }

pub sizes_fine : (z : Sizes) → z.identity ≤ word_limit → z.user ≤ word_limit → sizes_rule (sizes_body z) ≡ true
unfolding sizes_rule sizes_body
sizes_fine z a b =
    rw (two_back z.identity, two_back z.user, le-leb z.identity word_limit a, le-leb z.user word_limit b)

-- areas
pub area_back : (a : Area) → area_of (area_byte a) ≡ a
unfolding area_of area_number
area_back Identity = refl
area_back User = refl

-- 03
module _ (k : Key) (h : KeyFine k) where
  enc16 : length k.enc ≡ 16
  enc16 = h.enc.sixteen

  mac16 : length k.mackey ≡ 16
  mac16 = h.mackey.sixteen

  pub key_length : length (key_body k) ≡ 36
  unfolding key_body
  key_length = rw (length-append k.enc k.mackey) (omega (arith, enc16, mac16))

  enc_part : take 16 (drop 4 (key_body k)) ≡ k.enc
  unfolding key_body
  enc_part = take_at k.enc k.mackey 16 enc16

  mac_part : take 16 (drop 20 (key_body k)) ≡ k.mackey
  unfolding key_body
  mac_part = rw (drop_at k.enc k.mackey 16 enc16) (take_all 16 k.mackey (le_of_eq mac16))

  pub key_back : key_of (key_body k) ≡ k
  unfolding key_of key_body
  key_back = λ i. record {
    id = k.id;
    mac = bit_back k.mac i;
    mpi = two_back k.mpi i;
    enc = enc_part i;
    mackey = mac_part i;
  }

  mac_zero : (m : Bool) → k.mac ≡ m → implies (eqb (bit_of m) 0) (all_zero k.mackey) ≡ true
  mac_zero true e = refl
  mac_zero false e = rw (h.absent e) (zeros_all 16)

  pub key_fine : (id : ℕ) → id ≤ k.id → key_rule id (key_body k) ≡ true
  unfolding key_rule key_body
  key_fine id l =
      rw (le-leb id k.id l, le-leb (bit_of k.mac) 1 (bit_small k.mac), mac_part) (mac_zero k.mac refl)

-- 04
pub profile_length : (n : ℕ) (p : Profile) → length (profile_body n p) ≡ 6
unfolding profile_body
profile_length n p = refl

pub profile_back : (n : ℕ) (s : Slot) → s.present ≡ true → slot_of (profile_body n s.profile) ≡ s
unfolding slot_of profile_body
profile_back n s e = λ i. record {
  present = sym e i;
  profile = record {
    area = area_back s.profile.area i;
    base = record { 0 = two_back s.profile.base.0 i };
    words = two_back s.profile.words i;
  };
}

pub profile_fine : (number n : ℕ) (z : Sizes) (p : Profile) → number ≤ n → n < profile_limit
    → inside z (area_byte p.area) p.base.0 p.words ≡ true → profile_rule number z (profile_body n p) ≡ true
unfolding profile_rule profile_body
profile_fine number n z p l h e =
    rw (le-leb number n l, lt-ltb n profile_limit h, two_back p.base.0, two_back p.words) e

-- 05
pub lock_length : (l : Lock) → length (lock_body l) ≡ 5
unfolding lock_body
lock_length l = refl

pub lock_back : (l : Lock) → lock_of (lock_body l) ≡ l
unfolding lock_of lock_body
lock_back l = λ i. record {
  area = area_back l.area i;
  first = record { 0 = two_back l.first.0 i };
  words = two_back l.words i;
}

starts : (a area word first : ℕ) (t : Bool) → eqb a area ≡ t → (a ≡ area → word ≤ first)
    → implies t (leb word first) ≡ true
starts a area word first true e h = le-leb word first (h (eqb-true a area e))
starts a area word first false e h = refl

pub lock_fine : (area word : ℕ) (z : Sizes) (l : Lock) → LockFine area word z l
    → lock_rule area word z (lock_body l) ≡ true
unfolding lock_rule lock_body
lock_fine area word z l h =
    rw (two_back l.first.0, two_back l.words, h.within, le-leb area (area_byte l.area) h.rises)
    (starts (area_byte l.area) area word l.first.0 (eqb (area_byte l.area) area) refl h.after)
