-- What is written of a setup within the rules: bytes, and no more than the longest sheet has.
use mathlib.Core.Path.{◌≡◌, refl}
use mathlib.Core.Bool.{Bool, true, false}
use mathlib.Core.Logic.{inl, inr}
use mathlib.Core.List.{List, [], ◌∷◌, ◌++◌}
use Prim.Native.Nat.{ℕ, ◌+◌, ◌*◌, ◌≤◌, ◌<◌}
use native.Mathlib.Omega.{arith}
use lib.ListN.{length, take, length-append}
use native.Mathlib.Nat.{lt_of_lt_of_le}
use lib.Dec.{leb, eqb}
use borrow.Author.Tests.{leb-true}
use Rattle.memory.specs.Address.{area_number}
use Rattle.memory.specs.declared.Area.{Area}
use Rattle.memory.specs.declared.Area.TheVariants.{Identity, User}
use Rattle.memory.specs.declared.Lock.{Lock}
use Rattle.memory.specs.declared.Profile.{Profile}
use Rattle.ground.specs.Choice.{pick, both}
use Rattle.ground.specs.Bytes.{Bytes, two_bytes, bit_of}
use Rattle.ground.proofs.Bytes.{bytes_none, bytes_cons, bytes_join, two_bytes_lem}
use Rattle.ground.proofs.Choice.{both_true}
use Rattle.sheet.specs.Limits.{key_limit, profile_limit, lock_limit, word_limit, longest_sheet}
use Rattle.sheet.specs.Kinds.{keys_at}
use Rattle.sheet.specs.KeyTable.{key_record}
use Rattle.sheet.specs.Setups.{Setup, no_slot, no_lock}
use Rattle.sheet.specs.Records.{inside, words_in}
use Rattle.sheet.specs.Sheet.{Accepted}
use Rattle.sheet.specs.Writer.{byte_of, area_byte, features_body, sizes_body, key_body, profile_body, lock_body}
use Rattle.sheet.specs.Writer.{keys_written, profiles_written, locks_written, written}
use Rattle.sheet.specs.Within.{KeysRise, SlotFine, SlotsFine, LocksRise, Within}
use Rattle.sheet.specs.declared.Features.{Features}
use Rattle.sheet.specs.declared.Sizes.{Sizes}
use Rattle.sheet.specs.declared.Key.{Key}
use Rattle.sheet.specs.declared.Slot.{Slot}
use Rattle.sheet.proofs.Bits.{bit_small, byte_low}
use Rattle.sheet.proofs.Back.{features_length, sizes_length, profile_length, lock_length}
use Rattle.sheet.proofs.KeyTables.{keys_length}
use Rattle.sheet_laws.proofs.Tables.{used_length}
use Rattle.sheet_laws.proofs.Sheets.{accepted}

-- lengths
slot_length : (t : Bool) (n : ℕ) (p : Profile) → length (pick t (4 ∷ profile_body n p) []) ≤ 7
slot_length true n p = omega (arith, profile_length n p)
slot_length false n p = omega arith

slots_length : (n : ℕ) (ss : List Slot) → length (profiles_written n ss) ≤ 7 * length ss
unfolding profiles_written
slots_length n [] = omega arith
slots_length n (s ∷ ss) =
    rw (length-append (pick s.present (4 ∷ profile_body n s.profile) []) (profiles_written (n + 1) ss))
    (omega (arith, slot_length s.present n s.profile, slots_length (n + 1) ss))

locks_length : (ls : List Lock) → length (locks_written ls) ≡ 6 * length ls
unfolding locks_written
locks_length [] = refl
locks_length (l ∷ ls) =
    rw (length-append (lock_body l) (locks_written ls), lock_length l, locks_length ls) (omega arith)

joined_length : (a b k p l : List ℕ)
    → length (a ++ (2 ∷ b ++ (k ++ (p ++ (l ++ 6 ∷ [])))))
    ≡ length a + length b + length k + length p + length l + 2
joined_length a b k p l = simp length-append (omega arith)

-- the length of what is written, of which only that of the profiles is open: an absent one has no record
pub written_long : (limit : ℕ) (s : Setup) → Within limit s
    → length (written s)
    ≡ keys_at + key_record * length s.keys + length (profiles_written 0 s.profiles) + 6 * s.locks.count + 1
unfolding written
written_long limit s w =
    let ks = s.keys in
    let ls = take s.locks.count s.locks.table in
    omega (
      arith,
      joined_length (features_body s.features) (sizes_body s.sizes) (keys_written ks)
          (profiles_written 0 s.profiles) (locks_written ls),
      features_length s.features,
      sizes_length s.sizes,
      keys_length 0 ks w.keys,
      locks_length ls,
      used_length no_lock lock_limit s.locks.count s.locks.table w.lock_table,
    )

pub written_length : (limit : ℕ) (s : Setup) → Within limit s → length (written s) ≤ longest_sheet limit
unfolding longest_sheet
written_length limit s w =
    omega (arith, written_long limit s w, w.few, slots_length 0 s.profiles, w.slots, w.lock_table.few)

-- no accepted sheet is longer
pub longest : (limit : ℕ) (s : List ℕ) → Bytes s → Accepted limit s → length s ≤ longest_sheet limit
longest limit s y e =
    let h = accepted limit s y e in
    rw h.1 at (written_length limit _ h.0)

-- 809 bytes with 16 key records; with 256 they would be 9,689
pub longest_is : longest_sheet key_limit ≡ 809
unfolding longest_sheet key_limit profile_limit lock_limit
longest_is = refl

pub longest_256 : longest_sheet 256 ≡ 9689
unfolding longest_sheet profile_limit lock_limit
longest_256 = refl

-- bytes
area_low : (a : Area) → area_byte a < 256
unfolding area_number
area_low Identity = omega arith
area_low User = omega arith

words_low : (z : Sizes) (t : Bool) → z.identity ≤ word_limit → z.user ≤ word_limit
    → pick t z.user z.identity ≤ word_limit
words_low z true i u = u
words_low z false i u = i

-- what lies inside an area has numbers of two bytes
inside_low : (z : Sizes) (a first count : ℕ) → z.identity ≤ word_limit → z.user ≤ word_limit
    → inside z a first count ≡ true → (first < 65536) × (count < 65536)
unfolding inside words_in word_limit
inside_low z a first count i u e =
    let some = leb 1 count in
    let ends = leb (first + count) (words_in z a) in
    let h = (both_true some ends (both_true (leb a 1) (both some ends) e).1).1 in
    let l = leb-true (first + count) (words_in z a) h in
    let m = words_low z (eqb a 1) i u in
    (omega arith, omega arith)

features_bytes : (f : Features) → Bytes (features_body f)
unfolding features_body
features_bytes f =
    let x = f.blocksize1 ∷ f.rev0 ∷ f.rev1 ∷ f.iam ∷ f.iam3 ∷ f.mam ∷ [] in
    let y = f.mode0 ∷ f.mode1 ∷ f.mode2 ∷ f.mode3 ∷ [] in
    bytes_cons (byte_of x) (byte_of y ∷ []) (lt_of_lt_of_le (byte_low x) (omega arith))
    (bytes_cons (byte_of y) [] (lt_of_lt_of_le (byte_low y) (omega arith)) bytes_none)

key_bytes : (id : ℕ) (k : Key) (ks : List Key) → KeysRise id (k ∷ ks) → Bytes (key_body k)
unfolding key_body
key_bytes id k ks w =
    let f = w.1 in
    let mac : bit_of k.mac < 256 = omega (arith, bit_small k.mac) in
    let r = k.enc ++ k.mackey in
    bytes_cons k.id (bit_of k.mac ∷ two_bytes k.mpi ++ r) f.id
    (bytes_cons (bit_of k.mac) (two_bytes k.mpi ++ r) mac
    (bytes_join (two_bytes k.mpi) r (two_bytes_lem k.mpi f.mpi)
    (bytes_join k.enc k.mackey f.enc.bytes f.mackey.bytes)))

-- a kind byte in front
kind_byte : (q : ℕ) (s : List ℕ) → q ≤ 6 → Bytes s → Bytes (q ∷ s)
kind_byte q s h y = bytes_cons q s (omega arith) y

pub keys_bytes : (id : ℕ) (ks : List Key) → KeysRise id ks → Bytes (keys_written ks)
unfolding keys_written
keys_bytes id [] w = bytes_none
keys_bytes id (k ∷ ks) w =
    kind_byte 3 (key_body k ++ keys_written ks) (omega arith)
    (bytes_join (key_body k) (keys_written ks) (key_bytes id k ks w) (keys_bytes (k.id + 1) ks w.2))

-- the sizes of the two areas are gathered within their limit
module _ (z : Sizes) (i : z.identity ≤ word_limit) (u : z.user ≤ word_limit) where
  sizes_bytes : Bytes (sizes_body z)
  unfolding sizes_body word_limit
  sizes_bytes =
      bytes_join (two_bytes z.identity) (two_bytes z.user) (two_bytes_lem z.identity (omega arith))
      (two_bytes_lem z.user (omega arith))

  -- an area, its first word and a count of words
  part_bytes : (a : Area) (first count : ℕ) → inside z (area_byte a) first count ≡ true
      → Bytes (area_byte a ∷ two_bytes first ++ two_bytes count)
  part_bytes a first count e =
      let l = inside_low z (area_byte a) first count i u e in
      bytes_cons (area_byte a) (two_bytes first ++ two_bytes count) (area_low a)
      (bytes_join (two_bytes first) (two_bytes count) (two_bytes_lem first l.0) (two_bytes_lem count l.1))

  slot_bytes : (n : ℕ) (s : Slot) → n < profile_limit → SlotFine z s
      → Bytes (pick s.present (4 ∷ profile_body n s.profile) [])
  unfolding profile_body profile_limit no_slot
  slot_bytes n s h (inl e) = rw e bytes_none
  slot_bytes n s h (inr w) =
      let p = s.profile in
      let part = part_bytes p.area p.base.0 p.words w.1 in
      let t = area_byte p.area ∷ two_bytes p.base.0 ++ two_bytes p.words in
      let y = kind_byte 4 (profile_body n p) (omega arith) (bytes_cons n t (omega arith) part) in
      rw w.0 y

  slots_bytes : (n : ℕ) (ss : List Slot) → n + length ss ≤ profile_limit → SlotsFine z ss
      → Bytes (profiles_written n ss)
  unfolding profiles_written
  slots_bytes n [] h w = bytes_none
  slots_bytes n (s ∷ ss) h w =
      bytes_join (pick s.present (4 ∷ profile_body n s.profile) []) (profiles_written (n + 1) ss)
      (slot_bytes n s (omega arith) w.0) (slots_bytes (n + 1) ss (omega arith) w.1)

  locks_bytes : (area word : ℕ) (ls : List Lock) → LocksRise area word z ls → Bytes (locks_written ls)
  unfolding locks_written lock_body
  locks_bytes area word [] w = bytes_none
  locks_bytes area word (k ∷ ls) w =
      let part = part_bytes k.area k.first.0 k.words w.0.within in
      kind_byte 5 (lock_body k ++ locks_written ls) (omega arith)
      (bytes_join (lock_body k) (locks_written ls) part
      (locks_bytes (area_byte k.area) (k.first.0 + k.words) ls w.1))

pub written_bytes : (limit : ℕ) (s : Setup) → Within limit s → Bytes (written s)
unfolding written
written_bytes limit s w =
    let f = features_body s.features in
    let z = sizes_body s.sizes in
    let ks = keys_written s.keys in
    let ps = profiles_written 0 s.profiles in
    let in_use = take s.locks.count s.locks.table in
    let ls = locks_written in_use in
    let e : List ℕ = 6 ∷ [] in
    let fit : 0 + length s.profiles ≤ profile_limit = omega (arith, w.slots) in
    let slots = slots_bytes s.sizes w.identity w.user 0 s.profiles fit w.profiles in
    let locks = locks_bytes s.sizes w.identity w.user 0 0 in_use w.locks in
    kind_byte 1 (f ++ (2 ∷ z ++ (ks ++ (ps ++ (ls ++ e))))) (omega arith)
    (bytes_join f (2 ∷ z ++ (ks ++ (ps ++ (ls ++ e)))) (features_bytes s.features)
    (kind_byte 2 (z ++ (ks ++ (ps ++ (ls ++ e)))) (omega arith)
    (bytes_join z (ks ++ (ps ++ (ls ++ e))) (sizes_bytes s.sizes w.identity w.user)
    (bytes_join ks (ps ++ (ls ++ e)) (keys_bytes 0 s.keys w.keys)
    (bytes_join ps (ls ++ e) slots
    (bytes_join ls e locks
    (kind_byte 6 [] (omega arith) bytes_none)))))))
