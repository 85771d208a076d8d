-- One record more behind those of its kind: the rules go on, and what is written of it comes last.
use mathlib.Core.Path.{◌≡◌, refl, sym, ap}
use mathlib.Core.Bool.{true}
use mathlib.Core.Logic.{inl}
use mathlib.Core.List.{List, [], ◌∷◌, ◌++◌, append_assoc, append-nil}
use Prim.Native.Nat.{ℕ, zero, suc, ◌+◌, ◌-◌, ◌≤◌}
use native.Mathlib.Omega.{arith}
use lib.ListN.{length, replicate, length-append, length-replicate}
use Rattle.memory.specs.declared.Lock.{Lock}
use Rattle.ground.specs.Choice.{pick}
use Rattle.sheet.specs.Setups.{no_slot}
use Rattle.sheet.specs.Writer.{area_byte, key_body, profile_body, lock_body}
use Rattle.sheet.specs.Writer.{keys_written, profiles_written, locks_written}
use Rattle.sheet.specs.Within.{KeyFine, KeysRise, SlotFine, SlotsFine, LockFine, LocksRise}
use Rattle.sheet.specs.declared.Sizes.{Sizes}
use Rattle.sheet.specs.declared.Key.{Key}
use Rattle.sheet.specs.declared.Slot.{Slot}
use Rattle.sheet_laws.proofs.States.{up_to}

-- keys
abbrev pub next_key : ℕ → List Key → ℕ
next_key id [] = id
next_key id (k ∷ ks) = next_key (k.id + 1) ks

pub keys_more : (id : ℕ) (ks : List Key) (x : Key) → KeysRise id ks → next_key id ks ≤ x.id → KeyFine x
    → KeysRise id (ks ++ x ∷ [])
keys_more id [] x h l w = (l, w, tt)
keys_more id (k ∷ ks) x h l w = (h.0, h.1, keys_more (k.id + 1) ks x h.2 l w)

pub next_key_lem : (id : ℕ) (ks : List Key) (x : Key) → next_key id (ks ++ x ∷ []) ≡ x.id + 1
next_key_lem id [] x = refl
next_key_lem id (k ∷ ks) x = next_key_lem (k.id + 1) ks x

pub keys_written_lem : (ks : List Key) (x : Key) → keys_written (ks ++ x ∷ []) ≡ keys_written ks ++ (3 ∷ key_body x)
unfolding keys_written
keys_written_lem [] x = append-nil (3 ∷ key_body x)
keys_written_lem (k ∷ ks) x =
    rw (keys_written_lem ks x) (sym (append_assoc (3 ∷ key_body k) (keys_written ks) (3 ∷ key_body x)))

-- locks
abbrev pub next_area : ℕ → List Lock → ℕ
next_area area [] = area
next_area area (l ∷ ls) = next_area (area_byte l.area) ls

abbrev pub next_word : ℕ → List Lock → ℕ
next_word word [] = word
next_word word (l ∷ ls) = next_word (l.first.0 + l.words) ls

pub locks_more : (area word : ℕ) (z : Sizes) (ls : List Lock) (x : Lock) → LocksRise area word z ls
    → LockFine (next_area area ls) (next_word word ls) z x → LocksRise area word z (ls ++ x ∷ [])
locks_more area word z [] x h w = (w, tt)
locks_more area word z (l ∷ ls) x h w =
    (h.0, locks_more (area_byte l.area) (l.first.0 + l.words) z ls x h.1 w)

pub next_area_lem : (area : ℕ) (ls : List Lock) (x : Lock) → next_area area (ls ++ x ∷ []) ≡ area_byte x.area
next_area_lem area [] x = refl
next_area_lem area (l ∷ ls) x = next_area_lem (area_byte l.area) ls x

pub next_word_lem : (word : ℕ) (ls : List Lock) (x : Lock) → next_word word (ls ++ x ∷ []) ≡ x.first.0 + x.words
next_word_lem word [] x = refl
next_word_lem word (l ∷ ls) x = next_word_lem (l.first.0 + l.words) ls x

pub locks_written_lem : (ls : List Lock) (x : Lock)
    → locks_written (ls ++ x ∷ []) ≡ locks_written ls ++ (5 ∷ lock_body x)
unfolding locks_written
locks_written_lem [] x = append-nil (5 ∷ lock_body x)
locks_written_lem (l ∷ ls) x =
    rw (locks_written_lem ls x) (sym (append_assoc (5 ∷ lock_body l) (locks_written ls) (5 ∷ lock_body x)))

-- slots
pub slots_join : (z : Sizes) (xs ys : List Slot) → SlotsFine z xs → SlotsFine z ys → SlotsFine z (xs ++ ys)
slots_join z [] ys h w = w
slots_join z (x ∷ xs) ys h w = (h.0, slots_join z xs ys h.1 w)

pub slots_absent : (z : Sizes) (d : ℕ) → SlotsFine z (replicate d no_slot)
slots_absent z zero = tt
slots_absent z (suc d) = (inl refl, slots_absent z d)

pub written_absent : (n d : ℕ) → profiles_written n (replicate d no_slot) ≡ []
unfolding profiles_written no_slot
written_absent n zero = refl
written_absent n (suc d) = written_absent (n + 1) d

pub written_join : (n : ℕ) (xs ys : List Slot)
    → profiles_written n (xs ++ ys) ≡ profiles_written n xs ++ profiles_written (n + length xs) ys
unfolding profiles_written
written_join n [] ys = ap (λ (m : ℕ). profiles_written m ys) (let e : n ≡ n + 0 = omega arith in e)
written_join n (x ∷ xs) ys =
    let e : n + 1 + length xs ≡ n + suc (length xs) = omega arith in
    let one = pick x.present (4 ∷ profile_body n x.profile) [] in
    rw (written_join (n + 1) xs ys, e)
    (sym (append_assoc one (profiles_written (n + 1) xs) (profiles_written (n + suc (length xs)) ys)))

-- a profile at a number above those before it
pub up_length : (ss : List Slot) (p : ℕ) (x : Slot) → length ss ≤ p → length (up_to ss p x) ≡ p + 1
up_length ss p x h =
    let gap = replicate (p - length ss) no_slot in
    rw (length-append ss (gap ++ x ∷ []), length-append gap (x ∷ []), length-replicate (p - length ss) no_slot)
    (omega arith)

pub up_fine : (z : Sizes) (ss : List Slot) (p : ℕ) (x : Slot) → SlotsFine z ss → SlotFine z x
    → SlotsFine z (up_to ss p x)
up_fine z ss p x h w =
    let d = p - length ss in
    slots_join z ss _ h (slots_join z (replicate d no_slot) (x ∷ []) (slots_absent z d) (w, tt))

pub up_written : (ss : List Slot) (p : ℕ) (x : Slot) → length ss ≤ p → x.present ≡ true
    → profiles_written 0 (up_to ss p x) ≡ profiles_written 0 ss ++ (4 ∷ profile_body p x.profile)
unfolding profiles_written
up_written ss p x h e =
    let d = p - length ss in
    let n : 0 + length ss + length (replicate d no_slot) ≡ p = rw (length-replicate d no_slot) (omega arith) in
    rw (
      written_join 0 ss (replicate d no_slot ++ x ∷ []),
      written_join (0 + length ss) (replicate d no_slot) (x ∷ []),
      written_absent (0 + length ss) d,
      n,
      e,
      append-nil (profile_body p x.profile),
    )
