-- What is written of a setup within the rules reads back: the reader refuses no sheet that it should take.
use Rattle.sheet.specs.declared.SheetRefusal.{SheetRefusal}
use Rattle.std.specs.Prelude.{Result}
use mathlib.Core.Path.{◌≡◌, refl, sym, ap, ◌∙◌}
use mathlib.Core.Bool.{true}
use mathlib.Core.Logic.{inl, inr}
use mathlib.Core.List.{List, [], ◌∷◌, ◌++◌, append_assoc, append-nil}
use Prim.Native.Nat.{ℕ, ◌+◌, ◌*◌, ◌≤◌, ◌<◌}
use native.Mathlib.Omega.{arith}
use native.Mathlib.Nat.{le_of_eq, le_refl, sub_self}
use lib.ListN.{length, take, length-append}
use borrow.Author.Tests.{le-leb, lt-leb}
use Rattle.memory.specs.declared.Lock.{Lock}
use Rattle.ground.specs.Choice.{implies}
use Rattle.sheet.specs.Limits.{profile_limit, lock_limit, word_limit}
use Rattle.sheet.specs.Kinds.{kind_of, in_order, keys_at}
use Rattle.sheet.specs.KeyTable.{key_record, key_table}
use Rattle.sheet.specs.Setups.{Setup, setup_of, terms_of, no_slot, no_lock, empty_terms, no_marks, nothing_gathered}
use Rattle.sheet.specs.Judgement.{too_many, record_of}
use Rattle.sheet.specs.Judgement.{with_features, with_sizes, with_key, with_profile, with_lock}
use Rattle.sheet.specs.Sheet.{whole, walk, read_of, refused_at, Accepted, said_of, verdict_of, terms_read, keys_read}
use Rattle.sheet.specs.Writer.{area_byte, features_body, sizes_body, key_body, profile_body, lock_body}
use Rattle.sheet.specs.Writer.{keys_written, profiles_written, locks_written, written}
use Rattle.sheet.specs.Within.{KeysRise, SlotFine, SlotsFine, LocksRise, Within}
use Rattle.sheet.specs.declared.Kind.TheVariants.{FeatureRecord, SizeRecord, KeyRecord}
use Rattle.sheet.specs.declared.Kind.TheVariants.{ProfileRecord, LockRecord}
use Rattle.sheet.specs.declared.SheetFault.TheVariants.{Many}
use Rattle.sheet.specs.declared.Features.{Features}
use Rattle.sheet.specs.declared.Sizes.{Sizes}
use Rattle.sheet.specs.declared.Key.{Key}
use Rattle.sheet.specs.declared.Slot.{Slot}
use Rattle.sheet.specs.declared.Terms.{Terms}
use Rattle.sheet.specs.declared.Gathered.{Gathered}
use Rattle.sheet.specs.declared.Reading.{Reading}
use Rattle.sheet_laws.proofs.OneRecord.{order_on, go_on, one_too_many, end_walk}
use Rattle.sheet.proofs.Bits.{two_back}
use Rattle.sheet_laws.proofs.Tables.{longer, filled_empty, filled_all, used_length, used_filled}
use Rattle.sheet_laws.proofs.States.{marks_of, terms_of_lem, state, slot_gathered, lock_gathered}
use Rattle.sheet.proofs.KeyTables.{keys_back, table_back}
use Rattle.sheet.proofs.Back.{features_length, features_back, features_fine}
use Rattle.sheet.proofs.Back.{sizes_length, sizes_back, sizes_fine}
use Rattle.sheet.proofs.Back.{key_length, key_fine, profile_length, profile_back, profile_fine}
use Rattle.sheet.proofs.Back.{lock_length, lock_back, lock_fine}

-- there is room for x where the whole list fits
room : {A : Type 0} (before xs all : List A) (x : A) (limit : ℕ) → before ++ x ∷ xs ≡ all → length all ≤ limit
    → length before < limit
room before xs all x limit e h = let l = ap length e in omega (arith, length-append before (x ∷ xs))

shifted : {A : Type 0} (before xs all : List A) (x : A) → before ++ x ∷ xs ≡ all → (before ++ x ∷ []) ++ xs ≡ all
shifted before xs all x e = append_assoc before (x ∷ []) xs ∙ e

-- Each kind's records in front of r: the walk behind them has the answer R, so it has it from the first of them on.
module _ (limit : ℕ) (f : Features) (z : Sizes) (R : Result Reading SheetRefusal) (r : List ℕ) where
  -- what is gathered where n keys have been read, and nothing behind them
  abbrev keyed : ℕ → ℕ → ℕ → Gathered
  keyed last n id = state f z (marks_of last n 0 id 0 0 0) [] []

  module _ (all end : ℕ) (fits : all ≤ limit)
      (on : (last id : ℕ) → 2 ≤ last → last ≤ 3 → walk limit r 0 end (keyed last all id) ≡ R) where
    pub keys_walk : (ks : List Key) (n at last id : ℕ) → n + length ks ≡ all → at + key_record * length ks ≡ end
        → KeysRise id ks → 2 ≤ last → last ≤ 3 → walk limit (keys_written ks ++ r) 0 at (keyed last n id) ≡ R
    unfolding keys_written kind_of too_many record_of key_body with_key
    keys_walk [] n at last id e p w l h =
        let en : n ≡ all = omega (arith, e) in
        let ep : at ≡ end = omega (arith, p) in
        rw (en, ep) (on last id l h)
    keys_walk (x ∷ ks) n at last id e p w l h =
        let k = keyed last n id in
        let fine = key_fine x w.1 id w.0 in
        let g = go_on limit 3 KeyRecord (key_body x) (keys_written ks ++ r) k (with_key k (key_body x)) refl
        (order_on last 3 l h (omega arith)) (lt-leb limit n (omega arith)) (key_length x w.1) (rw fine) at in
        rw (append_assoc (key_body x) (keys_written ks) r, g)
        (keys_walk ks (n + 1) (at + 1 + 36) 3 (x.id + 1) (omega arith) (omega arith) w.2 (omega arith)
        (omega arith))

  module _ (keys : ℕ) (all : List Slot) (fits : length all ≤ profile_limit)
      (on : (at last profiles id number : ℕ) → 2 ≤ last → last ≤ 4
      → walk limit r 0 at (state f z (marks_of last keys profiles id number 0 0) all []) ≡ R) where
    -- what is gathered before a slot, and the walk over the slots from number n on
    abbrev slotted : ℕ → ℕ → ℕ → ℕ → List Slot → Gathered
    slotted last profiles id number before = state f z (marks_of last keys profiles id number 0 0) before []

    -- one slot: an absent one has no record
    slot_walk : (x : Slot) (ss before : List Slot) (at last profiles id number : ℕ) → length before < profile_limit
        → SlotFine z x → profiles ≤ length before → number ≤ length before → 2 ≤ last → last ≤ 4
        → ((at last profiles number : ℕ) → profiles ≤ length before + 1 → number ≤ length before + 1 → 2 ≤ last
        → last ≤ 4 → walk limit (profiles_written (length before + 1) ss ++ r) 0 at
        (slotted last profiles id number (before ++ x ∷ [])) ≡ R)
        → walk limit (profiles_written (length before) (x ∷ ss) ++ r) 0 at (slotted last profiles id number before) ≡ R
    unfolding profiles_written kind_of too_many record_of no_slot profile_body
    slot_walk x ss before at last profiles id number p (inl e) a b l h next =
        rw (e, filled_empty no_slot profile_limit before p)
        (rw e at (next at last profiles number (omega arith) (omega arith) l h))
    slot_walk x ss before at last profiles id number p (inr w) a b l h next =
        let m = marks_of last keys profiles id number 0 0 in
        let k = slotted last profiles id number before in
        let n = length before in
        let t = profiles_written (n + 1) ss in
        let c = profile_body n x.profile in
        let fine = profile_fine number n z x.profile b p w.1 in
        let g =
        go_on limit 4 ProfileRecord c (t ++ r) k (with_profile k c) refl (order_on last 4 l h (omega arith))
        (lt-leb profile_limit profiles (omega arith)) (profile_length n x.profile) (rw fine) at in
        rw (
          w.0,
          append_assoc c t r,
          g,
          slot_gathered f z m before [] c (le_refl n) p,
          profile_back n x w.0,
          sub_self n,
        )
        (next (at + 1 + 6) 4 (profiles + 1) (n + 1) (omega arith) (omega arith) (omega arith) (omega arith))

    slots_walk : (ss before : List Slot) (n at last profiles id number : ℕ) → n ≡ length before → before ++ ss ≡ all
        → SlotsFine z ss → profiles ≤ n → number ≤ n → 2 ≤ last → last ≤ 4
        → walk limit (profiles_written n ss ++ r) 0 at (slotted last profiles id number before) ≡ R
    unfolding profiles_written
    slots_walk [] before n at last profiles id number en e w a b l h =
        rw (sym (append-nil before) ∙ e) (on at last profiles id number l h)
    slots_walk (x ∷ ss) before n at last profiles id number en e w a b l h =
        let here = room before ss all x profile_limit e fits in
        let count = sym (longer no_slot profile_limit before x) in
        rw en
        (slot_walk x ss before at last profiles id number here w.0 (rw en at a) (rw en at b) l h
        (λ at last profiles number a b l h.
        slots_walk ss (before ++ x ∷ []) (length before + 1) at last profiles id number count
        (shifted before ss all x e) w.1 a b l h))

  module _ (keys : ℕ) (ss : List Slot) (profiles id number : ℕ) (all : List Lock) (fits : length all ≤ lock_limit)
      (on : (at last area word : ℕ) → 2 ≤ last → last ≤ 5
      → walk limit r 0 at (state f z (marks_of last keys profiles id number area word) ss all) ≡ R) where
    locks_walk : (ls before : List Lock) (at last area word : ℕ) → before ++ ls ≡ all → LocksRise area word z ls
        → 2 ≤ last → last ≤ 5
        → walk limit (locks_written ls ++ r) 0 at
        (state f z (marks_of last keys profiles id number area word) ss before)
        ≡ R
    unfolding locks_written kind_of too_many record_of lock_body
    locks_walk [] before at last area word e w l h = rw (sym (append-nil before) ∙ e) (on at last area word l h)
    locks_walk (x ∷ ls) before at last area word e w l h =
        let m = marks_of last keys profiles id number area word in
        let k = state f z m ss before in
        let p = room before ls all x lock_limit e fits in
        let fine = lock_fine area word z x w.0 in
        let g = go_on limit 5 LockRecord (lock_body x) (locks_written ls ++ r) k (with_lock k (lock_body x)) refl
        (order_on last 5 l h (omega arith)) (lt-leb lock_limit (length before) p) (lock_length x) (rw fine) at in
        rw (
          append_assoc (lock_body x) (locks_written ls) r,
          g,
          lock_gathered f z m ss before (lock_body x) p,
          lock_back x,
          two_back x.first.0,
          two_back x.words,
        )
        (locks_walk ls (before ++ x ∷ []) (at + 1 + 5) 5 (area_byte x.area) (x.first.0 + x.words)
        (shifted before ls all x e) w.1 (omega arith) (omega arith))

-- the two opening records in front of r
pub opened : (limit : ℕ) (f : Features) (z : Sizes) (r : List ℕ) → implies f.iam3 f.iam ≡ true
    → z.identity ≤ word_limit → z.user ≤ word_limit
    → read_of limit (1 ∷ features_body f ++ (2 ∷ sizes_body z ++ r))
    ≡ walk limit r 0 keys_at (state f z (marks_of 2 0 0 0 0 0 0) [] [])
unfolding read_of kind_of in_order too_many record_of nothing_gathered no_marks empty_terms with_features with_sizes
    profile_limit lock_limit
opened limit f z r h a b =
    let k = with_features nothing_gathered (features_body f) in
    go_on limit 1 FeatureRecord (features_body f) (2 ∷ sizes_body z ++ r) nothing_gathered k refl refl refl
    (features_length f) (rw (features_fine f h)) 0
    ∙ go_on limit 2 SizeRecord (sizes_body z) r k (with_sizes k (sizes_body z)) refl refl refl
    (sizes_length z) (rw (sizes_fine z a b)) 3
    ∙ rw (features_back f, sizes_back z)

module _ (limit : ℕ) (s : Setup) (w : Within limit s) where
  abbrev locks_in : List Lock
  locks_in = take s.locks.count s.locks.table

  -- the terms are given back
  terms_back : terms_of_lem s.features s.sizes s.profiles locks_in ≡ terms_of s
  terms_back = λ i. record {
    features = s.features;
    sizes = s.sizes;
    profiles = filled_all no_slot profile_limit s.profiles w.slots i;
    locks = record {
      count = used_length no_lock lock_limit s.locks.count s.locks.table w.lock_table i;
      table = used_filled no_lock lock_limit s.locks.count s.locks.table w.lock_table i;
    };
  }

  pub written_read : read_of limit (written s) ≡ whole (terms_of s) (length s.keys)
  unfolding written
  written_read =
      let f = s.features in
      let z = s.sizes in
      let ks = s.keys in
      let n = length ks in
      let ss = s.profiles in
      let ls = locks_in in
      let R = whole (terms_of s) n in
      let end : List ℕ = 6 ∷ [] in
      let locks = locks_written ls ++ end in
      let slots = profiles_written 0 ss ++ locks in
      let used = used_length no_lock lock_limit s.locks.count s.locks.table w.lock_table in
      let few : length ls ≤ lock_limit = rw used w.lock_table.few in
      let count : 0 + n ≡ n = omega arith in
      opened limit f z (keys_written ks ++ slots) w.iam3 w.identity w.user
      ∙ keys_walk limit f z R slots n (keys_at + key_record * n) w.few
      (λ last id l h. slots_walk limit f z R locks n ss (le_of_eq w.slots)
      (λ at last profiles id number l h. locks_walk limit f z R end n ss profiles id number ls few
      (λ at last area word l h.
      end_walk limit at (state f z (marks_of last n profiles id number area word) ss ls) l h
      ∙ ap (λ (t : Terms). whole t n) terms_back)
      ls [] at last 0 0 refl w.locks l (omega arith))
      ss [] 0 (keys_at + key_record * n) last 0 id 0 refl refl w.profiles (omega arith) (omega arith) l (omega arith))
      ks 0 keys_at 2 0 count refl w.keys (omega arith) (omega arith)

  -- the key table of what is written is the keys as they are written
  pub written_table : key_table (written s) (length s.keys) ≡ keys_written s.keys
  unfolding written
  written_table =
      let o = (1 ∷ features_body s.features) ++ (2 ∷ sizes_body s.sizes) in
      let r = profiles_written 0 s.profiles ++ (locks_written locks_in ++ (6 ∷ [])) in
      let long : length o ≡ keys_at =
      rw (length-append (1 ∷ features_body s.features) (2 ∷ sizes_body s.sizes))
      (omega (arith, features_length s.features, sizes_length s.sizes)) in
      ap (λ (l : List ℕ). key_table l (length s.keys))
      (sym (append_assoc (1 ∷ features_body s.features) (2 ∷ sizes_body s.sizes) (keys_written s.keys ++ r)))
      ∙ table_back 0 s.keys o r w.keys long

  -- a setup within the rules is written, read, and the same again, keys and all
  pub written_reads : Accepted limit (written s) × (said_of limit (written s) ≡ s)
  unfolding said_of
  written_reads = (
    ap verdict_of written_read,
    ap (λ (r : Result Reading SheetRefusal). setup_of (terms_read r) (key_table (written s) (keys_read r))) written_read
        ∙ ap (setup_of (terms_of s)) written_table
        ∙ (λ i. record {
          features = s.features;
          sizes = s.sizes;
          keys = keys_back 0 s.keys w.keys i;
          profiles = s.profiles;
          locks = s.locks;
        }),
  )

-- a key record where there are as many as there may be
pub past : (limit at : ℕ) (k : Gathered) (t : List ℕ) → 2 ≤ k.marks.last → k.marks.last ≤ 3 → k.marks.keys ≡ limit
    → walk limit (3 ∷ t) 0 at k ≡ refused_at Many at
unfolding kind_of too_many
past limit at k t l h e =
    one_too_many limit 3 KeyRecord at k t refl (order_on k.marks.last 3 l h (omega arith))
    (le-leb limit k.marks.keys (le_of_eq (sym e)))

-- One key record more than there may be is 34 where it stands, whatever follows its kind byte: before 30 and 33.
pub many_keys : (limit : ℕ) (f : Features) (z : Sizes) (ks : List Key) (t : List ℕ)
    → implies f.iam3 f.iam ≡ true → z.identity ≤ word_limit → z.user ≤ word_limit
    → KeysRise 0 ks → length ks ≡ limit
    → read_of limit (1 ∷ features_body f ++ (2 ∷ sizes_body z ++ (keys_written ks ++ (3 ∷ t))))
    ≡ refused_at Many (keys_at + key_record * limit)
many_keys limit f z ks t h a b w e =
    let count : 0 + length ks ≡ limit = omega (arith, e) in
    opened limit f z (keys_written ks ++ (3 ∷ t)) h a b
    ∙ keys_walk limit f z (refused_at Many (keys_at + key_record * limit)) (3 ∷ t) limit (keys_at + key_record * limit)
    (le_refl limit) (many limit (keys_at + key_record * limit)) ks 0 keys_at 2 0 count (rw e) w (omega arith)
    (omega arith)
  where
    many : (limit at last id : ℕ) → 2 ≤ last → last ≤ 3
        → walk limit (3 ∷ t) 0 at (state f z (marks_of last limit 0 id 0 0 0) [] []) ≡ refused_at Many at
    many limit at last id l h = past limit at (state f z (marks_of last limit 0 id 0 0 0) [] []) t l h refl
