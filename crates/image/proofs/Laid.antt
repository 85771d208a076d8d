-- The parts of an image, laid one behind the other.
use mathlib.Core.Path.{◌≡◌, refl, sym, ap, ap₂, ◌∙◌}
use mathlib.Core.List.{List, [], ◌∷◌, ◌++◌, append_assoc}
use Prim.Native.Nat.{ℕ, ◌+◌, ◌*◌, ◌≤◌}
use native.Mathlib.Omega.{arith}
use borrow.Rule.Slice.PartMut.{put_mid}
use lib.ListN.{length, take, drop, set, replicate, length-append, length-take, length-drop, length-set}
use lib.Seq.{drop-drop, length-take-le}
use Rattle.ground.specs.Bytes.{two_bytes}
use Rattle.modes.specs.Room.{over}
use Rattle.payload.proofs.Overs.{put_next, over_behind}
use Rattle.sheet.specs.declared.Kind.TheVariants.{FeatureRecord, SizeRecord, ProfileRecord, LockRecord}
use Rattle.sheet.specs.declared.Terms.{Terms}
use Rattle.sheet.specs.Kinds.{body_length}
use Rattle.sheet.specs.Limits.{key_limit, profile_limit, lock_limit}
use Rattle.sheet.specs.KeyTable.{key_record, record_count}
use Rattle.sheet.specs.Writer.{features_body, sizes_body, lock_body}
use Rattle.sheet.proofs.Back.{features_length, sizes_length, profile_length, lock_length}
use Rattle.entry.specs.Sessions.{cleared}
use Rattle.image.specs.Places.{
  features_at,
  sizes_at,
  profiles_at,
  lock_count_at,
  locks_at,
  key_count_at,
  key_table_at,
  key_room,
  image_length,
}
use Rattle.image.specs.Image.{slot_body, bodies, terms_bytes, image_of}
use Rattle.image.proofs.Tables.{bodies_length}

-- each part starts where the one before it ends, and the last ends the image
pub places : (sizes_at ≡ features_at + body_length FeatureRecord)
    × (profiles_at ≡ sizes_at + body_length SizeRecord)
    × (lock_count_at ≡ profiles_at + body_length ProfileRecord * profile_limit)
    × (locks_at ≡ lock_count_at + 1)
    × (key_count_at ≡ locks_at + body_length LockRecord * lock_limit)
    × (key_table_at ≡ key_count_at + 2)
    × (key_room ≡ key_record * key_limit)
    × (image_length ≡ key_table_at + key_room)
unfolding profile_limit lock_limit key_limit
places = (refl, refl, refl, refl, refl, refl, refl, refl)

-- three parts, one behind the other, over the first bytes of an image
pub session_laid : (a b c room r s t : List ℕ) → length a ≡ 2 → length b ≡ 10 → r ≡ over a room
    → s ≡ take 2 r ++ over b (drop 2 r) → t ≡ take 12 s ++ over c (drop 12 s) → t ≡ over (a ++ (b ++ c)) room
session_laid a b c room r s t k l e f g =
    let n : length (a ++ b) ≡ 12 = length-append a b ∙ ap₂ ◌+◌ k l in
    put_next (a ++ b) c room s t 12 n (put_next a b room r s 2 k e f) g
    ∙ ap (λ (x : List ℕ). over x room) (append_assoc a b c)

two_set : (x y : ℕ) (room : List ℕ) → 2 ≤ length room → set (set room 0 x) 1 y ≡ over (x ∷ y ∷ []) room
two_set x y [] h = absurd (omega arith)
two_set x y (a ∷ []) h = absurd (omega arith)
two_set x y (a ∷ b ∷ r) h = refl

-- a session over the first bytes of an image
pub session_kept : (x y : ℕ) (b c room : List ℕ) → length room ≡ 793
    → length b ≡ length (take 10 (drop 2 (set (set room 0 x) 1 y)))
    → length c ≡ length (take 4 (drop 12 (put_mid 2 10 (set (set room 0 x) 1 y) b)))
    → put_mid 12 4 (put_mid 2 10 (set (set room 0 x) 1 y) b) c ≡ over (x ∷ y ∷ b ++ c) room
session_kept x y b c room h d e =
    let r = set (set room 0 x) 1 y in
    let s = put_mid 2 10 r b in
    let k : length b ≡ 10 = d ∙ simp (length-take, length-drop, length-set) (omega arith) in
    let l : length c ≡ 4 =
    e ∙ simp (length-take, length-drop, length-append, length-set) (omega (arith, k)) in
    session_laid (x ∷ y ∷ []) b c room r s (put_mid 12 4 s c) refl k (two_set x y room (omega arith))
    (ap (λ (n : ℕ). take 2 r ++ (b ++ drop n (drop 2 r))) (sym k))
    (ap (λ (n : ℕ). take 12 s ++ (c ++ drop n (drop 12 s))) (sym l))

-- d behind p, which stands from place n on
next : (n k : ℕ) (p d room r s : List ℕ) → n ≤ length room → length p ≡ k → r ≡ take n room ++ over p (drop n room)
    → s ≡ take (n + k) r ++ over d (drop (n + k) r) → s ≡ take n room ++ over (p ++ d) (drop n room)
next n k p d room r s h l e f =
    let t = take n room in
    let m : length (t ++ p) ≡ n + k = length-append t p ∙ ap₂ ◌+◌ (length-take-le n room h) l in
    put_next (t ++ p) d room r s (n + k) m (e ∙ over_behind n p room h) f
    ∙ ap (λ (x : List ℕ). over x room) (append_assoc t p d)
    ∙ sym (over_behind n (p ++ d) room h)

joined : (p d : List ℕ) (m n : ℕ) → length p ≡ m → length d ≡ n → length (p ++ d) ≡ m + n
joined p d m n e f = length-append p d ∙ ap₂ ◌+◌ e f

module _ (t : Terms) (slots : length t.profiles ≡ profile_limit) (locks : length t.locks.table ≡ lock_limit) where
  pub slots_length : length (bodies slot_body t.profiles) ≡ 96
  unfolding profile_limit
  slots_length =
      bodies_length slot_body 6 (λ s. profile_length _ s.profile) t.profiles ∙ ap (λ (n : ℕ). 6 * n) slots

  pub locks_length : length (bodies lock_body t.locks.table) ≡ 80
  unfolding lock_limit
  locks_length = bodies_length lock_body 5 lock_length t.locks.table ∙ ap (λ (n : ℕ). 5 * n) locks

  pub terms_length : length (terms_bytes t) ≡ 183
  terms_length =
      let f = features_body t.features in
      let z = sizes_body t.sizes in
      let b = bodies slot_body t.profiles in
      let l = bodies lock_body t.locks.table in
      let n = t.locks.count ∷ [] in
      joined f (z ++ (b ++ (n ++ l))) 2 181 (features_length t.features)
      (joined z (b ++ (n ++ l)) 4 177 (sizes_length t.sizes)
      (joined b (n ++ l) 96 81 slots_length (joined n l 1 80 refl locks_length)))

  -- the terms
  pub terms_laid : (room r s u v w : List ℕ) → 16 ≤ length room
      → r ≡ take 16 room ++ over (features_body t.features) (drop 16 room)
      → s ≡ take 18 r ++ over (sizes_body t.sizes) (drop 18 r)
      → u ≡ take 22 s ++ over (bodies slot_body t.profiles) (drop 22 s)
      → v ≡ take 118 u ++ over (t.locks.count ∷ []) (drop 118 u)
      → w ≡ take 119 v ++ over (bodies lock_body t.locks.table) (drop 119 v)
      → w ≡ take 16 room ++ over (terms_bytes t) (drop 16 room)
  terms_laid room r s u v w h e f g i j =
      let a = features_body t.features in
      let b = sizes_body t.sizes in
      let c = bodies slot_body t.profiles in
      let d = t.locks.count ∷ [] in
      let l = bodies lock_body t.locks.table in
      let ka = features_length t.features in
      let kb = joined a b 2 4 ka (sizes_length t.sizes) in
      let kc = joined (a ++ b) c 6 96 kb slots_length in
      let kd = joined ((a ++ b) ++ c) d 102 1 kc refl in
      let x = next 16 2 a b room r s h ka e f in
      let y = next 16 6 (a ++ b) c room s u h kb x g in
      let z = next 16 102 ((a ++ b) ++ c) d room u v h kc y i in
      next 16 103 (((a ++ b) ++ c) ++ d) l room v w h kd z j
      ∙ ap (λ (q : List ℕ). take 16 room ++ over q (drop 16 room))
      (append_assoc ((a ++ b) ++ c) d l ∙ append_assoc (a ++ b) c (d ++ l) ∙ append_assoc a b (c ++ (d ++ l)))

-- the terms and the key table, over zeros
pub image_laid : (t : Terms) (table r s u : List ℕ) → length (terms_bytes t) ≡ 183
    → (let room = replicate {A = ℕ} 793 0 in r ≡ take 16 room ++ over (terms_bytes t) (drop 16 room))
    → s ≡ take 199 r ++ over (two_bytes (record_count table)) (drop 199 r) → u ≡ take 201 s ++ over table (drop 201 s)
    → u ≡ image_of cleared t table
unfolding image_of cleared
image_laid t table r s u k e f g =
    let room : List ℕ = replicate 793 0 in
    let a = terms_bytes t in
    let b = two_bytes (record_count table) in
    let kb = joined a b 183 2 k refl in
    let x = next 16 183 a b room r s (omega arith) k e f in
    let n : length ((a ++ b) ++ table) ≡ 185 + length table = joined (a ++ b) table 185 (length table) kb refl in
    let z : List ℕ = replicate 777 0 in
    next 16 185 (a ++ b) table room s u (omega arith) kb x g
    ∙ ap (λ (l : List ℕ). replicate {A = ℕ} 16 0 ++ (((a ++ b) ++ table) ++ l))
    (ap (λ (i : ℕ). drop i z) n ∙ sym (drop-drop (length table) 185 z))
    ∙ ap (λ (l : List ℕ). replicate {A = ℕ} 16 0 ++ l)
    (let o : List ℕ = drop (length table) (replicate 592 0) in
    append_assoc (a ++ b) table o ∙ append_assoc a b (table ++ o))
