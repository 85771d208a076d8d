-- What was written into an image is read from it again.
use mathlib.Core.Path.{◌≡◌, refl, sym, ap, ap₂, ◌∙◌}
use mathlib.Core.Bool.{true}
use mathlib.Core.List.{List, [], ◌∷◌, ◌++◌, append_assoc}
use Prim.Native.Nat.{ℕ, suc, ◌+◌, ◌*◌}
use native.Mathlib.Nat.{div-add-mod'}
use borrow.Author.Tests.{le-leb}
use lib.Dec.{ltb, leb}
use lib.ListN.{length, take, drop, get_or, replicate, length-append}
use lib.Seq.{take_at, drop_at, drop-drop, get_or-drop}
use Rattle.ground.specs.Choice.{both}
use Rattle.ground.specs.Bytes.{byte_at, word_at, two_bytes}
use Rattle.modes.specs.Room.{over}
use Rattle.octets.specs.Parts.{bytes_from}
use Rattle.octets.proofs.Parts.{bytes_drop, front}
use Rattle.sheet.specs.declared.Slot.{Slot}
use Rattle.sheet.specs.declared.Terms.{Terms}
use Rattle.sheet.specs.Limits.{key_limit, profile_limit, lock_limit}
use Rattle.sheet.specs.KeyTable.{record_count, keys_in}
use Rattle.sheet.specs.Records.{features_of, sizes_of, slot_of, lock_of}
use Rattle.sheet.specs.Writer.{features_body, sizes_body, profile_body, lock_body}
use Rattle.sheet.proofs.Bits.{bit_back, two_back}
use Rattle.sheet.proofs.Back.{features_length, features_back, sizes_length, sizes_back, area_back, profile_length}
use Rattle.sheet.proofs.Back.{lock_length, lock_back}
use Rattle.entry.specs.declared.State.{State}
use Rattle.entry.specs.declared.State.TheVariants.{Initial, IamInit, MamInit, IaOk}
use Rattle.entry.specs.declared.Session.{Session}
use Rattle.tag.specs.States.{key_fits}
use Rattle.image.specs.Places.{key_room}
use Rattle.image.specs.Image.{
  state_number,
  session_bytes,
  kept,
  slot_body,
  bodies,
  terms_bytes,
  image_of,
  state_of,
  session_in,
  slot_in,
  said_in,
  terms_in,
  table_in,
  tag_in,
  rests,
  is_tag,
}
use Rattle.image.specs.Kept.{Fits}
use Rattle.image.proofs.Laid.{slots_length, locks_length}
use Rattle.image.proofs.Said.{Fitting}
use Rattle.image.proofs.Tables.{said_back}

state_back : (s : State) → state_of (state_number s) ≡ s
state_back Initial = refl
state_back IamInit = refl
state_back MamInit = refl
state_back IaOk = refl

state_small : (s : State) → ltb (state_number s) 4 ≡ true
state_small Initial = refl
state_small IamInit = refl
state_small MamInit = refl
state_small IaOk = refl

session_long : (s : Session) → Fits s → length (session_bytes s) ≡ 16
session_long s w =
    ap (λ (n : ℕ). suc (suc n))
    (length-append s.tchallenge s.ichallenge ∙ ap₂ ◌+◌ w.tchallenge w.ichallenge)

slot_back : (s : Slot) → slot_in (slot_body s) ≡ s
unfolding slot_in slot_of profile_body
slot_back s = λ i. record {
  present = bit_back s.present i;
  profile = record {
    area = area_back s.profile.area i;
    base = record { 0 = two_back s.profile.base.0 i };
    words = two_back s.profile.words i;
  };
}

-- x stands at place p, and r behind it
behind : (image x r : List ℕ) (p n : ℕ) → length x ≡ n → drop p image ≡ x ++ r → drop (p + n) image ≡ r
behind image x r p n l e = sym (drop-drop n p image) ∙ ap (drop n) e ∙ drop_at x r n l

there : (image x r : List ℕ) (p n : ℕ) → length x ≡ n → drop p image ≡ x ++ r → take n (drop p image) ≡ x
there image x r p n l e = ap (take n) e ∙ take_at x r n l

-- another session in its place
pub kept_again : (t : Terms) (table : List ℕ) (s r : Session) → Fits s → Fits r
    → kept s (image_of r t table) ≡ image_of s t table
unfolding image_of
kept_again t table s r v w =
    ap (λ (l : List ℕ). session_bytes s ++ l)
    (drop_at (session_bytes r) _ (length (session_bytes s)) (session_long r w ∙ sym (session_long s v)))

module _ (s : Session) (w : Fits s) (t : Terms) (table : List ℕ) where
  abbrev image : List ℕ
  image = image_of s t table

  -- what stands from 199 on, and what stands from 16 on
  abbrev keyed : List ℕ
  keyed = two_bytes (record_count table) ++ over table (replicate key_room 0)

  abbrev rest : List ℕ
  rest = terms_bytes t ++ keyed

  -- ---- the session

  challenges : (s.tchallenge ++ s.ichallenge) ++ rest ≡ s.tchallenge ++ (s.ichallenge ++ rest)
  challenges = append_assoc s.tchallenge s.ichallenge rest

  tchallenge_back : bytes_from image 2 10 ≡ s.tchallenge
  unfolding image_of
  tchallenge_back =
      sym (bytes_drop image 10 2)
      ∙ ap (λ (l : List ℕ). bytes_from l 0 10) challenges
      ∙ front s.tchallenge (s.ichallenge ++ rest) 10 w.tchallenge

  ichallenge_back : bytes_from image 12 4 ≡ s.ichallenge
  unfolding image_of
  ichallenge_back =
      sym (bytes_drop image 4 12)
      ∙ ap (λ (l : List ℕ). bytes_from l 0 4)
      (ap (drop 10) challenges ∙ drop_at s.tchallenge (s.ichallenge ++ rest) 10 w.tchallenge)
      ∙ front s.ichallenge rest 4 w.ichallenge

  pub session_back : session_in image ≡ s
  unfolding session_in image_of
  session_back = λ j. record {
    state = state_back s.state j;
    keyid = s.keyid;
    tchallenge = tchallenge_back j;
    ichallenge = ichallenge_back j;
  }

  module _ (h : Fitting t table) where
    -- ---- the terms, part by part

    abbrev f : List ℕ
    f = features_body t.features

    abbrev z : List ℕ
    z = sizes_body t.sizes

    abbrev b : List ℕ
    b = bodies slot_body t.profiles

    abbrev l : List ℕ
    l = bodies lock_body t.locks.table

    abbrev n : ℕ
    n = t.locks.count

    at_16 : drop 16 image ≡ f ++ ((z ++ (b ++ (n ∷ l))) ++ keyed)
    unfolding image_of
    at_16 = drop_at (session_bytes s) rest 16 (session_long s w) ∙ append_assoc f (z ++ (b ++ (n ∷ l))) keyed

    at_18 : drop 18 image ≡ z ++ ((b ++ (n ∷ l)) ++ keyed)
    at_18 = behind image f _ 16 2 (features_length t.features) at_16 ∙ append_assoc z (b ++ (n ∷ l)) keyed

    at_22 : drop 22 image ≡ b ++ ((n ∷ l) ++ keyed)
    at_22 = behind image z _ 18 4 (sizes_length t.sizes) at_18 ∙ append_assoc b (n ∷ l) keyed

    at_118 : drop 118 image ≡ (n ∷ []) ++ (l ++ keyed)
    at_118 = behind image b _ 22 96 (slots_length t h.profiles h.locks) at_22

    at_119 : drop 119 image ≡ l ++ keyed
    at_119 = behind image (n ∷ []) _ 118 1 refl at_118

    at_199 : drop 199 image ≡ two_bytes (record_count table) ++ over table (replicate key_room 0)
    at_199 = behind image l _ 119 80 (locks_length t h.profiles h.locks) at_119

    at_201 : drop 201 image ≡ over table (replicate key_room 0)
    at_201 = behind image (two_bytes (record_count table)) _ 199 2 refl at_199

    count_back : byte_at image 118 ≡ n
    count_back = sym (get_or-drop 118 image 0 0) ∙ ap (λ (x : List ℕ). get_or x 0 0) at_118

    profiles_back : said_in slot_in 6 profile_limit (drop 22 image) ≡ t.profiles
    profiles_back =
        ap₂ {C = List Slot} (said_in slot_in 6) (sym h.profiles) at_22
        ∙ said_back slot_in slot_body 6 (λ x. profile_length _ x.profile) slot_back t.profiles _

    locks_back : said_in lock_of 5 lock_limit (drop 119 image) ≡ t.locks.table
    locks_back =
        ap₂ (said_in lock_of 5) (sym h.locks) at_119
        ∙ said_back lock_of lock_body 5 lock_length lock_back t.locks.table keyed

    pub terms_back : terms_in image ≡ t
    unfolding terms_in
    terms_back = λ j. record {
      features = (ap features_of (there image f _ 16 2 (features_length t.features) at_16)
          ∙ features_back t.features) j;
      sizes = (ap sizes_of (there image z _ 18 4 (sizes_length t.sizes) at_18) ∙ sizes_back t.sizes) j;
      profiles = profiles_back j;
      locks = record { count = count_back j; table = locks_back j };
    }

    -- ---- the key table

    records_back : word_at image 199 ≡ record_count table
    records_back =
        ap₂ (λ (x y : ℕ). x * 256 + y)
        (sym (get_or-drop 199 image 0 0) ∙ ap (λ (x : List ℕ). get_or x 0 0) at_199)
        (sym (get_or-drop 199 image 1 0) ∙ ap (λ (x : List ℕ). get_or x 1 0) at_199)
        ∙ div-add-mod' (record_count table) 256

    pub table_back : table_in image ≡ table
    unfolding table_in
    table_back =
        ap₂ {C = List ℕ} (λ (k : ℕ) (x : List ℕ). take (37 * k) x) records_back at_201
        ∙ take_at table (drop (length table) (replicate key_room 0)) (37 * record_count table) h.whole

    -- ---- the tag

    pub tag_back : tag_in image ≡ record { terms = t; session = s }
    tag_back = λ j. record { terms = terms_back j; session = session_back j }

    pub is_tag_back : key_fits (keys_in table) s.state s.keyid ≡ true → is_tag image ≡ true
    unfolding is_tag image_of
    is_tag_back k =
        ap₂ both (state_small s.state)
        (ap₂ both (ap (λ (x : ℕ). leb x lock_limit) count_back ∙ le-leb n lock_limit h.count)
        (ap₂ both (ap (λ (x : ℕ). leb x key_limit) records_back ∙ le-leb (record_count table) key_limit h.few)
        (ap₂ both
        (ap₂ (λ (x : List ℕ) (r : Session). key_fits (keys_in x) r.state r.keyid) table_back session_back ∙ k)
        (ap rests session_back ∙ w.rest))))
