-- Accepted sheets and setups within the rules belong together one to one; and the keys of an accepted sheet, as the
-- walk meets them, are its key table's.
use Rattle.sheet.specs.declared.SheetRefusal.{SheetRefusal}
use Rattle.std.specs.Prelude.{Result}
use mathlib.Core.Path.{◌≡◌, refl, sym, ap, subst, ◌∙◌}
use mathlib.Core.Bool.{true}
use mathlib.Core.List.{List, [], ◌∷◌, ◌++◌, append_assoc, append-nil}
use Prim.Native.Nat.{ℕ, zero, suc, ◌+◌, ◌-◌, ◌≤◌}
use native.Mathlib.Omega.{arith}
use native.Mathlib.Nat.{le_of_suc-le-suc, not-suc-le-zero}
use lib.ListN.{length, take, drop, replicate, length-append, length-replicate, take-append-drop}
use lib.Seq.{take-append_seam, drop-append_seam}
use Rattle.ground.specs.Bytes.{Bytes}
use Rattle.sheet.specs.Limits.{profile_limit, lock_limit}
use Rattle.sheet.specs.Kinds.{kind_of, body_length, length_behind, in_order}
use Rattle.sheet.specs.KeyTable.{keys_in, key_table}
use Rattle.sheet.specs.Setups.{Setup, no_slot, no_lock, no_marks, nothing_gathered}
use Rattle.sheet.specs.Judgement.{judged_of, opened_of, too_many, record_of, with_features}
use Rattle.sheet.specs.Sheet.{Accepted, read_of, said_of, keys_read, terms_read}
use Rattle.sheet.specs.KeysMet.{key_said, met_from, keys_met}
use Rattle.sheet.specs.Writer.{features_body, sizes_body, keys_written, profiles_written, locks_written, written}
use Rattle.sheet.specs.Within.{Table, Within}
use Rattle.sheet.specs.declared.Key.{Key}
use Rattle.sheet.specs.declared.Slot.{Slot}
use Rattle.sheet.specs.declared.Terms.{Terms}
use Rattle.sheet.specs.declared.Reading.{Reading}
use Rattle.sheet.specs.declared.Gathered.{Gathered}
use Rattle.sheet_laws.proofs.Tables.{filled}
use Rattle.sheet.proofs.Back.{features_length, sizes_length}
use Rattle.sheet.proofs.KeyTables.{keys_back, table_back}
use Rattle.sheet_laws.proofs.Lists.{slots_join, slots_absent, written_absent, written_join}
use Rattle.sheet.proofs.Walks.{Step}
use Rattle.sheet_laws.proofs.Runs.{Run, run}
use Rattle.sheet_laws.proofs.Sound.{Sound, none, first, more, opening}
use Rattle.sheet_laws.proofs.Canonical.{sound_step}

-- a table that was filled from the front
module _ {A : Type 0} (z : A) (limit : ℕ) (xs : List A) (few : length xs ≤ limit) where
  filled_length : length (filled z limit xs) ≡ limit
  filled_length =
      rw (length-append xs (replicate (limit - length xs) z), length-replicate (limit - length xs) z) (omega arith)

  filled_table : Table z limit (length xs) (filled z limit xs)
  filled_table = record {
    few = few;
    all = filled_length;
    unused = drop-append_seam xs (replicate (limit - length xs) z);
  }

  filled_used : take (length xs) (filled z limit xs) ≡ xs
  filled_used = take-append_seam xs (replicate (limit - length xs) z)

slots_written : (ss : List Slot) → profiles_written 0 (filled no_slot profile_limit ss) ≡ profiles_written 0 ss
slots_written ss =
    let d = profile_limit - length ss in
    written_join 0 ss (replicate d no_slot)
    ∙ ap (λ (l : List ℕ). profiles_written 0 ss ++ l) (written_absent (0 + length ss) d)
    ∙ append-nil (profiles_written 0 ss)

glue_end : (a b k p l e : List ℕ) → a ++ (b ++ (k ++ (p ++ (l ++ e)))) ≡ ((a ++ b) ++ (k ++ (p ++ l))) ++ e
glue_end a b k p l e = simp append_assoc

-- the setup of these terms and these keys
abbrev setup_with : Terms → List Key → Setup
setup_with t ks = record {
  features = t.features;
  sizes = t.sizes;
  keys = ks;
  profiles = t.profiles;
  locks = t.locks;
}

-- what stands behind bytes that were read
rest_of : (c : List ℕ) (b : ℕ) (t : List ℕ) (n : ℕ) (r : List ℕ) → (c ++ take n (b ∷ t)) ++ r ≡ c ++ (b ∷ t)
    → r ≡ drop n (b ∷ t)
rest_of c b t n r e =
    let d = c ++ take n (b ∷ t) in
    let whole : c ++ (b ∷ t) ≡ d ++ drop n (b ∷ t) =
    ap (λ (l : List ℕ). c ++ l) (sym (take-append-drop n (b ∷ t))) ∙ sym (append_assoc c (take n (b ∷ t)) _) in
    sym (drop-append_seam d r) ∙ ap (drop (length d)) (e ∙ whole) ∙ drop-append_seam d (drop n (b ∷ t))

module _ (limit : ℕ) where
  finish : (c : List ℕ) (k : Gathered) (ks : List Key) → Sound limit c k ks → in_order k.marks.last 6 ≡ true
      → Within limit (setup_with k.terms ks) × (written (setup_with k.terms ks) ≡ c ++ (6 ∷ []))
  unfolding in_order nothing_gathered no_marks with_features written
  finish c k ks none o = let z : ◌≡◌ {A = ℕ} 0 1 = cc in absurd (omega arith)
  finish c k ks (first f h) o = let z : ◌≡◌ {A = ℕ} 0 1 = cc in absurd (omega arith)
  finish c k _ (more f z m ks ss ls w) o = (
    record {
      iam3 = w.iam3;
      identity = w.identity;
      user = w.user;
      few = w.key_few;
      keys = w.keys;
      slots = filled_length no_slot profile_limit ss w.slot_few;
      profiles =
          let d = profile_limit - length ss in
          slots_join z ss (replicate d no_slot) w.slots (slots_absent z d);
      lock_table = filled_table no_lock lock_limit ls w.lock_few;
      locks = rw (filled_used no_lock lock_limit ls w.lock_few) w.locks;
    },
    rw (filled_used no_lock lock_limit ls w.lock_few, slots_written ss)
        (glue_end (1 ∷ features_body f) (2 ∷ sizes_body z) (keys_written ks) (profiles_written 0 ss) (locks_written ls)
        (6 ∷ [])),
  )

  -- the keys stand in the key table
  stand : (c : List ℕ) (k : Gathered) (ks : List Key) → Sound limit c k ks → in_order k.marks.last 6 ≡ true
      → keys_in (key_table (c ++ (6 ∷ [])) k.marks.keys) ≡ ks
  unfolding in_order nothing_gathered no_marks with_features
  stand c k ks none o = let z : ◌≡◌ {A = ℕ} 0 1 = cc in absurd (omega arith)
  stand c k ks (first f h) o = let z : ◌≡◌ {A = ℕ} 0 1 = cc in absurd (omega arith)
  stand c k _ (more f z m ks ss ls w) o =
      let o = opening f z in
      let r = profiles_written 0 ss ++ locks_written ls in
      let a = keys_written ks in
      let glue : (o ++ (a ++ r)) ++ (6 ∷ []) ≡ o ++ (a ++ (r ++ (6 ∷ []))) = simp append_assoc in
      let long : length o ≡ 8 =
      rw (length-append (1 ∷ features_body f) (2 ∷ sizes_body z)) (omega (arith, features_length f, sizes_length z)) in
      rw (w.key_count, glue, table_back 0 ks o (r ++ (6 ∷ [])) w.keys long) (keys_back 0 ks w.keys)

  -- bodies are passed as in the walk
  met_pass : (n : ℕ) (t : List ℕ) (k : Gathered) → n ≤ length t → met_from limit t n k ≡ met_from limit (drop n t) 0 k
  unfolding met_from
  met_pass zero t k h = refl
  met_pass (suc n) [] k h = absurd (not-suc-le-zero h)
  met_pass (suc n) (b ∷ t) k h = met_pass n t k (le_of_suc-le-suc h)

  met_step : (b : ℕ) (t : List ℕ) (k k' : Gathered) (n : ℕ) → Step limit b t k k' n
      → met_from limit (b ∷ t) 0 k
      ≡ key_said (kind_of b) (take (length_behind (kind_of b)) t) ++ met_from limit (drop n (b ∷ t)) 0 k'
  unfolding met_from
  met_step b t k k' n p =
      rw (p.judged, p.size, p.passed_checks.known, met_pass (body_length p.kind) t k' p.passed_checks.whole)

  -- of the bytes read so far: what is gathered of them, the keys they say, and that the walk met just these
  record Sofar (s c : List ℕ) (k : Gathered) : Type 0 where
    keys : List Key
    sound : Sound limit c k keys
    met : (r : List ℕ) → c ++ r ≡ s → keys_met limit s ≡ keys ++ met_from limit r 0 k

  begun : (s : List ℕ) → Sofar s [] nothing_gathered
  unfolding keys_met
  begun s = record {
    keys = [];
    sound = none;
    met = λ r e. ap (λ (l : List ℕ). met_from limit l 0 nothing_gathered)
        (sym e);
  }

  further : (s : List ℕ) → Bytes s → (c : List ℕ) (b : ℕ) (t : List ℕ) (k k' : Gathered) (n : ℕ) → c ++ (b ∷ t) ≡ s
      → Step limit b t k k' n → Sofar s c k → Sofar s (c ++ take n (b ∷ t)) k'
  further s y c b t k k' n e p h =
      let said = key_said (kind_of b) (take (length_behind (kind_of b)) t) in
      record {
        keys = h.keys ++ said;
        sound = sound_step limit s y c b t k k' n h.keys e p h.sound;
        met = λ r g.
            let i : r ≡ drop n (b ∷ t) = rest_of c b t n r (g ∙ sym e) in
            h.met (b ∷ t) e ∙ ap (λ (l : List Key). h.keys ++ l) (met_step b t k k' n p)
            ∙ sym (append_assoc h.keys said (met_from limit (drop n (b ∷ t)) 0 k'))
            ∙ ap (λ (l : List ℕ). (h.keys ++ said) ++ met_from limit l 0 k') (sym i);
      }

  -- the end record says no key
  met_end : (k : Gathered) → in_order k.marks.last 6 ≡ true → met_from limit (6 ∷ []) 0 k ≡ []
  unfolding met_from judged_of opened_of kind_of too_many record_of
  met_end k o = rw o

  module _ (s : List ℕ) (y : Bytes s) (e : Accepted limit s) where
    ran : Run limit s (Sofar s) (further s y) (read_of limit s)
    ran = run limit s (Sofar s) (further s y) (begun s) e

    abbrev keys_of : List Key
    keys_of = ran.holds.keys

    table_keys : keys_in (key_table s (keys_read (read_of limit s))) ≡ keys_of
    table_keys =
        ap (λ (r : Result Reading SheetRefusal). keys_in (key_table s (keys_read r))) ran.says
        ∙ ap (λ (l : List ℕ). keys_in (key_table l ran.gathered.marks.keys)) (sym ran.sheet)
        ∙ stand ran.bytes ran.gathered keys_of ran.holds.sound ran.ordered

    said : said_of limit s ≡ setup_with ran.gathered.terms keys_of
    unfolding said_of
    said = λ i. setup_with (terms_read (ran.says i)) (table_keys i)

    -- an accepted sheet says a setup within the rules, and is what is written of it
    pub accepted : Within limit (said_of limit s) × (written (said_of limit s) ≡ s)
    accepted =
        let h = finish ran.bytes ran.gathered keys_of ran.holds.sound ran.ordered in
        (subst (Within limit) (sym said) h.0, ap written said ∙ h.1 ∙ ran.sheet)

    -- The key records stand together where `key_table` takes them: the keys that the walk meets one by one are its
    -- keys.
    pub keys_stand : keys_met limit s ≡ keys_in (key_table s (keys_read (read_of limit s)))
    keys_stand =
        ran.holds.met (6 ∷ []) ran.sheet
        ∙ ap (λ (l : List Key). keys_of ++ l) (met_end ran.gathered ran.ordered)
        ∙ append-nil keys_of
        ∙ sym table_keys
