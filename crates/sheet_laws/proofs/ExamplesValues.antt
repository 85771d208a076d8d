-- Examples of the scope paper, by number and place: 01 or 02 again, values of keys against their rule, and the order of
-- locks, whatever follows.
use Rattle.std.specs.Prelude.{Err}
use mathlib.Core.Path.{◌≡◌, refl, ap, ◌∙◌}
use mathlib.Core.Bool.{true, false}
use mathlib.Core.List.{List, [], ◌∷◌, ◌++◌}
use Prim.Native.Nat.{ℕ, suc, ◌+◌, ◌*◌, ◌≤◌}
use native.Mathlib.Omega.{arith}
use native.Mathlib.Nat.{le_of_eq}
use lib.ListN.{length, take, drop, replicate, length-append}
use lib.Seq.{drop_at, take_all}
use lib.Dec.{leb}
use borrow.Author.Tests.{lt-leb}
use Rattle.octets.specs.Alike.{all_zero}
use Rattle.sheet.specs.Limits.{key_limit, lock_limit, word_limit}
use Rattle.sheet.specs.Kinds.{kind_of, in_order}
use Rattle.sheet.specs.Setups.{no_features, no_marks, nothing_gathered}
use Rattle.sheet.specs.Records.{words_in, inside, features_rule, key_rule, lock_rule}
use Rattle.sheet.specs.Judgement.{too_many, opened_of, record_of, judged_of, with_features, with_lock}
use Rattle.sheet.specs.Sheet.{walk, read_of, RefusedBy, Accepted, verdict_of}
use Rattle.sheet.specs.Writer.{features_body, sizes_body}
use Rattle.sheet.specs.declared.Kind.TheVariants.{FeatureRecord, KeyRecord, LockRecord}
use Rattle.sheet.specs.declared.SheetFault.TheVariants.{Order, Value}
use Rattle.sheet.specs.declared.Sizes.{Sizes}
use Rattle.sheet.specs.declared.Gathered.{Gathered}
use Rattle.sheet.proofs.Verdicts.{refused_told}
use Rattle.sheet.proofs.Walks.{walk_faulty}
use Rattle.sheet_laws.proofs.States.{marks_of, state}
use Rattle.sheet_laws.proofs.OneRecord.{go_on, stop_at, end_walk}
use Rattle.sheet_laws.proofs.RoundTrip.{opened}
use Rattle.sheet_laws.proofs.ExamplesFeatures.{both_false}

-- the two opening records, with 16 words in each area
abbrev pub opening : List ℕ → List ℕ
opening t = 0x01 ∷ 0x00 ∷ 0x00 ∷ 0x02 ∷ 0x00 ∷ 0x10 ∷ 0x00 ∷ 0x10 ∷ t

abbrev pub sixteen : Sizes
sixteen = record { identity = 16; user = 16 }

abbrev pub begun : Gathered
begun = state no_features sixteen (marks_of 2 0 0 0 0 0 0) [] []

pub behind_opening : (limit : ℕ) (t : List ℕ) → read_of limit (opening t) ≡ walk limit t 0 8 begun
unfolding features_body sizes_body no_features word_limit
behind_opening limit t = opened limit no_features sixteen t refl (omega arith) (omega arith)

-- 32: 01 again at once
pub again_at_once : (limit : ℕ) (t : List ℕ) → RefusedBy limit (0x01 ∷ 0x00 ∷ 0x00 ∷ 0x01 ∷ t) 32 3
unfolding read_of judged_of opened_of kind_of in_order too_many record_of nothing_gathered no_marks features_rule
    with_features
again_at_once limit t =
    let k = with_features nothing_gathered (0 ∷ 0 ∷ []) in
    refused_told limit (0x01 ∷ 0x00 ∷ 0x00 ∷ 0x01 ∷ t) Order 3
    (go_on limit 1 FeatureRecord (0 ∷ 0 ∷ []) (1 ∷ t) nothing_gathered k refl refl refl refl refl 0
    ∙ walk_faulty limit 3 k (1 ∷ t) Order refl)

-- 32: 01 or 02 again behind both
out_of_order : (limit b : ℕ) (t : List ℕ) → (judged_of limit (b ∷ t) begun).finding ≡ Err Order
    → RefusedBy limit (opening (b ∷ t)) 32 8
out_of_order limit b t e =
    refused_told limit (opening (b ∷ t)) Order 8
    (behind_opening limit (b ∷ t) ∙ walk_faulty limit 8 begun (b ∷ t) Order e)

pub features_again : (limit : ℕ) (t : List ℕ) → RefusedBy limit (opening (0x01 ∷ t)) 32 8
unfolding judged_of opened_of kind_of in_order
features_again limit t = out_of_order limit 0x01 t refl

pub sizes_again : (limit : ℕ) (t : List ℕ) → RefusedBy limit (opening (0x02 ∷ t)) 32 8
unfolding judged_of opened_of kind_of in_order
sizes_again limit t = out_of_order limit 0x02 t refl

-- 33 at 8: a key record whose body c is against its rule, the first of as many as there may be
key_refused : (limit : ℕ) (c t : List ℕ) → 1 ≤ limit → length c ≡ 36 → key_rule 0 c ≡ false
    → RefusedBy limit (opening (0x03 ∷ c ++ t)) 33 8
unfolding kind_of in_order too_many record_of
key_refused limit c t h l e =
    refused_told limit (opening (0x03 ∷ c ++ t)) Value 8
    (behind_opening limit (0x03 ∷ c ++ t)
    ∙ stop_at limit 3 KeyRecord c t begun refl refl (lt-leb limit 0 h) l 8 (rw e))

-- a MAC flag of 2 or above, whatever the keys are
pub mac_flag : (limit id mac : ℕ) (c t : List ℕ) → 1 ≤ limit → 2 ≤ mac → length c ≡ 34
    → RefusedBy limit (opening (0x03 ∷ id ∷ mac ∷ c ++ t)) 33 8
unfolding key_rule
mac_flag limit id mac c t h g l =
    key_refused limit (id ∷ mac ∷ c) t h (ap (λ (n : ℕ). suc (suc n)) l) (rw (lt-leb mac 1 g) (both_false (leb 0 id)))

-- a MAC_key that is not zeros where the flag says that there is none
pub absent_mac_key : (limit id x y : ℕ) (enc mackey t : List ℕ) → 1 ≤ limit → length enc ≡ 16 → length mackey ≡ 16
    → all_zero mackey ≡ false
    → RefusedBy limit (opening (0x03 ∷ id ∷ 0x00 ∷ x ∷ y ∷ (enc ++ mackey) ++ t)) 33 8
unfolding key_rule
absent_mac_key limit id x y enc mackey t h e m a =
    let long : length (enc ++ mackey) ≡ 32 = rw (length-append enc mackey) (omega arith) in
    let part : take 16 (drop 16 (enc ++ mackey)) ≡ mackey =
    ap (take 16) (drop_at enc mackey 16 e) ∙ take_all 16 mackey (le_of_eq m) in
    key_refused limit (id ∷ 0x00 ∷ x ∷ y ∷ enc ++ mackey) t h (ap (λ (n : ℕ). suc (suc (suc (suc n)))) long)
    (rw (part, a) (both_false (leb 0 id)))

-- both with 36 bytes of zeros but for one: the flag, and the last byte of MAC_key
pub mac_flag_2 : (t : List ℕ) → RefusedBy key_limit (opening (0x03 ∷ 0x00 ∷ 0x02 ∷ replicate 34 0 ++ t)) 33 8
unfolding key_limit
mac_flag_2 t = mac_flag 16 0 2 (replicate 34 0) t (omega arith) (omega arith) refl

pub mac_key_1 : (t : List ℕ)
    → RefusedBy key_limit (opening (0x03 ∷ 0x00 ∷ 0x00 ∷ replicate 33 0 ++ (0x01 ∷ t))) 33 8
unfolding key_limit all_zero
mac_key_1 t =
    absent_mac_key 16 0 0 0 (replicate 16 0) (replicate 15 0 ++ 0x01 ∷ []) t (omega arith) refl refl refl

-- a lock, in front of what follows; and its body
abbrev lock : ℕ → ℕ → ℕ → List ℕ → List ℕ
lock area first count t = 0x05 ∷ area ∷ 0x00 ∷ first ∷ 0x00 ∷ count ∷ t

abbrev lock_body_lem : ℕ → ℕ → ℕ → List ℕ
lock_body_lem area first count = area ∷ 0x00 ∷ first ∷ 0x00 ∷ count ∷ []

-- a lock that is taken, and a second one
module _ (limit a f c a' f' c' : ℕ) (first : lock_rule 0 0 sixteen (lock_body_lem a f c) ≡ true) where
  one_lock : Gathered
  one_lock = with_lock begun (lock_body_lem a f c)

  one_taken : (t : List ℕ) → walk limit (lock a f c t) 0 8 begun ≡ walk limit t 0 14 one_lock
  unfolding kind_of in_order too_many record_of lock_limit one_lock
  one_taken t = go_on limit 5 LockRecord (lock_body_lem a f c) t begun one_lock refl refl refl refl (rw first) 8

  -- against its rule, which has the end of the first: 33 at 14
  falls : (t : List ℕ) → lock_rule a (0 * 256 + f + (0 * 256 + c)) sixteen (lock_body_lem a' f' c') ≡ false
      → RefusedBy limit (opening (lock a f c (lock a' f' c' t))) 33 14
  unfolding kind_of in_order too_many record_of lock_limit one_lock with_lock
  falls t e =
      refused_told limit (opening (lock a f c (lock a' f' c' t))) Value 14
      (behind_opening limit (lock a f c (lock a' f' c' t))
      ∙ one_taken (lock a' f' c' t)
      ∙ stop_at limit 5 LockRecord (lock_body_lem a' f' c') t one_lock refl refl refl refl 14 (rw e))

  rises : lock_rule a (0 * 256 + f + (0 * 256 + c)) sixteen (lock_body_lem a' f' c') ≡ true
      → Accepted limit (opening (lock a f c (lock a' f' c' (0x06 ∷ []))))
  unfolding kind_of in_order too_many record_of lock_limit one_lock with_lock
  rises e =
      let k = with_lock one_lock (lock_body_lem a' f' c') in
      ap verdict_of
      (behind_opening limit (lock a f c (lock a' f' c' (0x06 ∷ [])))
      ∙ one_taken (lock a' f' c' (0x06 ∷ []))
      ∙ go_on limit 5 LockRecord (lock_body_lem a' f' c') (0x06 ∷ []) one_lock k refl refl refl refl (rw e) 14
      ∙ end_walk limit 20 k (omega arith) (omega arith))

-- words 0 and 1, then 1 and 2: the second starts before the end of the first
pub locks_overlap : (limit : ℕ) (t : List ℕ) → RefusedBy limit (opening (lock 0 0 2 (lock 0 1 2 t))) 33 14
unfolding lock_rule inside words_in
locks_overlap limit t = falls limit 0 0 2 0 1 2 refl t refl

-- word 4, then word 0 of one area
pub locks_fall : (limit : ℕ) (t : List ℕ) → RefusedBy limit (opening (lock 0 4 1 (lock 0 0 1 t))) 33 14
unfolding lock_rule inside words_in
locks_fall limit t = falls limit 0 4 1 0 0 1 refl t refl

-- area 1, then area 0
pub areas_fall : (limit : ℕ) (t : List ℕ) → RefusedBy limit (opening (lock 1 0 1 (lock 0 4 1 t))) 33 14
unfolding lock_rule inside words_in
areas_fall limit t = falls limit 1 0 1 0 4 1 refl t refl

-- words 0 and 1, then 2: at the end of the one before; and word 4 of area 0, then word 0 of area 1
pub locks_touch : (limit : ℕ) → Accepted limit (opening (lock 0 0 2 (lock 0 2 1 (0x06 ∷ []))))
unfolding lock_rule inside words_in
locks_touch limit = rises limit 0 0 2 0 2 1 refl refl

pub areas_rise : (limit : ℕ) → Accepted limit (opening (lock 0 4 1 (lock 1 0 1 (0x06 ∷ []))))
unfolding lock_rule inside words_in
areas_rise limit = rises limit 0 4 1 1 0 1 refl refl
