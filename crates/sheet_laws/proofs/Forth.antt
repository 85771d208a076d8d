-- Each body that its rule takes is what is written of what it says, and what it says is within the rules.
use mathlib.Core.Path.{◌≡◌, refl, sym, ap, ap₂, ◌∙◌}
use mathlib.Core.Bool.{Bool, true, false}
use mathlib.Core.List.{List, [], ◌∷◌, ◌++◌, append-nil}
use Prim.Native.Nat.{ℕ, zero, suc, ◌+◌, ◌/◌, ◌%◌, ◌^◌, ◌≤◌}
use native.Mathlib.Omega.{arith}
use native.Mathlib.Nat.{le_of_eq, le_of_suc-le-suc, not-suc-le-zero}
use lib.ListN.{length, take, drop, replicate, length-take, length-drop, take-append-drop, drop_of_length-le}
use lib.Seq.{take_all, drop-drop}
use lib.Dec.{eqb, leb, ltb}
use borrow.Author.Tests.{leb-true, ltb-true, eqb-false, eq-eqb}
use Rattle.memory.specs.Address.{area_number}
use Rattle.ground.specs.Choice.{both, implies}
use Rattle.ground.specs.Bytes.{Bytes, byte_at, word_at, flag}
use Rattle.ground.proofs.Bytes.{bytes_take, bytes_drop}
use Rattle.ground.proofs.Choice.{both_true}
use Rattle.octets.specs.Alike.{all_zero}
use Rattle.octets.proofs.AllZero.{zeros_only}
use Rattle.sheet.specs.Limits.{profile_limit, word_limit}
use Rattle.sheet.specs.Records.{feature, area_of, inside, features_rule, features_of, sizes_rule, sizes_of}
use Rattle.sheet.specs.Records.{key_rule, key_of, profile_rule, slot_of, lock_rule, lock_of}
use Rattle.sheet.specs.Writer.{area_byte, features_body, sizes_body, key_body, profile_body, lock_body}
use Rattle.sheet.specs.Within.{KeyFine, LockFine}
use Rattle.sheet.specs.declared.Sizes.{Sizes}
use Rattle.sheet.proofs.Bits.{tab, bit_forth, bits_forth, high, low}

-- a list by its first n elements
spelt : (n : ℕ) (b : List ℕ) → n ≤ length b → b ≡ tab (byte_at b) n ++ drop n b
spelt zero b h = refl
spelt (suc n) [] h = absurd (not-suc-le-zero h)
spelt (suc n) (x ∷ b) h = ap (λ (l : List ℕ). x ∷ l) (spelt n b (le_of_suc-le-suc h))

whole_list : (n : ℕ) (b : List ℕ) → length b ≡ n → tab (byte_at b) n ≡ b
whole_list n b h =
    let none = drop_of_length-le b {i = n} (le_of_eq h) in
    sym (append-nil (tab (byte_at b) n))
    ∙ ap (λ (l : List ℕ). tab (byte_at b) n ++ l) (sym none)
    ∙ sym (spelt n b (le_of_eq (sym h)))

-- 01
module _ (b : List ℕ) (long : length b ≡ 2) (fine : features_rule b ≡ true) where
  abbrev low_4 : Bool
  low_4 = ltb (byte_at b 1) (2 ^ 4)

  abbrev iam_3 : Bool
  iam_3 = implies (feature 4 (byte_at b 0)) (feature 3 (byte_at b 0))

  rule_01 : (ltb (byte_at b 0) (2 ^ 6) ≡ true) × (both low_4 iam_3 ≡ true)
  unfolding features_rule
  rule_01 = both_true (ltb (byte_at b 0) (2 ^ 6)) (both low_4 iam_3) fine

  pub features_iam : implies (features_of b).iam3 (features_of b).iam ≡ true
  unfolding features_of
  features_iam = (both_true low_4 iam_3 rule_01.1).1

  pub features_forth : features_body (features_of b) ≡ b
  unfolding features_body features_of
  features_forth =
      let h = ltb-true (byte_at b 0) (2 ^ 6) rule_01.0 in
      let l = ltb-true (byte_at b 1) (2 ^ 4) (both_true low_4 iam_3 rule_01.1).0 in
      ap₂ (λ (x y : ℕ). x ∷ y ∷ []) (bits_forth 6 (byte_at b 0) h) (bits_forth 4 (byte_at b 1) l) ∙ whole_list 2 b long

-- the number of two bytes, in two bytes
module _ (b : List ℕ) (bytes : Bytes b) (i : ℕ) where
  high_at : word_at b i / 256 ≡ byte_at b i
  high_at = high (byte_at b i) (byte_at b (i + 1)) (bytes (i + 1))

  low_at : word_at b i % 256 ≡ byte_at b (i + 1)
  low_at = low (byte_at b i) (byte_at b (i + 1)) (bytes (i + 1))

-- 02
module _ (b : List ℕ) (bytes : Bytes b) (long : length b ≡ 4) (fine : sizes_rule b ≡ true) where
  pub sizes_low : ((sizes_of b).identity ≤ word_limit) × ((sizes_of b).user ≤ word_limit)
  unfolding sizes_rule sizes_of
  sizes_low =
      let h = both_true (leb (word_at b 0) word_limit) (leb (word_at b 2) word_limit) fine in
      (leb-true (word_at b 0) word_limit h.0, leb-true (word_at b 2) word_limit h.1)

  pub sizes_forth : sizes_body (sizes_of b) ≡ b
  unfolding sizes_body sizes_of
  sizes_forth = rw (high_at b bytes 0, low_at b bytes 0, high_at b bytes 2, low_at b bytes 2) (whole_list 4 b long)

area_forth : (a : ℕ) → a ≤ 1 → area_byte (area_of a) ≡ a
unfolding area_of area_number
area_forth zero h = refl
area_forth (suc zero) h = refl
area_forth (suc (suc a)) h = absurd (omega arith)

inside_area : (z : Sizes) (a first count : ℕ) → inside z a first count ≡ true → a ≤ 1
unfolding inside
inside_area z a first count e = leb-true a 1 (both_true _ _ e).0

-- 03
module _ (id : ℕ) (b : List ℕ) (bytes : Bytes b) (long : length b ≡ 36) (fine : key_rule id b ≡ true) where
  abbrev mac_fits_lem : Bool
  mac_fits_lem = leb (byte_at b 1) 1

  abbrev none_or_zero : Bool
  none_or_zero = implies (eqb (byte_at b 1) 0) (all_zero (take 16 (drop 20 b)))

  rule_03 : (leb id (byte_at b 0) ≡ true) × (both mac_fits_lem none_or_zero ≡ true)
  unfolding key_rule
  rule_03 = both_true (leb id (byte_at b 0)) (both mac_fits_lem none_or_zero) fine

  pub key_rises : id ≤ (key_of b).id
  unfolding key_of
  key_rises = leb-true id (byte_at b 0) rule_03.0

  mac_low : byte_at b 1 ≤ 1
  mac_low = leb-true (byte_at b 1) 1 (both_true mac_fits_lem none_or_zero rule_03.1).0

  part : (n : ℕ) → n + 16 ≤ 36 → length (take 16 (drop n b)) ≡ 16
  part n h = simp (length-take, length-drop) (omega arith)

  key_absent : flag (byte_at b 1) ≡ false → take 16 (drop 20 b) ≡ replicate 16 0
  key_absent e =
      let n = eqb-false (byte_at b 1) 1 e in
      let z : byte_at b 1 ≡ 0 = omega (arith, mac_low) in
      let h : none_or_zero ≡ true = (both_true mac_fits_lem none_or_zero rule_03.1).1 in
      zeros_only (take 16 (drop 20 b)) (rw (eq-eqb (byte_at b 1) 0 z) at h)
      ∙ ap (λ (m : ℕ). replicate m 0) (part 20 (omega arith))

  pub key_within : KeyFine (key_of b)
  unfolding key_of
  key_within = record {
    id = bytes 0;
    mpi = (let h = bytes 2 in let l = bytes 3 in omega arith);
    enc = record { sixteen = part 4 (omega arith); bytes = bytes_take 16 (drop 4 b) (bytes_drop 4 b bytes) };
    mackey = record { sixteen = part 20 (omega arith); bytes = bytes_take 16 (drop 20 b) (bytes_drop 20 b bytes) };
    absent = key_absent;
  }

  keys_32 : take 16 (drop 4 b) ++ take 16 (drop 20 b) ≡ drop 4 b
  keys_32 =
      let l : length (drop 20 b) ≤ 16 = simp length-drop (omega arith) in
      rw (take_all 16 (drop 20 b) l, ← drop-drop 16 4 b) (take-append-drop 16 (drop 4 b))

  pub key_forth : key_body (key_of b) ≡ b
  unfolding key_body key_of
  key_forth =
      rw (high_at b bytes 2, low_at b bytes 2, bit_forth (byte_at b 1) (omega (arith, mac_low)), keys_32)
      (sym (spelt 4 b (omega arith)))

-- 04
module _ (number : ℕ) (z : Sizes) (b : List ℕ) (bytes : Bytes b) (long : length b ≡ 6)
    (fine : profile_rule number z b ≡ true) where
  abbrev number_fits : Bool
  number_fits = ltb (byte_at b 0) profile_limit

  abbrev inside_04 : Bool
  inside_04 = inside z (byte_at b 1) (word_at b 2) (word_at b 4)

  rule_04 : (leb number (byte_at b 0) ≡ true) × (both number_fits inside_04 ≡ true)
  unfolding profile_rule
  rule_04 = both_true (leb number (byte_at b 0)) (both number_fits inside_04) fine

  pub profile_rises : number ≤ byte_at b 0
  profile_rises = leb-true number (byte_at b 0) rule_04.0

  is_inside_04 : inside_04 ≡ true
  is_inside_04 = (both_true number_fits inside_04 rule_04.1).1

  area_04 : area_byte (area_of (byte_at b 1)) ≡ byte_at b 1
  area_04 = area_forth (byte_at b 1) (inside_area z (byte_at b 1) (word_at b 2) (word_at b 4) is_inside_04)

  pub profile_within : ((slot_of b).present ≡ true)
      × (inside z (area_byte (slot_of b).profile.area) (slot_of b).profile.base.0 (slot_of b).profile.words ≡ true)
  unfolding slot_of
  profile_within = (refl, rw area_04 is_inside_04)

  pub profile_forth : profile_body (byte_at b 0) (slot_of b).profile ≡ b
  unfolding profile_body slot_of
  profile_forth =
      rw (area_04, high_at b bytes 2, low_at b bytes 2, high_at b bytes 4, low_at b bytes 4) (whole_list 6 b long)

-- 05
module _ (area word : ℕ) (z : Sizes) (b : List ℕ) (bytes : Bytes b) (long : length b ≡ 5)
    (fine : lock_rule area word z b ≡ true) where
  abbrev inside_05 : Bool
  inside_05 = inside z (byte_at b 0) (word_at b 1) (word_at b 3)

  abbrev area_fits : Bool
  area_fits = leb area (byte_at b 0)

  abbrev start_fits : Bool
  start_fits = implies (eqb (byte_at b 0) area) (leb word (word_at b 1))

  rule_05 : (inside_05 ≡ true) × (both area_fits start_fits ≡ true)
  unfolding lock_rule
  rule_05 = both_true inside_05 (both area_fits start_fits) fine

  pub area_05 : area_byte (area_of (byte_at b 0)) ≡ byte_at b 0
  area_05 = area_forth (byte_at b 0) (inside_area z (byte_at b 0) (word_at b 1) (word_at b 3) rule_05.0)

  pub lock_within : LockFine area word z (lock_of b)
  unfolding lock_of
  lock_within =
      let h = both_true area_fits start_fits rule_05.1 in
      record {
        within = rw area_05 rule_05.0;
        rises = rw area_05 (leb-true area (byte_at b 0) h.0);
        after = λ e. leb-true word (word_at b 1) (rw (eq-eqb (byte_at b 0) area (sym area_05 ∙ e)) at h.1);
      }

  pub lock_forth : lock_body (lock_of b) ≡ b
  unfolding lock_body lock_of
  lock_forth =
      rw (area_05, high_at b bytes 1, low_at b bytes 1, high_at b bytes 3, low_at b bytes 3) (whole_list 5 b long)
