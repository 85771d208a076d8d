-- Examples of the scope paper at the edges of a sheet, by computation; at any limit of key records where none stands in
-- them.
use Rattle.sheet.specs.declared.SheetRefusal.{SheetRefusal}
use Rattle.std.specs.Prelude.{Result}
use mathlib.Core.Path.{◌≡◌, refl, sym, ap, ◌∙◌}
use mathlib.Core.Bool.{true, false}
use mathlib.Core.List.{List, [], ◌∷◌, ◌++◌}
use Prim.Native.Nat.{ℕ, zero, suc, ◌+◌, ◌*◌, ◌≤◌, ◌<◌}
use native.Mathlib.Omega.{arith}
use native.Mathlib.Nat.{le_refl}
use lib.ListN.{length, set, replicate}
use Rattle.memory.specs.declared.Area.TheVariants.{Identity, User}
use Rattle.ground.specs.Bytes.{Bytes}
use Rattle.octets.specs.Alike.{all_zero}
use Rattle.sheet.specs.Limits.{key_limit, profile_limit, lock_limit, word_limit}
use Rattle.sheet.specs.Kinds.{kind_of, in_order}
use Rattle.sheet.specs.KeyTable.{records_in, keys_in, key_table}
use Rattle.sheet.specs.Setups.{setup_of, no_features, no_slot, no_lock, empty_terms, empty_setup, no_marks}
use Rattle.sheet.specs.Setups.{nothing_gathered}
use Rattle.sheet.specs.Records.{area_of, words_in, inside, features_rule, features_of, sizes_rule, sizes_of}
use Rattle.sheet.specs.Records.{key_rule, key_of, profile_rule, slot_of, lock_rule, lock_of}
use Rattle.sheet.specs.Judgement.{too_many, opened_of, record_of, judged_of}
use Rattle.sheet.specs.Judgement.{with_features, with_sizes, with_key, with_profile, with_lock}
use Rattle.sheet.specs.Sheet.{after, walk, read_of, said_of, whole, refused_at, verdict_of, terms_read, keys_read}
use Rattle.sheet.specs.Sheet.{verdict_number, read_number, RefusedBy}
use Rattle.sheet.specs.declared.SheetFault.TheVariants.{Cut, Unknown, Order, Value, Many, Tail}
use Rattle.sheet.specs.declared.Key.{Key}
use Rattle.sheet.specs.declared.Sizes.{Sizes}
use Rattle.sheet.specs.declared.Terms.{Terms}
use Rattle.sheet.specs.declared.Reading.{Reading}
use Rattle.sheet.specs.Writer.{features_body, sizes_body, key_body, keys_written}
use Rattle.sheet.specs.Within.{Key16, KeyFine, KeysRise}
use Rattle.sheet.proofs.Verdicts.{refused_told}
use Rattle.sheet.proofs.Bits.{tab}
use Rattle.sheet_laws.proofs.RoundTrip.{many_keys}

zeros_bytes : (n : ℕ) → Bytes (replicate n 0)
zeros_bytes zero i = omega arith
zeros_bytes (suc n) zero = omega arith
zeros_bytes (suc n) (suc i) = zeros_bytes n i

-- example (11): accepted, and it says nothing but two empty areas
abbrev pub smallest : List ℕ
smallest = 0x01 ∷ 0x00 ∷ 0x00 ∷ 0x02 ∷ 0x00 ∷ 0x00 ∷ 0x00 ∷ 0x00 ∷ 0x06 ∷ []

pub example_11 : (limit : ℕ) → read_of limit smallest ≡ whole empty_terms 0
unfolding read_of walk after judged_of opened_of too_many kind_of in_order record_of with_features with_sizes
    features_rule features_of sizes_rule sizes_of word_limit nothing_gathered no_marks empty_terms no_features
example_11 limit = refl

-- example (12): the empty sheet is 30 at 0
pub example_12 : (limit : ℕ) → read_of limit [] ≡ refused_at Cut 0
unfolding read_of walk
example_12 limit = refl

-- example (13): a sheet that starts 02 is 32 at 0, whatever follows
pub example_13 : (limit : ℕ) (t : List ℕ) → read_of limit (0x02 ∷ t) ≡ refused_at Order 0
unfolding read_of walk after judged_of opened_of too_many kind_of in_order nothing_gathered no_marks
example_13 limit t = refl

-- and what it says is the empty setup
pub said_11 : (limit : ℕ) → said_of limit smallest ≡ empty_setup
unfolding said_of key_table empty_setup
said_11 limit =
    ap (λ (r : Result Reading SheetRefusal). setup_of (terms_read r) (key_table smallest (keys_read r)))
    (example_11 limit)

-- the same three by number and place
pub number_11 : (limit : ℕ) → read_number limit smallest ≡ 0
unfolding read_number
number_11 limit = ap (λ (r : Result Reading SheetRefusal). verdict_number (verdict_of r)) (example_11 limit)

pub number_12 : (limit : ℕ) → RefusedBy limit [] 30 0
number_12 limit = refused_told limit [] Cut 0 (example_12 limit)

pub number_13 : (limit : ℕ) (t : List ℕ) → RefusedBy limit (0x02 ∷ t) 32 0
number_13 limit t = refused_told limit (0x02 ∷ t) Order 0 (example_13 limit t)

-- 01 00 is 30 at 0
pub cut_first : (limit : ℕ) → read_of limit (0x01 ∷ 0x00 ∷ []) ≡ refused_at Cut 0
unfolding read_of walk after judged_of opened_of too_many kind_of in_order nothing_gathered no_marks
cut_first limit = refl

-- 01 00 00 is 30 at 3
pub cut_second : (limit : ℕ) → read_of limit (0x01 ∷ 0x00 ∷ 0x00 ∷ []) ≡ refused_at Cut 3
unfolding read_of walk after judged_of opened_of too_many kind_of in_order record_of with_features features_rule
    features_of nothing_gathered no_marks empty_terms
cut_second limit = refl

-- a first byte 00 or 07 is 31 at 0
pub unknown_0 : (limit : ℕ) (t : List ℕ) → read_of limit (0x00 ∷ t) ≡ refused_at Unknown 0
unfolding read_of walk after judged_of opened_of kind_of nothing_gathered no_marks
unknown_0 limit t = refl

pub unknown_7 : (limit : ℕ) (t : List ℕ) → read_of limit (0x07 ∷ t) ≡ refused_at Unknown 0
unfolding read_of walk after judged_of opened_of kind_of nothing_gathered no_marks
unknown_7 limit t = refl

-- 01 00 00 06 is 32 at 3: 02 is not second
pub end_second : (limit : ℕ) → read_of limit (0x01 ∷ 0x00 ∷ 0x00 ∷ 0x06 ∷ []) ≡ refused_at Order 3
unfolding read_of walk after judged_of opened_of too_many kind_of in_order record_of with_features features_rule
    features_of nothing_gathered no_marks empty_terms
end_second limit = refl

-- a byte behind the end record of example (11) is 35 at its place
pub tail : (limit : ℕ) → read_of limit (smallest ++ 0x06 ∷ []) ≡ refused_at Tail 9
unfolding read_of walk after judged_of opened_of too_many kind_of in_order record_of with_features with_sizes
    features_rule features_of sizes_rule sizes_of word_limit nothing_gathered no_marks empty_terms no_features
tail limit = refl

-- one record of each kind: key 05 with a MAC key, profile 2 of area 1, a lock in area 1
pub keyed : Key
keyed = record { id = 5; mac = true; mpi = 258; enc = tab (λ (i : ℕ). i) 16; mackey = tab (λ (i : ℕ). 16 + i) 16 }

abbrev one_of_each : List ℕ
one_of_each =
    0x01 ∷ 0x3D ∷ 0x0F
    ∷ 0x02 ∷ 0x00 ∷ 0x40 ∷ 0x04 ∷ 0x00
    ∷ 0x03 ∷ 0x05 ∷ 0x01 ∷ 0x01 ∷ 0x02 ∷ tab (λ (i : ℕ). i) 16 ++ tab (λ (i : ℕ). 16 + i) 16
    ++ (0x04 ∷ 0x02 ∷ 0x01 ∷ 0x00 ∷ 0x20 ∷ 0x00 ∷ 0x18
    ∷ 0x05 ∷ 0x01 ∷ 0x00 ∷ 0x03 ∷ 0x00 ∷ 0x04
    ∷ 0x06 ∷ [])

abbrev each_terms : Terms
each_terms = record {
  features = record {
    blocksize1 = true;
    rev0 = false;
    rev1 = true;
    iam = true;
    iam3 = true;
    mam = true;
    mode0 = true;
    mode1 = true;
    mode2 = true;
    mode3 = true;
  };
  sizes = record { identity = 64; user = 1024 };
  profiles = set (replicate profile_limit no_slot) 2
      (record { present = true; profile = record { area = User; base = record { 0 = 32 }; words = 24 } });
  locks = record {
    count = 1;
    table = set (replicate lock_limit no_lock) 0 (record { area = User; first = record { 0 = 3 }; words = 4 });
  };
}

pub each_kind : read_of key_limit one_of_each ≡ whole each_terms 1
unfolding read_of walk after judged_of opened_of too_many kind_of in_order record_of with_features with_sizes with_key
    with_profile with_lock features_rule features_of sizes_rule sizes_of key_rule key_of profile_rule slot_of lock_rule
    lock_of inside words_in area_of all_zero word_limit key_limit profile_limit lock_limit nothing_gathered no_marks
    empty_terms keyed
each_kind = refl

-- its key stands in its key table
pub each_key : keys_in (key_table one_of_each 1) ≡ keyed ∷ []
unfolding key_table keys_in records_in key_of keyed
each_key = refl

-- key records from KeyID n on, m of them, without a MAC key
pub keys_from : ℕ → ℕ → List ℕ → List ℕ
keys_from n zero t = t
keys_from n (suc m) t = 0x03 ∷ n ∷ replicate 35 0 ++ keys_from (n + 1) m t

plain : ℕ → Key
plain n = record { id = n; mac = false; mpi = 0; enc = replicate 16 0; mackey = replicate 16 0 }

pub numbered : ℕ → ℕ → List Key
numbered n zero = []
numbered n (suc m) = plain n ∷ numbered (n + 1) m

pub numbered_length : (n m : ℕ) → length (numbered n m) ≡ m
unfolding numbered
numbered_length n zero = refl
numbered_length n (suc m) = ap suc (numbered_length (n + 1) m)

plain_fine : (n : ℕ) → n < 256 → KeyFine (plain n)
unfolding plain
plain_fine n h =
    let z : Key16 (replicate 16 0) = record { sixteen = refl; bytes = zeros_bytes 16 } in
    record { id = h; mpi = omega arith; enc = z; mackey = z; absent = λ e. refl }

pub numbered_rise : (n m : ℕ) → n + m ≤ 256 → KeysRise n (numbered n m)
unfolding numbered plain
numbered_rise n zero h = tt
numbered_rise n (suc m) h =
    (le_refl n, plain_fine n (omega arith), numbered_rise (n + 1) m (omega arith))

numbered_written : (n m : ℕ) (t : List ℕ) → keys_written (numbered n m) ++ t ≡ keys_from n m t
unfolding numbered plain keys_from keys_written key_body
numbered_written n zero t = refl
numbered_written n (suc m) t =
    ap (λ (l : List ℕ). 0x03 ∷ n ∷ replicate 35 0 ++ l) (numbered_written (n + 1) m t)

-- One key record more than the limit is 34 at its place, whatever follows its kind byte: though it is cut short, and
-- though its KeyID is against its rule.
pub one_key_more : (limit : ℕ) → limit ≤ 256 → (t : List ℕ)
    → read_of limit
    (0x01 ∷ 0x00 ∷ 0x00 ∷ 0x02 ∷ 0x00 ∷ 0x00 ∷ 0x00 ∷ 0x00 ∷ keys_from 0 limit (0x03 ∷ t))
    ≡ refused_at Many (8 + 37 * limit)
unfolding features_body sizes_body no_features
one_key_more limit h t =
    let z : Sizes = record { identity = 0; user = 0 } in
    let ks = numbered 0 limit in
    ap (λ (l : List ℕ). read_of limit (1 ∷ features_body no_features ++ (2 ∷ sizes_body z ++ l)))
    (sym (numbered_written 0 limit (0x03 ∷ t)))
    ∙ many_keys limit no_features z ks t refl (omega arith) (omega arith) (numbered_rise 0 limit (omega arith))
    (numbered_length 0 limit)

-- so the seventeenth stands at 600; with a limit of 256 the next would stand at 9,480
pub seventeenth : (t : List ℕ)
    → read_of key_limit (0x01 ∷ 0x00 ∷ 0x00 ∷ 0x02 ∷ 0x00 ∷ 0x00 ∷ 0x00 ∷ 0x00 ∷ keys_from 0 16 (0x03 ∷ t))
    ≡ refused_at Many 600
unfolding key_limit
seventeenth t = one_key_more 16 (omega arith) t

pub past_256 : (t : List ℕ)
    → read_of 256 (0x01 ∷ 0x00 ∷ 0x00 ∷ 0x02 ∷ 0x00 ∷ 0x00 ∷ 0x00 ∷ 0x00 ∷ keys_from 0 256 (0x03 ∷ t))
    ≡ refused_at Many 9480
past_256 t = one_key_more 256 (omega arith) t

-- 33: KeyIDs rise, so a second record of KeyID 05 is refused at its place
pub equal_ids : read_of key_limit
    (0x01 ∷ 0x00 ∷ 0x00 ∷ 0x02 ∷ 0x00 ∷ 0x00 ∷ 0x00 ∷ 0x00
    ∷ 0x03 ∷ 0x05 ∷ replicate 35 0 ++ (0x03 ∷ 0x05 ∷ replicate 35 0))
    ≡ refused_at Value 45
unfolding read_of walk after judged_of opened_of too_many kind_of in_order record_of with_features with_sizes with_key
    features_rule features_of sizes_rule sizes_of key_rule key_of all_zero word_limit key_limit nothing_gathered
    no_marks empty_terms
equal_ids = refl

-- a sheet with one word in each area, up to its third record
abbrev pub one_word_each : List ℕ → List ℕ
one_word_each t = 0x01 ∷ 0x00 ∷ 0x00 ∷ 0x02 ∷ 0x00 ∷ 0x01 ∷ 0x00 ∷ 0x01 ∷ t

-- 33 at 8: a profile in area 2, a profile of no words, a profile and a lock that end one word past their area
pub area_two : (limit : ℕ)
    → read_of limit (one_word_each (0x04 ∷ 0x00 ∷ 0x02 ∷ 0x00 ∷ 0x00 ∷ 0x00 ∷ 0x01 ∷ [])) ≡ refused_at Value 8
unfolding read_of walk after judged_of opened_of too_many kind_of in_order record_of with_features with_sizes
    features_rule features_of sizes_rule sizes_of profile_rule inside words_in word_limit profile_limit nothing_gathered
    no_marks empty_terms
area_two limit = refl

pub no_words : (limit : ℕ)
    → read_of limit (one_word_each (0x04 ∷ 0x00 ∷ 0x00 ∷ 0x00 ∷ 0x00 ∷ 0x00 ∷ 0x00 ∷ [])) ≡ refused_at Value 8
unfolding read_of walk after judged_of opened_of too_many kind_of in_order record_of with_features with_sizes
    features_rule features_of sizes_rule sizes_of profile_rule inside words_in word_limit profile_limit nothing_gathered
    no_marks empty_terms
no_words limit = refl

pub profile_past : (limit : ℕ)
    → read_of limit (one_word_each (0x04 ∷ 0x00 ∷ 0x00 ∷ 0x00 ∷ 0x00 ∷ 0x00 ∷ 0x02 ∷ [])) ≡ refused_at Value 8
unfolding read_of walk after judged_of opened_of too_many kind_of in_order record_of with_features with_sizes
    features_rule features_of sizes_rule sizes_of profile_rule inside words_in word_limit profile_limit nothing_gathered
    no_marks empty_terms
profile_past limit = refl

pub lock_past : (limit : ℕ)
    → read_of limit (one_word_each (0x05 ∷ 0x01 ∷ 0x00 ∷ 0x00 ∷ 0x00 ∷ 0x02 ∷ [])) ≡ refused_at Value 8
unfolding read_of walk after judged_of opened_of too_many kind_of in_order record_of with_features with_sizes
    features_rule features_of sizes_rule sizes_of lock_rule inside words_in word_limit lock_limit nothing_gathered
    no_marks empty_terms
lock_past limit = refl

-- a profile and a lock that end with their area are accepted
abbrev up_to_the_end : List ℕ
up_to_the_end =
    one_word_each
    (0x04 ∷ 0x00 ∷ 0x00 ∷ 0x00 ∷ 0x00 ∷ 0x00 ∷ 0x01 ∷ 0x05 ∷ 0x01 ∷ 0x00 ∷ 0x00 ∷ 0x00 ∷ 0x01 ∷ 0x06 ∷ [])

abbrev end_terms : Terms
end_terms = record {
  features = no_features;
  sizes = record { identity = 1; user = 1 };
  profiles = set (replicate profile_limit no_slot) 0
      (record { present = true; profile = record { area = Identity; base = record { 0 = 0 }; words = 1 } });
  locks = record {
    count = 1;
    table = set (replicate lock_limit no_lock) 0 (record { area = User; first = record { 0 = 0 }; words = 1 });
  };
}

pub at_the_end : (limit : ℕ) → read_of limit up_to_the_end ≡ whole end_terms 0
unfolding read_of walk after judged_of opened_of too_many kind_of in_order record_of with_features with_sizes
    with_profile with_lock features_rule features_of sizes_rule sizes_of profile_rule slot_of lock_rule lock_of inside
    words_in area_of word_limit key_limit profile_limit lock_limit nothing_gathered no_marks empty_terms no_features
at_the_end limit = refl
