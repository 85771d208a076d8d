-- 33 at the edges of each kind's values: an area of 1,025 words, profile 16, a profile number that does not rise, a
-- lock of no words, a lock in area 2.
use mathlib.Core.Path.{◌≡◌, refl}
use mathlib.Core.List.{[], ◌∷◌}
use Prim.Native.Nat.{ℕ}
use Rattle.sheet.specs.Limits.{profile_limit, lock_limit, word_limit}
use Rattle.sheet.specs.Kinds.{kind_of, in_order}
use Rattle.sheet.specs.Setups.{empty_terms, no_marks, nothing_gathered}
use Rattle.sheet.specs.Records.{inside, words_in, features_rule, features_of, sizes_rule, sizes_of, profile_rule}
use Rattle.sheet.specs.Records.{lock_rule}
use Rattle.sheet.specs.Judgement.{too_many, opened_of, record_of, judged_of, with_features, with_sizes, with_profile}
use Rattle.sheet.specs.Sheet.{after, walk, read_of, refused_at}
use Rattle.sheet.specs.declared.SheetFault.TheVariants.{Value}
use Rattle.sheet_laws.proofs.Examples.{one_word_each}

-- either area may have 1,024 words, and no more
pub identity_1025 : (limit : ℕ)
    → read_of limit (0x01 ∷ 0x00 ∷ 0x00 ∷ 0x02 ∷ 0x04 ∷ 0x01 ∷ 0x00 ∷ 0x00 ∷ []) ≡ refused_at Value 3
unfolding read_of walk after judged_of opened_of too_many kind_of in_order record_of with_features features_rule
    features_of sizes_rule word_limit nothing_gathered no_marks empty_terms
identity_1025 limit = refl

pub user_1025 : (limit : ℕ)
    → read_of limit (0x01 ∷ 0x00 ∷ 0x00 ∷ 0x02 ∷ 0x00 ∷ 0x00 ∷ 0x04 ∷ 0x01 ∷ []) ≡ refused_at Value 3
unfolding read_of walk after judged_of opened_of too_many kind_of in_order record_of with_features features_rule
    features_of sizes_rule word_limit nothing_gathered no_marks empty_terms
user_1025 limit = refl

pub profile_16 : (limit : ℕ)
    → read_of limit (one_word_each (0x04 ∷ 0x10 ∷ 0x00 ∷ 0x00 ∷ 0x00 ∷ 0x00 ∷ 0x01 ∷ [])) ≡ refused_at Value 8
unfolding read_of walk after judged_of opened_of too_many kind_of in_order record_of with_features with_sizes
    features_rule features_of sizes_rule sizes_of profile_rule inside words_in word_limit profile_limit nothing_gathered
    no_marks empty_terms
profile_16 limit = refl

-- the same number again, at the second record
pub profile_again : (limit : ℕ)
    → read_of limit (one_word_each (0x04 ∷ 0x01 ∷ 0x00 ∷ 0x00 ∷ 0x00 ∷ 0x00 ∷ 0x01
    ∷ 0x04 ∷ 0x01 ∷ 0x00 ∷ 0x00 ∷ 0x00 ∷ 0x00 ∷ 0x01 ∷ [])) ≡ refused_at Value 15
unfolding read_of walk after judged_of opened_of too_many kind_of in_order record_of with_features with_sizes
    with_profile features_rule features_of sizes_rule sizes_of profile_rule inside words_in word_limit profile_limit
    nothing_gathered no_marks empty_terms
profile_again limit = refl

pub lock_of_none : (limit : ℕ)
    → read_of limit (one_word_each (0x05 ∷ 0x01 ∷ 0x00 ∷ 0x00 ∷ 0x00 ∷ 0x00 ∷ [])) ≡ refused_at Value 8
unfolding read_of walk after judged_of opened_of too_many kind_of in_order record_of with_features with_sizes
    features_rule features_of sizes_rule sizes_of lock_rule inside words_in word_limit lock_limit nothing_gathered
    no_marks empty_terms
lock_of_none limit = refl

pub lock_in_area_2 : (limit : ℕ)
    → read_of limit (one_word_each (0x05 ∷ 0x02 ∷ 0x00 ∷ 0x00 ∷ 0x00 ∷ 0x01 ∷ [])) ≡ refused_at Value 8
unfolding read_of walk after judged_of opened_of too_many kind_of in_order record_of with_features with_sizes
    features_rule features_of sizes_rule sizes_of lock_rule inside words_in word_limit lock_limit nothing_gathered
    no_marks empty_terms
lock_in_area_2 limit = refl
