-- Examples of the scope paper, record 01: what each bit of it says, and which bits refuse it by 33 at place 0, whatever
-- follows.
use Rattle.sheet.specs.declared.SheetRefusal.{SheetRefusal}
use Rattle.std.specs.Prelude.{Result}
use mathlib.Core.Path.{◌≡◌, refl, ap, ◌∙◌}
use mathlib.Core.Bool.{Bool, true, false}
use mathlib.Core.List.{List, [], ◌∷◌}
use Prim.Native.Nat.{ℕ, ◌^◌, ◌≤◌}
use native.Mathlib.Omega.{arith}
use lib.Dec.{ltb}
use borrow.Author.Tests.{le-ltb}
use Rattle.ground.specs.Choice.{both}
use Rattle.sheet.specs.Limits.{word_limit}
use Rattle.sheet.specs.Kinds.{kind_of, in_order}
use Rattle.sheet.specs.Setups.{empty_terms, no_marks, nothing_gathered}
use Rattle.sheet.specs.Records.{feature, features_rule, features_of, sizes_rule, sizes_of}
use Rattle.sheet.specs.Judgement.{too_many, opened_of, record_of, judged_of, with_features, with_sizes}
use Rattle.sheet.specs.Sheet.{after, walk, read_of, whole, RefusedBy}
use Rattle.sheet.specs.declared.Kind.TheVariants.{FeatureRecord}
use Rattle.sheet.specs.declared.SheetFault.TheVariants.{Value}
use Rattle.sheet.specs.declared.Features.{Features}
use Rattle.sheet.specs.declared.Reading.{Reading}
use Rattle.sheet.proofs.Verdicts.{refused_told}
use Rattle.sheet_laws.proofs.OneRecord.{go_on, stop_at}

-- what record 01 says, bit by bit
abbrev pub flags : Bool → Bool → Bool → Bool → Bool → Bool → Bool → Bool → Bool → Bool → Features
flags blocksize1 rev0 rev1 iam iam3 mam mode0 mode1 mode2 mode3 = record {
  blocksize1 = blocksize1;
  rev0 = rev0;
  rev1 = rev1;
  iam = iam;
  iam3 = iam3;
  mam = mam;
  mode0 = mode0;
  mode1 = mode1;
  mode2 = mode2;
  mode3 = mode3;
}

-- example (11) with f for its byte of features and m for that of ProtModes
abbrev pub small : ℕ → ℕ → List ℕ
small f m = 0x01 ∷ f ∷ m ∷ 0x02 ∷ 0x00 ∷ 0x00 ∷ 0x00 ∷ 0x00 ∷ 0x06 ∷ []

-- accepted, with just these features and two empty areas
abbrev pub featured : Features → Result Reading SheetRefusal
featured x =
    whole
    (record {
      features = x;
      sizes = empty_terms.sizes;
      profiles = empty_terms.profiles;
      locks = empty_terms.locks;
    })
    0

-- so read, whatever the limit of key records is
abbrev pub Says : ℕ → ℕ → Features → Type 0
Says f m x = (limit : ℕ) → read_of limit (small f m) ≡ featured x

module _ (limit f m : ℕ) where
  abbrev body : List ℕ
  body = f ∷ m ∷ []

  rest_read : walk limit (0x02 ∷ 0x00 ∷ 0x00 ∷ 0x00 ∷ 0x00 ∷ 0x06 ∷ []) 0 3 (with_features nothing_gathered body)
      ≡ featured (features_of body)
  unfolding walk after judged_of opened_of too_many kind_of in_order record_of with_features with_sizes sizes_rule
      sizes_of word_limit nothing_gathered no_marks empty_terms
  rest_read = refl

  says : (x : Features) → features_rule body ≡ true → features_of body ≡ x → read_of limit (small f m) ≡ featured x
  unfolding read_of kind_of in_order too_many record_of nothing_gathered no_marks
  says x e q =
      go_on limit 1 FeatureRecord body (0x02 ∷ 0x00 ∷ 0x00 ∷ 0x00 ∷ 0x00 ∷ 0x06 ∷ []) nothing_gathered
      (with_features nothing_gathered body) refl refl refl refl (rw e) 0
      ∙ rest_read
      ∙ ap featured q

  -- 33 at 0, whatever follows
  refuses : (t : List ℕ) → features_rule body ≡ false → RefusedBy limit (0x01 ∷ f ∷ m ∷ t) 33 0
  unfolding read_of kind_of in_order too_many record_of nothing_gathered no_marks
  refuses t e =
      refused_told limit (0x01 ∷ f ∷ m ∷ t) Value 0
      (stop_at limit 1 FeatureRecord body t nothing_gathered refl refl refl refl 0 (rw e))

-- each feature bit alone; IAM3, which needs bit 3, with it; and each ProtMode alone
pub blocksize_1 : Says 0x01 0x00 (flags true false false false false false false false false false)
unfolding features_rule features_of
blocksize_1 limit = says limit 0x01 0x00 _ refl refl

pub rev_0 : Says 0x02 0x00 (flags false true false false false false false false false false)
unfolding features_rule features_of
rev_0 limit = says limit 0x02 0x00 _ refl refl

pub rev_1 : Says 0x04 0x00 (flags false false true false false false false false false false)
unfolding features_rule features_of
rev_1 limit = says limit 0x04 0x00 _ refl refl

pub iam_1_and_2 : Says 0x08 0x00 (flags false false false true false false false false false false)
unfolding features_rule features_of
iam_1_and_2 limit = says limit 0x08 0x00 _ refl refl

pub iam_3 : Says 0x18 0x00 (flags false false false true true false false false false false)
unfolding features_rule features_of
iam_3 limit = says limit 0x18 0x00 _ refl refl

pub mam : Says 0x20 0x00 (flags false false false false false true false false false false)
unfolding features_rule features_of
mam limit = says limit 0x20 0x00 _ refl refl

pub mode_0 : Says 0x00 0x01 (flags false false false false false false true false false false)
unfolding features_rule features_of
mode_0 limit = says limit 0x00 0x01 _ refl refl

pub mode_1 : Says 0x00 0x02 (flags false false false false false false false true false false)
unfolding features_rule features_of
mode_1 limit = says limit 0x00 0x02 _ refl refl

pub mode_2 : Says 0x00 0x04 (flags false false false false false false false false true false)
unfolding features_rule features_of
mode_2 limit = says limit 0x00 0x04 _ refl refl

pub mode_3 : Says 0x00 0x08 (flags false false false false false false false false false true)
unfolding features_rule features_of
mode_3 limit = says limit 0x00 0x08 _ refl refl

-- a test that fails fails with any other
pub both_false : (a : Bool) → both a false ≡ false
both_false true = refl
both_false false = refl

-- 33 at 0: a reserved bit of either byte (bits 6 and 7; bits 4 to 7), alone or with others
pub reserved_feature : (limit f m : ℕ) (t : List ℕ) → 2 ^ 6 ≤ f → RefusedBy limit (0x01 ∷ f ∷ m ∷ t) 33 0
unfolding features_rule
reserved_feature limit f m t h = refuses limit f m t (rw (le-ltb f (2 ^ 6) h))

pub reserved_mode : (limit f m : ℕ) (t : List ℕ) → 2 ^ 4 ≤ m → RefusedBy limit (0x01 ∷ f ∷ m ∷ t) 33 0
unfolding features_rule
reserved_mode limit f m t h = refuses limit f m t (rw (le-ltb m (2 ^ 4) h) (both_false (ltb f (2 ^ 6))))

-- 33 at 0: IAM3 without bit 3, alone or with others
pub iam_3_alone : (limit f m : ℕ) (t : List ℕ) → feature 4 f ≡ true → feature 3 f ≡ false
    → RefusedBy limit (0x01 ∷ f ∷ m ∷ t) 33 0
unfolding features_rule
iam_3_alone limit f m t a b =
    refuses limit f m t (rw (a, b, both_false (ltb m (2 ^ 4))) (both_false (ltb f (2 ^ 6))))

-- so each of these bytes, whatever stands with it
pub refused_bits : (limit x : ℕ) (t : List ℕ)
    → RefusedBy limit (0x01 ∷ 0x40 ∷ x ∷ t) 33 0
    × RefusedBy limit (0x01 ∷ 0x80 ∷ x ∷ t) 33 0
    × RefusedBy limit (0x01 ∷ x ∷ 0x10 ∷ t) 33 0
    × RefusedBy limit (0x01 ∷ x ∷ 0x20 ∷ t) 33 0
    × RefusedBy limit (0x01 ∷ x ∷ 0x40 ∷ t) 33 0
    × RefusedBy limit (0x01 ∷ x ∷ 0x80 ∷ t) 33 0
    × RefusedBy limit (0x01 ∷ 0x10 ∷ x ∷ t) 33 0
    × RefusedBy limit (0x01 ∷ 0x37 ∷ x ∷ t) 33 0
refused_bits limit x t = (
  reserved_feature limit 0x40 x t (omega arith),
  reserved_feature limit 0x80 x t (omega arith),
  reserved_mode limit x 0x10 t (omega arith),
  reserved_mode limit x 0x20 t (omega arith),
  reserved_mode limit x 0x40 t (omega arith),
  reserved_mode limit x 0x80 t (omega arith),
  iam_3_alone limit 0x10 x t refl refl,
  iam_3_alone limit 0x37 x t refl refl,
)
