-- Two sheets that differ in every key byte of a record that is not named are alike, and both are taken.
use Rattle.std.specs.Prelude.{Ok}
use mathlib.Core.Path.{◌≡◌, refl, sym, ◌∙◌}
use mathlib.Core.Bool.{Bool, false, false≢true}
use mathlib.Core.List.{List, [], ◌∷◌, ◌++◌}
use native.Mathlib.Omega.{arith}
use Prim.Native.Nat.{ℕ}
use lib.ListN.{replicate}
use Rattle.sheet.specs.Kinds.{kind_of, in_order}
use Rattle.sheet.specs.Limits.{key_limit, word_limit}
use Rattle.sheet.specs.Setups.{no_marks, nothing_gathered, empty_terms}
use Rattle.sheet.specs.Records.{features_rule, sizes_rule, key_rule}
use Rattle.sheet.specs.Judgement.{too_many, opened_of, with_features, with_sizes, with_key, record_of, judged_of}
use Rattle.sheet.specs.Sheet.{after, walk, read_of, verdict_of}
use Rattle.silence.specs.Sheets.{AlikeFrom, SheetsAlike}

-- a tag with one record, of KeyID 2 and with a MAC key
abbrev pub sheet : ℕ → ℕ → List ℕ
sheet e m = 1 ∷ 0 ∷ 0 ∷ 2 ∷ 0 ∷ 0 ∷ 0 ∷ 0 ∷ 3 ∷ 2 ∷ 1 ∷ 0 ∷ 0 ∷ (replicate 16 e ++ (replicate 16 m ++ (6 ∷ [])))

pub taken : (e m : ℕ) → verdict_of (read_of key_limit (sheet e m)) ≡ Ok tt
unfolding read_of walk after judged_of opened_of record_of with_features with_sizes with_key kind_of in_order too_many
    key_limit word_limit features_rule sizes_rule key_rule nothing_gathered no_marks empty_terms
taken e m = refl

pub sheet_hidden : (named : ℕ → Bool) → named 2 ≡ false → (e m e' m' : ℕ) → SheetsAlike named (sheet e m) (sheet e' m')
unfolding AlikeFrom kind_of
sheet_hidden named h e m e' m' = (
  refl,
  refl,
  (
    refl,
    refl,
    (
      refl,
      record {
        id = refl;
        mac = refl;
        mpi = refl;
        enc = λ n. absurd (false≢true (sym h ∙ n));
        mackey = λ n. absurd (false≢true (sym h ∙ n));
        absent = λ n. absurd (let w : ⊥ = omega arith in w);
      },
      (refl, refl, tt),
    ),
  ),
)
