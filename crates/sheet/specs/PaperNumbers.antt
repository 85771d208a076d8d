-- The scope paper, "The tag sheet": its list of refusals with their numbers, line by line in its order. `number_of` (in
-- Kinds) names no condition; here each number stands beside its own.
use Rattle.std.specs.Prelude.{◌≡◌, ℕ, ◌+◌, ◌<◌, Bool, true, false, not, List, [], ◌∷◌, length, take, drop, leb, ltb}
use Rattle.std.specs.Prelude.{Option, Some, None, Ok}
use Rattle.sheet.specs.declared.Finding.TheVariants.{Ended}
use Rattle.ground.specs.Choice.{pick}
use Rattle.ground.specs.Bytes.{byte_at}
use Rattle.sheet.specs.Limits.{profile_limit, lock_limit}
use Rattle.sheet.specs.Kinds.{kind_of, body_length, in_order}
use Rattle.sheet.specs.Records.{features_rule, sizes_rule, key_rule, profile_rule, lock_rule}
use Rattle.sheet.specs.Setups.{nothing_gathered}
use Rattle.sheet.specs.Judgement.{judged_of}
use Rattle.sheet.specs.Refusals.{InTurn, kinds_taken, how_many}
use Rattle.sheet.specs.declared.Kind.{Kind}
use Rattle.sheet.specs.declared.Kind.TheVariants.{
  FeatureRecord,
  SizeRecord,
  KeyRecord,
  ProfileRecord,
  LockRecord,
  EndRecord,
}
use Rattle.sheet.specs.declared.Gathered.{Gathered}

-- whether the values of a body keep the rule of its kind; the end record has none
abbrev pub keeps_rule : Kind → List ℕ → Gathered → Bool
keeps_rule FeatureRecord b k = features_rule b
keeps_rule SizeRecord b k = sizes_rule b
keeps_rule KeyRecord b k = key_rule k.marks.id b
keeps_rule ProfileRecord b k = profile_rule k.marks.number k.terms.sizes b
keeps_rule LockRecord b k = lock_rule k.marks.area k.marks.word k.terms.sizes b
keeps_rule EndRecord b k = true

-- whether as many of a kind as there may be stand before, where these are the kind bytes there
abbrev pub all_stand : ℕ → Kind → List ℕ → Bool
all_stand limit FeatureRecord kinds = false
all_stand limit SizeRecord kinds = false
all_stand limit KeyRecord kinds = leb limit (how_many 3 kinds)
all_stand limit ProfileRecord kinds = leb profile_limit (how_many 4 kinds)
all_stand limit LockRecord kinds = leb lock_limit (how_many 5 kinds)
all_stand limit EndRecord kinds = false

-- "in order for each record: 31 unknown kind, 32 kind out of order, 34 a seventeenth of its kind, 30 cut short, 33 a
-- value against its rule": b is its kind byte, t what follows, and `kinds` the kind bytes of the records before it, the
-- last first. 0 where no line applies.
abbrev pub listed_as : ℕ → ℕ → List ℕ → List ℕ → Gathered → Option Kind → ℕ
listed_as limit b t kinds k None = 31
listed_as limit b t kinds k (Some q) =
    pick (not (in_order (byte_at kinds 0) b)) 32
    (pick (all_stand limit q kinds) 34
    (pick (ltb (length t) (body_length q)) 30
    (pick (not (keeps_rule q (take (body_length q) t) k)) 33
    0)))

abbrev pub listed : ℕ → ℕ → List ℕ → List ℕ → Gathered → ℕ
listed limit b t kinds k = listed_as limit b t kinds k (kind_of b)

-- "30 .. also where a kind byte is missing"
abbrev pub paper_number : ℕ → List ℕ → List ℕ → Gathered → ℕ
paper_number limit [] kinds k = 30
paper_number limit (b ∷ t) kinds k = listed limit b t kinds k

-- A number and its place, for a sheet s: of the first record that a line of the list refuses; or "after the end record,
-- 35 bytes follow, with the place of the first".
pub data PaperSays (limit : ℕ) (s : List ℕ) : ℕ → ℕ → Type 0 where
  line : {p : ℕ} {k : Gathered} (h : InTurn limit s 0 nothing_gathered p k)
      → 0 < paper_number limit (drop p s) (kinds_taken h) k
      → PaperSays limit s (paper_number limit (drop p s) (kinds_taken h) k) p
  bytes_follow : {p : ℕ} {k : Gathered} → InTurn limit s 0 nothing_gathered p k
      → (judged_of limit (drop p s) k).finding ≡ (Ok Ended) → p + 1 < length s → PaperSays limit s 35 (p + 1)
