-- Demand 3, from the sheets on: which sheets set two tags up alike.
use Rattle.std.specs.Prelude.{◌≡◌, Bool, true, List, [], ◌∷◌, ℕ, zero, suc, take, drop, Option, Some, None}
use Rattle.sheet.specs.declared.Kind.{Kind}
use Rattle.sheet.specs.declared.Kind.TheVariants.{
  FeatureRecord,
  SizeRecord,
  KeyRecord,
  ProfileRecord,
  LockRecord,
  EndRecord,
}
use Rattle.sheet.specs.Kinds.{kind_of, length_behind}
use Rattle.ground.specs.Bytes.{byte_at, word_at, Bytes}
use Rattle.sheet.specs.Limits.{key_limit}
use Rattle.sheet.specs.Sheet.{read_of, said_of, verdict_of}
use Rattle.tag.specs.Runs.{Event}
use Rattle.silence.specs.Names.{named_in}
use Rattle.silence.specs.Silence.{SetupsAlike, Memory, MemoriesAlike, SameAnswers, answers}

-- Two bodies of a record 03: KeyID, MAC present and MPI are the same, ENC_key and MAC_key where the KeyID is named.
-- Where the MAC key is absent its bytes are no key, but zeros by rule, and are the same too.
pub record KeyBodiesAlike (named : ℕ → Bool) (b c : List ℕ) : Type 0 where
  pub id : byte_at b 0 ≡ byte_at c 0
  pub mac : byte_at b 1 ≡ byte_at c 1
  pub mpi : word_at b 2 ≡ word_at c 2
  pub enc : named (byte_at b 0) ≡ true → take 16 (drop 4 b) ≡ take 16 (drop 4 c)
  pub mackey : named (byte_at b 0) ≡ true → take 16 (drop 20 b) ≡ take 16 (drop 20 c)
  pub absent : byte_at b 1 ≡ 0 → take 16 (drop 20 b) ≡ take 16 (drop 20 c)

-- Any other record's body is the same.
abbrev pub BodiesAlike : (ℕ → Bool) → Option Kind → List ℕ → List ℕ → Type 0
BodiesAlike named (Some FeatureRecord) b c = b ≡ c
BodiesAlike named (Some SizeRecord) b c = b ≡ c
BodiesAlike named (Some KeyRecord) b c = KeyBodiesAlike named b c
BodiesAlike named (Some ProfileRecord) b c = b ≡ c
BodiesAlike named (Some LockRecord) b c = b ≡ c
BodiesAlike named (Some EndRecord) b c = b ≡ c
BodiesAlike named None b c = b ≡ c

-- The bytes from a place on, of which the first `body` belong to a record whose kind byte stands before: so long, with
-- the same kind bytes, and alike bodies.
unfoldable pub AlikeFrom : (ℕ → Bool) → List ℕ → List ℕ → ℕ → Type 0
AlikeFrom named [] [] body = Unit
AlikeFrom named [] (c ∷ v) body = ⊥
AlikeFrom named (b ∷ u) [] body = ⊥
AlikeFrom named (b ∷ u) (c ∷ v) (suc body) = AlikeFrom named u v body
AlikeFrom named (b ∷ u) (c ∷ v) zero =
    (b ≡ c) × BodiesAlike named (kind_of b) (take (length_behind (kind_of b)) u) (take (length_behind (kind_of b)) v)
    × AlikeFrom named u v (length_behind (kind_of b))

abbrev pub SheetsAlike : (ℕ → Bool) → List ℕ → List ℕ → Type 0
SheetsAlike named u v = AlikeFrom named u v 0

-- Both are taken, or both are refused with the same number at the same place; and what they say is alike.
pub record ReadAlike (named : ℕ → Bool) (u v : List ℕ) : Type 0 where
  pub verdict : verdict_of (read_of key_limit u) ≡ verdict_of (read_of key_limit v)
  pub setup : SetupsAlike named (said_of key_limit u) (said_of key_limit v)

-- A sheet is a string of bytes.
abbrev pub SheetsReadAlike : Type 0
SheetsReadAlike =
    (named : ℕ → Bool) (u v : List ℕ) → Bytes u → Bytes v → SheetsAlike named u v → ReadAlike named u v

-- Demand 3 of two tags that are set up by such sheets.
abbrev pub SilentSheets : Type 0
SilentSheets =
    (es : List Event) (u v : List ℕ) (x y : Memory)
    → Bytes u
    → Bytes v
    → SheetsAlike (named_in es) u v
    → MemoriesAlike (named_in es) (said_of key_limit u) x y
    → (verdict_of (read_of key_limit u) ≡ verdict_of (read_of key_limit v))
    × SameAnswers x y (answers (said_of key_limit u) x es) (answers (said_of key_limit v) y es)
