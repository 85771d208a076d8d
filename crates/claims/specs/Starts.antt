-- What a tag is played on, and what it has to have so that it takes a message of a kind.
use Rattle.std.specs.Prelude.{◌≡◌, Bool, true, List, ℕ, ◌*◌, length}
use Rattle.ground.specs.Bytes.{Bytes}
use Rattle.memory.specs.Areas.{word_bytes, area_of, within}
use Rattle.sheet.specs.declared.Key.{Key}
use Rattle.sheet.specs.KeyTable.{key_table}
use Rattle.sheet.specs.Limits.{key_limit}
use Rattle.sheet.specs.Setups.{Setup, setup_of}
use Rattle.sheet.specs.Sheet.{Accepted, read_of, said_of, terms_read, keys_read}
use Rattle.keytable.specs.Named.{has_key, key_with}
use Rattle.frames.specs.declared.Custom.{Custom}
use Rattle.frames.specs.declared.Kind.{Kind}
use Rattle.frames.specs.declared.Kind.TheVariants.{Tam1, Tam2, Iam1, Iam2, Iam3, Mam1, Mam2, Unsupported}
use Rattle.frames.specs.Fields.{custom_fits}
use Rattle.offer.specs.Records.{offered, block_asked}
use Rattle.entry.specs.declared.Session.{Session}
use Rattle.tag.specs.declared.Tag.{Tag}
use Rattle.claims.specs.Entry.{Writable}
use Rattle.claims.specs.Openings.{Readable}

-- A key table, a tag in whatever state, and both areas.
pub record Start : Type 0 where
  pub table : List ℕ
  pub tag : Tag
  pub identity : List ℕ
  pub user : List ℕ

-- What the tag serves by: its terms, and the keys of the table.
abbrev pub setup_at : Start → Setup
setup_at s = setup_of s.tag.terms s.table

-- A key record is there, in a table of bytes; and the areas are of the tag's sizes, since otherwise every call is a
-- fault of the bench (7).
pub record HasRecord (s : Start) : Type 0 where
  pub keyid : ℕ
  pub there : has_key keyid (setup_at s).keys ≡ true
  pub bytes : Bytes s.table
  pub identity : length s.identity ≡ (setup_at s).sizes.identity * word_bytes
  pub user : length s.user ≡ (setup_at s).sizes.user * word_bytes

-- the record
abbrev pub record_at : (s : Start) → HasRecord s → Key
record_at s h = key_with h.keyid (setup_at s).keys

-- A record, and the feature that a kind asks for.
pub record HasFeature (kind : Kind) (s : Start) : Type 0 where
  pub holder : HasRecord s
  pub feature : offered (setup_at s).features kind ≡ true

-- A record, and a block in a profile that it may read, in some Rev and ProtMode; its fields fit their bits, so that a
-- message can name it.
pub record HasReadable (s : Start) : Type 0 where
  pub holder : HasRecord s
  pub rev : Bool
  pub custom : Custom
  pub protmode : ℕ
  pub nameable : custom_fits custom ≡ true
  pub readable : Readable (setup_at s) (record_at s holder) rev custom protmode

-- A record, IAM1 and IAM3, and a permitted, unlocked block in a profile, in some ProtMode. It lies in its area, as
-- every profile of a sheet does.
pub record HasWritable (s : Start) : Type 0 where
  pub holder : HasRecord s
  pub iam1 : offered (setup_at s).features Iam1 ≡ true
  pub iam3 : offered (setup_at s).features Iam3 ≡ true
  pub custom : Custom
  pub protmode : ℕ
  pub nameable : custom_fits custom ≡ true
  pub writable : Writable (setup_at s) (record_at s holder) custom protmode
  pub lies : (let block = block_asked (setup_at s).profiles custom in
      within block (area_of block.area s.identity s.user) ≡ true)

-- What a tag has to have so that some message of the kind is taken, sooner or later. A message of no kind never is.
abbrev pub Takes : Kind → Start → Type 0
Takes Tam1 s = HasRecord s
Takes Tam2 s = HasReadable s
Takes Iam1 s = HasFeature Iam1 s
Takes Iam2 s = HasFeature Iam1 s
Takes Iam3 s = HasWritable s
Takes Mam1 s = HasFeature Mam1 s
Takes Mam2 s = HasFeature Mam1 s
Takes Unsupported s = ⊥

-- ---- from sheets

-- A sheet that is taken, lent with areas of its sizes.
pub record SheetLent (sheet identity user : List ℕ) : Type 0 where
  pub bytes : Bytes sheet
  pub taken : Accepted key_limit sheet
  pub identity_length : length identity ≡ (said_of key_limit sheet).sizes.identity * word_bytes
  pub user_length : length user ≡ (said_of key_limit sheet).sizes.user * word_bytes

-- The tag of a sheet, in whatever session.
abbrev pub start_of : List ℕ → List ℕ → List ℕ → Session → Start
start_of sheet identity user session = record {
  table = key_table sheet (keys_read (read_of key_limit sheet));
  tag = record { terms = (terms_read (read_of key_limit sheet)); session = session };
  identity = identity;
  user = user;
}

-- The tag of every sheet with a key record has one.
abbrev pub SheetHasRecord : Type 0
SheetHasRecord =
    (sheet identity user : List ℕ) (session : Session) (keyid : ℕ)
    → SheetLent sheet identity user
    → has_key keyid (said_of key_limit sheet).keys ≡ true
    → HasRecord (start_of sheet identity user session)

-- The tag of every sheet with IAM3, and with a permitted, unlocked block in a profile, has one.
abbrev pub SheetHasWritable : Type 0
SheetHasWritable =
    (sheet identity user : List ℕ) (session : Session) (keyid : ℕ) (custom : Custom) (protmode : ℕ)
    → SheetLent sheet identity user
    → has_key keyid (said_of key_limit sheet).keys ≡ true
    → (said_of key_limit sheet).features.iam3 ≡ true
    → custom_fits custom ≡ true
    → Writable (said_of key_limit sheet) (key_with keyid (said_of key_limit sheet).keys) custom protmode
    → HasWritable (start_of sheet identity user session)
