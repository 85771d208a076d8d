-- The scope paper, "Memory": which records a message names, and which words are open to those who use them.
use Rattle.std.specs.Prelude.{◌≡◌, Bool, true, false, List, [], ◌∷◌, ℕ, ◌≤◌, ◌<◌, eqb}
use Rattle.ground.specs.Choice.{both, either}
use Rattle.memory.specs.declared.Area.{Area}
use Rattle.memory.specs.Address.{profile_end}
use Rattle.memory.specs.Rights.{permitted}
use Rattle.sheet.specs.Setups.{Setup}
use Rattle.frames.specs.declared.Kind.{Kind}
use Rattle.frames.specs.declared.Kind.TheVariants.{Tam1, Tam2, Iam1, Iam2, Iam3, Mam1, Mam2, Unsupported}
use Rattle.frames.specs.Kinds.{kind_of}
use Rattle.keytable.specs.Named.{has_key, key_with}
use Rattle.offer.specs.Records.{slot_named}
use Rattle.tag.specs.Runs.{Event, Message, PowerUp}

-- TAM1, TAM2, IAM1 and MAM1 carry a KeyID.
unfoldable pub carries_keyid : Kind → Bool
carries_keyid Tam1 = true
carries_keyid Tam2 = true
carries_keyid Iam1 = true
carries_keyid Iam2 = false
carries_keyid Iam3 = false
carries_keyid Mam1 = true
carries_keyid Mam2 = false
carries_keyid Unsupported = false

-- "A message names a record when its first byte makes it a TAM1, TAM2, IAM1 or MAM1 and its second byte is that
-- record's KeyID, also where the message is refused; a message of one byte names none."
unfoldable pub named_by : List ℕ → ℕ → Bool
named_by [] keyid = false
named_by (first ∷ []) keyid = false
named_by (first ∷ second ∷ rest) keyid = both (carries_keyid (kind_of first)) (eqb second keyid)

-- Some message of the run names it; a power-up names none.
unfoldable pub named_in : List Event → ℕ → Bool
named_in [] keyid = false
named_in (Message s ∷ es) keyid = either (named_by s.message keyid) (named_in es keyid)
named_in (PowerUp ∷ es) keyid = named_in es keyid

-- A word of an area is open: it lies inside a profile that is there, and that is permitted to a record of the tag that
-- is named.
pub record Open (named : ℕ → Bool) (setup : Setup) (area : Area) (w : ℕ) : Type 0 where
  pub keyid : ℕ
  pub name : named keyid ≡ true
  pub key : has_key keyid setup.keys ≡ true
  pub profile : ℕ
  pub right : permitted (key_with keyid setup.keys).mpi profile ≡ true
  pub present : (slot_named setup.profiles profile).present ≡ true
  pub its : (slot_named setup.profiles profile).profile.area ≡ area
  pub from : (slot_named setup.profiles profile).profile.base.0 ≤ w
  pub before : w < profile_end (slot_named setup.profiles profile).profile
