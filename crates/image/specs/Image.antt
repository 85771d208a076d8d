-- A tag in the memory of its caller, as an image of bytes (Places): how it is written, and how any bytes are read.
use Rattle.std.specs.Prelude.{ℕ, zero, suc, ◌*◌, Bool, List, [], ◌∷◌, ◌++◌, eqb, ltb, leb, take, drop, replicate}
use Rattle.ground.specs.Choice.{pick, both, implies}
use Rattle.ground.specs.Bytes.{byte_at, word_at, two_bytes, bit_of, flag}
use Rattle.modes.specs.Room.{over}
use Rattle.octets.specs.Parts.{bytes_from}
use Rattle.octets.specs.Alike.{all_zero}
use Rattle.sheet.specs.declared.Kind.TheVariants.{FeatureRecord, SizeRecord, ProfileRecord, LockRecord}
use Rattle.sheet.specs.declared.Slot.{Slot}
use Rattle.sheet.specs.declared.Terms.{Terms}
use Rattle.sheet.specs.Kinds.{body_length}
use Rattle.sheet.specs.Limits.{key_limit, profile_limit, lock_limit}
use Rattle.sheet.specs.KeyTable.{key_record, record_count, keys_in}
use Rattle.sheet.specs.Records.{features_of, sizes_of, slot_of, lock_of}
use Rattle.sheet.specs.Setups.{terms_of}
use Rattle.sheet.specs.Writer.{features_body, sizes_body, profile_body, lock_body, keys_written}
use Rattle.entry.specs.declared.State.{State}
use Rattle.entry.specs.declared.State.TheVariants.{Initial, IamInit, MamInit, IaOk}
use Rattle.entry.specs.declared.Session.{Session}
use Rattle.tag.specs.declared.Tag.{Tag}
use Rattle.tag.specs.States.{KeyedTag, keyed, at_rest, key_fits}
use Rattle.image.specs.Places.{
  features_at,
  sizes_at,
  profiles_at,
  lock_count_at,
  locks_at,
  key_count_at,
  key_table_at,
  key_room,
}

-- ---- how an image is written

abbrev pub state_number : State → ℕ
state_number Initial = 0
state_number IamInit = 1
state_number MamInit = 2
state_number IaOk = 3

-- KeyID, TChallenge, IChallenge[31:0], and the state before them
abbrev pub held_bytes : Session → List ℕ
held_bytes s = s.keyid ∷ s.tchallenge ++ s.ichallenge

abbrev pub session_bytes : Session → List ℕ
session_bytes s = state_number s.state ∷ held_bytes s

-- What is new in an image from one message to the next.
abbrev pub kept : Session → List ℕ → List ℕ
kept s image = over (session_bytes s) image

-- a profile: the body of its record, with 1 for its number where there is one; all zero where there is none
abbrev pub slot_body : Slot → List ℕ
slot_body s = profile_body (bit_of s.present) s.profile

-- bodies, one behind the other
unfoldable pub bodies : {A : Type 0} → (A → List ℕ) → List A → List ℕ
bodies body [] = []
bodies body (x ∷ xs) = body x ++ bodies body xs

abbrev pub terms_bytes : Terms → List ℕ
terms_bytes t =
    features_body t.features
    ++ (sizes_body t.sizes
    ++ (bodies slot_body t.profiles
    ++ (t.locks.count ∷ bodies lock_body t.locks.table)))

-- The image of a tag with this key table. What the table leaves of its room is zeros.
unfoldable pub image_of : Session → Terms → List ℕ → List ℕ
image_of s t table =
    session_bytes s ++ (terms_bytes t ++ (two_bytes (record_count table) ++ over table (replicate key_room 0)))

-- The same of a tag with its keys: they stand as a sheet has them.
abbrev pub tag_image : KeyedTag → List ℕ
tag_image tag = image_of tag.session (terms_of tag.setup) (keys_written tag.setup.keys)

-- ---- how any bytes are read

-- of a number that no state has, the last
abbrev pub state_of : ℕ → State
state_of n = pick (eqb n 0) Initial (pick (eqb n 1) IamInit (pick (eqb n 2) MamInit IaOk))

unfoldable pub session_in : List ℕ → Session
session_in image = record {
  state = state_of (byte_at image 0);
  keyid = byte_at image 1;
  tchallenge = bytes_from image 2 10;
  ichallenge = bytes_from image 12 4;
}

-- a profile is there where its first byte is 1
unfoldable pub slot_in : List ℕ → Slot
slot_in b = record { present = flag (byte_at b 0); profile = (slot_of b).profile }

-- what n bodies of this length say that stand one behind the other
unfoldable pub said_in : {A : Type 0} → (List ℕ → A) → ℕ → ℕ → List ℕ → List A
said_in says long zero s = []
said_in says long (suc n) s = says (take long s) ∷ said_in says long n (drop long s)

unfoldable pub terms_in : List ℕ → Terms
terms_in image = record {
  features = features_of (take (body_length FeatureRecord) (drop features_at image));
  sizes = sizes_of (take (body_length SizeRecord) (drop sizes_at image));
  profiles = said_in slot_in (body_length ProfileRecord) profile_limit (drop profiles_at image);
  locks = record {
    count = byte_at image lock_count_at;
    table = said_in lock_of (body_length LockRecord) lock_limit (drop locks_at image);
  };
}

-- the key table: as many records as the image says, as far as it goes
unfoldable pub table_in : List ℕ → List ℕ
table_in image = take (key_record * word_at image key_count_at) (drop key_table_at image)

-- the tag, and with its keys
abbrev pub tag_in : List ℕ → Tag
tag_in image = record { terms = terms_in image; session = session_in image }

abbrev pub keyed_in : List ℕ → KeyedTag
keyed_in image = keyed (tag_in image) (table_in image)

-- ---- which bytes are a tag's

-- in Initial and IA-OK nothing is held
abbrev pub nothing_held : Session → Bool
nothing_held s = all_zero (held_bytes s)

unfoldable pub rests : Session → Bool
rests s = implies (at_rest s.state) (nothing_held s)

-- The state is one of the four, there are no more locks and no more key records than there is room for, a KeyID that is
-- held has its record, and where no challenge waits for its answer nothing is held.
unfoldable pub is_tag : List ℕ → Bool
is_tag image =
    both (ltb (byte_at image 0) 4)
    (both (leb (byte_at image lock_count_at) lock_limit)
    (both (leb (word_at image key_count_at) key_limit)
    (both (key_fits (keys_in (table_in image)) (session_in image).state (session_in image).keyid)
    (rests (session_in image)))))
