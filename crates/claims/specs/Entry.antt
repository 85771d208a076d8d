-- Entry: a reader that has the keys of the record that the tag holds, and sends back the tag's challenge, is let in,
-- with the Purpose that it sent.
use Rattle.std.specs.Prelude.{◌≡◌, true, false, List, ℕ, length, drop, Ok}
use Rattle.ground.specs.Bytes.{Bytes}
use Rattle.memory.specs.declared.Area.TheVariants.{Identity, User}
use Rattle.memory.specs.Address.{overruns}
use Rattle.memory.specs.Areas.{stored_in}
use Rattle.memory.specs.Rights.{permitted, some_locked}
use Rattle.frames.specs.declared.Custom.{Custom}
use Rattle.frames.specs.declared.Kind.{Kind}
use Rattle.frames.specs.declared.Kind.TheVariants.{Iam2, Mam2, Iam3}
use Rattle.sheet.specs.declared.Key.{Key}
use Rattle.sheet.specs.Setups.{Setup}
use Rattle.tag.specs.States.{KeyedTag}
use Rattle.offer.specs.Checks.{judged}
use Rattle.offer.specs.Judged.{lending_checks}
use Rattle.tag.specs.States.{in_turn}
use Rattle.keytable.specs.Named.{key_with}
use Rattle.offer.specs.Records.{offered, slot_named, size_offered, mode_supported, block_asked}
use Rattle.tag.specs.Answers.{Call, let_in, answer_with, answer_of}
use Rattle.claims.specs.HasKeys.{HasKeys}
use Rattle.reader.specs.declared.Keys.{Keys}
use Rattle.reader_build.specs.Builds.{purpose_fits, iam2_made, mam2_made, iam3_made, iam3_fits}

-- An array of n bytes.
pub record Array (n : ℕ) (s : List ℕ) : Type 0 where
  pub long : length s ≡ n
  pub bytes : Bytes s

-- The reader has the keys of the record, whose ENC_key is sixteen bytes.
pub record Knows (keys : Keys) (key : Key) : Type 0 where
  pub has : HasKeys keys key
  pub array : Array 16 key.enc

-- The bench lends what it must, the tag offers the message, and waits for it (Annex A).
pub record Waits (c : Call) (tag : KeyedTag) (kind : Kind) : Type 0 where
  pub bench : judged (lending_checks tag.setup.sizes (length c.draws) c.room (length c.identity)
      (length c.user)) ≡ Ok tt
  pub there : offered tag.setup.features kind ≡ true
  pub turn : in_turn tag.session.state kind ≡ true

-- 9.5.4 to 9.5.6: IAM2, whatever IRnd is.
abbrev pub Iam2Enters : Type 0
Iam2Enters =
    (c : Call) (tag : KeyedTag) (keys : Keys) (purpose : ℕ) (irnd : List ℕ)
    → Waits c tag Iam2
    → Knows keys (key_with tag.session.keyid tag.setup.keys)
    → Array 10 tag.session.tchallenge
    → Array 4 irnd
    → purpose_fits purpose ≡ true
    → c.message ≡ iam2_made keys purpose irnd tag.session.tchallenge
    → answer_of c tag ≡ answer_with tag.setup (let_in c purpose c.identity c.user)

-- 9.6.4 to 9.6.6: MAM2, by the reader whose own challenge the tag holds the end of.
abbrev pub Mam2Enters : Type 0
Mam2Enters =
    (c : Call) (tag : KeyedTag) (keys : Keys) (purpose : ℕ) (ichallenge : List ℕ)
    → Waits c tag Mam2
    → Knows keys (key_with tag.session.keyid tag.setup.keys)
    → Array 10 tag.session.tchallenge
    → Array 10 ichallenge
    → tag.session.ichallenge ≡ drop 6 ichallenge
    → purpose_fits purpose ≡ true
    → c.message ≡ mam2_made keys purpose ichallenge tag.session.tchallenge
    → answer_of c tag ≡ answer_with tag.setup (let_in c purpose c.identity c.user)

-- The tag supports what an IAM3 asks for, and may write there (9.5.8).
pub record Writable (setup : Setup) (key : Key) (custom : Custom) (protmode : ℕ) : Type 0 where
  pub mode : mode_supported setup.features key protmode ≡ true
  pub present : (slot_named setup.profiles custom.profile).present ≡ true
  pub right : permitted key.mpi custom.profile ≡ true
  pub size : size_offered setup.features custom.blocksize ≡ true
  pub inside : overruns (slot_named setup.profiles custom.profile).profile (block_asked setup.profiles custom) ≡
      false
  pub unlocked : some_locked setup.locks.table setup.locks.count (block_asked setup.profiles custom) ≡ false

-- 9.5.4, 9.5.8, 9.5.9: IAM3, in each ProtMode; the reader's data become the words of the block, and no other word
-- changes.
abbrev pub Iam3Enters : Type 0
Iam3Enters =
    (c : Call) (tag : KeyedTag) (keys : Keys) (custom : Custom) (protmode purpose : ℕ) (irnd words : List ℕ)
    → Waits c tag Iam3
    → Knows keys (key_with tag.session.keyid tag.setup.keys)
    → Array 10 tag.session.tchallenge
    → Array 4 irnd
    → Bytes words
    → iam3_fits keys custom protmode purpose (length words) ≡ true
    → Writable tag.setup (key_with tag.session.keyid tag.setup.keys) custom protmode
    → c.message ≡ iam3_made keys custom protmode purpose irnd tag.session.tchallenge words
    → answer_of c tag
    ≡ answer_with tag.setup (let_in c purpose
    (stored_in Identity (block_asked tag.setup.profiles custom) words c.identity)
    (stored_in User (block_asked tag.setup.profiles custom) words c.user))
