-- Demand 2, recovery: what the reader's side makes of a tag's own answer. Whatever the message, the draws and the
-- areas, where the tag takes the message and the reader has the keys of the record that the tag uses, the judge accepts
-- the reply, hands over exactly the words of the block that the message asks for, and holds the challenge that the tag
-- holds.
use Rattle.std.specs.Prelude.{ℕ, ◌≤◌, ◌≡◌, List, length, take, Result, Ok, Err}
use Rattle.offer.specs.Outcomes.{Outcome}
use Rattle.offer.specs.declared.Answer.TheVariants.{Replied, Entered}
use Rattle.ground.specs.Bytes.{Bytes, byte_at}
use Rattle.memory.specs.Areas.{window_of}
use Rattle.sheet.specs.declared.Key.{Key}
use Rattle.sheet.specs.Limits.{key_limit}
use Rattle.sheet.specs.Within.{Within}
use Rattle.frames.specs.declared.Kind.{Kind}
use Rattle.frames.specs.declared.Kind.TheVariants.{Tam1, Tam2, Iam1, Iam2, Iam3, Mam1, Mam2, Unsupported}
use Rattle.frames.specs.Kinds.{kind_of}
use Rattle.frames.specs.Modes.{in_mode, prot_mode_of}
use Rattle.frames.specs.Messages.{tam1_of, tam2_of, iam1_of, mam1_of}
use Rattle.tag.specs.declared.Tag.{Tag}
use Rattle.tag.specs.States.{KeyedTag, keyed}
use Rattle.tag.specs.Answers.{Answer, Call, answer_of}
use Rattle.offer.specs.Outcomes.{reply_length}
use Rattle.keytable.specs.Named.{key_with}
use Rattle.offer.specs.Records.{block_asked}
use Rattle.tag.specs.Reactions.{lent}
use Rattle.tag.specs.Plays.{Brought, Left, Called}
use Rattle.claims.specs.HasKeys.{HasKeys}
use Rattle.reader_judge.specs.declared.Accepted.{Accepted}
use Rattle.reader.specs.declared.ReaderFault.{ReaderFault}
use Rattle.reader_judge.specs.declared.Worth.{Worth}
use Rattle.reader_judge.specs.declared.Worth.TheVariants.{NoData}
use Rattle.reader.specs.declared.Keys.{Keys}
use Rattle.reader_judge.specs.Findings.{Finding, nothing_more, carries, worth_of, issues, Judges}
use Rattle.reader_judge.specs.Judged.{judgement_of}
use Rattle.reader.specs.Own.{data_room}

-- The tag took the message.
abbrev pub Taken : Outcome → Type 0
Taken (Ok (Replied n)) = Unit {0}
Taken (Ok (Entered purpose)) = Unit {0}
Taken (Err f) = ⊥

-- The KeyID of the record that the tag uses: the message's, or the one that is held since the message before.
unfoldable pub keyid_used : KeyedTag → List ℕ → Kind → ℕ
keyid_used tag m Tam1 = (tam1_of m).keyid
keyid_used tag m Tam2 = (tam2_of m).keyid
keyid_used tag m Iam1 = (iam1_of m).keyid
keyid_used tag m Iam2 = tag.session.keyid
keyid_used tag m Iam3 = tag.session.keyid
keyid_used tag m Mam1 = (mam1_of m).keyid
keyid_used tag m Mam2 = tag.session.keyid
keyid_used tag m Unsupported = 0

abbrev pub key_used : KeyedTag → List ℕ → Key
key_used tag m = key_with (keyid_used tag m (kind_of (byte_at m 0))) tag.setup.keys

-- The reader has the keys of a record, and knows whether it has one for a MAC.
pub record Shares (keys : Keys) (key : Key) : Type 0 where
  pub has : HasKeys keys key
  pub mac : keys.mac ≡ key.mac

-- What is lent and what is sent are bytes, and the setup is one that a sheet says.
pub record Fit (c : Call) (tag : KeyedTag) (keys : Keys) : Type 0 where
  pub setup : Within key_limit tag.setup
  pub message : Bytes c.message
  pub draws : Bytes c.draws
  pub identity : Bytes c.identity
  pub user : Bytes c.user
  pub enc : Bytes keys.enc

-- What data are worth by the field ProtMode; nothing where it says no mode, which no answered message does.
abbrev pub worth_asked : ℕ → Worth
worth_asked protmode = in_mode (prot_mode_of protmode) worth_of NoData

-- What the reader is to find, of an answer to a message of a kind.
unfoldable pub due : Call → KeyedTag → Answer → Kind → Finding
due c tag a Tam1 = nothing_more
due c tag a Tam2 = carries (worth_asked (tam2_of c.message).protmode)
    (window_of c.identity c.user (block_asked tag.setup.profiles (tam2_of c.message).custom))
due c tag a Iam1 = issues a.tag.session.tchallenge
due c tag a Iam2 = nothing_more
due c tag a Iam3 = nothing_more
due c tag a Mam1 = issues a.tag.session.tchallenge
due c tag a Mam2 = nothing_more
due c tag a Unsupported = nothing_more

abbrev pub Recovery : Type 0
Recovery =
    (c : Call) (tag : KeyedTag) (keys : Keys) (room : ℕ) → Fit c tag keys → Shares keys (key_used tag c.message)
    → data_room ≤ room → Taken (answer_of c tag).outcome
    → judgement_of keys c.message (answer_of c tag).reply room ≡ due c tag (answer_of c tag)
    (kind_of (byte_at c.message 0))

-- The same of the code: what `tag::step` left in the room, as far as `offer::reply_length` says, given to the judge.
abbrev pub RecoveryCode : Type 0
RecoveryCode =
    (table : List ℕ) (tag : Tag) (identity user : List ℕ) (b : Brought) (x : Left) (keys : Keys) (room : List ℕ)
    (r : Result Accepted ReaderFault) (after : List ℕ)
    → Called table tag identity user b x
    → Fit (lent b.message b.draws b.room identity user) (keyed tag table) keys
    → Shares keys (key_used (keyed tag table) b.message)
    → data_room ≤ length room
    → Taken x.stepped.outcome
    → Judges (judgement_of keys b.message (take (reply_length x.stepped.outcome) x.room) (length room)) room r
    after
    → (let c = lent b.message b.draws b.room identity user in
    Judges (due c (keyed tag table) (answer_of c (keyed tag table)) (kind_of (byte_at b.message 0))) room r after)
