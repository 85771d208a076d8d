-- M-100: a TAM exchange is done after exactly two turns, from every state of the tag; one of IAM or MAM after exactly
-- four, from Initial and IA-OK.
use Rattle.std.specs.Prelude.{◌≡◌, true, List, [], ℕ, ◌+◌, ◌≤◌, length, take, drop, replicate}
use Rattle.ground.specs.Bytes.{Bytes}
use Rattle.modes.specs.Room.{over}
use Rattle.memory.specs.declared.Area.TheVariants.{Identity, User}
use Rattle.memory.specs.Areas.{window_of, stored_in}
use Rattle.keytable.specs.Named.{has_key, key_with}
use Rattle.frames.specs.declared.Kind.{Kind}
use Rattle.frames.specs.declared.Kind.TheVariants.{Tam1, Tam2, Iam1, Iam2, Iam3, Mam1, Mam2}
use Rattle.frames.specs.Fields.{custom_fits}
use Rattle.offer.specs.Records.{block_asked}
use Rattle.entry.specs.declared.Session.{Session}
use Rattle.entry.specs.declared.State.{State}
use Rattle.entry.specs.declared.State.TheVariants.{IamInit, MamInit}
use Rattle.entry.specs.Sessions.{cleared, entered}
use Rattle.tag.specs.declared.Tag.{Tag}
use Rattle.tag.specs.Answers.{Call}
use Rattle.tag.specs.Reactions.{lent}
use Rattle.tag.specs.States.{keyed}
use Rattle.reader.specs.Own.{mode_fits}
use Rattle.reader_build.specs.Builds.{purpose_fits, iam3_fits}
use Rattle.reader_judge.specs.declared.Worth.{Worth}
use Rattle.reader_judge.specs.declared.Worth.TheVariants.{NoData}
use Rattle.plan.specs.declared.Method.TheVariants.{Tam1 as PicksTam1, Tam2 as PicksTam2}
use Rattle.plan.specs.declared.Method.TheVariants.{Iam2 as PicksIam2, Iam3 as PicksIam3, Mam as PicksMam}
use Rattle.turns.specs.declared.Next.TheVariants.{TagAnswers, TagEnds, Done}
use Rattle.turns.specs.Standings.{reply_zeros, data_zeros, fresh}
use Rattle.plan.specs.Drafts.{opening, closing}
use Rattle.turns.specs.Turns.{Table, table, Setting}
use Rattle.exchange.specs.Runs.{played_of}
use Rattle.claims.specs.Entry.{Array, Knows, Waits, Writable}
use Rattle.claims.specs.Openings.{Readable}
use Rattle.claims.specs.Recovery.{Fit, Shares, key_used, worth_asked}

-- The message that opens the exchange, and the call by which the tag gets it: with the first ten of the draws.
abbrev pub opening_of : Setting → List ℕ
opening_of x = (opening x.plan x.plan.method).message

abbrev pub first_call : Setting → List ℕ → List ℕ → Call
first_call x identity user = lent (opening_of x) (take 10 x.draws) reply_zeros identity user

-- The message that answers the tag's challenge, and its call: with the draws behind the first ten.
abbrev pub closing_of : Setting → List ℕ → List ℕ
closing_of x challenge = (closing x.plan x.words challenge x.plan.method).message

abbrev pub second_call : Setting → List ℕ → List ℕ → List ℕ → Call
second_call x challenge identity user = lent (closing_of x challenge) (drop 10 x.draws) reply_zeros identity user

-- A tag with what it holds.
abbrev pub with_session : Tag → Session → Tag
with_session tag held = record { terms = tag.terms; session = held }

-- What an exchange is played on: both halves fit for each other. What is lent and what is sent are bytes, the setup is
-- one that a sheet says, the bench lends what it must, the record is there, and the reader has its keys.
pub record Fitted (kind : Kind) (x : Setting) (tag : Tag) (identity user : List ℕ) : Type 0 where
  pub bytes : Fit (first_call x identity user) (keyed tag x.keys) x.plan.keys
  pub waits : Waits (first_call x identity user) (keyed tag x.keys) kind
  pub there : has_key x.plan.keyid (keyed tag x.keys).setup.keys ≡ true
  pub keys : Shares x.plan.keys (key_used (keyed tag x.keys) (opening_of x))
  pub ten : length x.plan.ichallenge ≡ 10

-- Done, with these data of this worth; the tag in Initial with nothing held, and no byte of an area changed.
pub record DoneWith (t : Table) (tag : Tag) (identity user bytes : List ℕ) (worth : Worth) : Type 0 where
  pub next : t.standing.next ≡ Done
  pub found : t.standing.found ≡ record { bytes = over bytes data_zeros; count = length bytes; worth = worth }
  pub holds : t.tag ≡ record { terms = tag.terms; session = cleared }
  pub identity_kept : t.identity ≡ identity
  pub user_kept : t.user ≡ user

-- One turn is not enough; after two it is done, whatever number of turns is played from then on.
pub record DoneAfterTwo (x : Setting) (start : Table) (tag : Tag) (identity user bytes : List ℕ) (worth : Worth) :
    Type 0
  where
    pub not_after_one : (played_of x 1 start).standing.next ≡ TagAnswers
    pub after_two : (n : ℕ) → DoneWith (played_of x (2 + n) start) tag identity user bytes worth

abbrev pub Tam1Done : Type 0
Tam1Done =
    (x : Setting) (limit : ℕ) (tag : Tag) (identity user : List ℕ)
    → x.plan.method ≡ PicksTam1
    → 2 ≤ limit
    → Fitted Tam1 x tag identity user
    → DoneAfterTwo x (table (fresh limit) tag identity user) tag identity user [] NoData

-- With supported fields, the right to the profile and a block inside it: the words that are recovered are the window's.
abbrev pub Tam2Done : Type 0
Tam2Done =
    (x : Setting) (limit : ℕ) (tag : Tag) (identity user : List ℕ)
    → x.plan.method ≡ PicksTam2
    → 2 ≤ limit
    → Fitted Tam2 x tag identity user
    → mode_fits x.plan.keys x.plan.protmode ≡ true
    → custom_fits x.plan.custom ≡ true
    → (let setup = (keyed tag x.keys).setup in
    Readable setup (key_with x.plan.keyid setup.keys) x.plan.rev x.plan.custom x.plan.protmode
    → DoneAfterTwo x (table (fresh limit) tag identity user) tag identity user
    (window_of identity user (block_asked setup.profiles x.plan.custom)) (worth_asked x.plan.protmode))

-- ---- IAM and MAM

-- What the tag holds after the opening: its challenge, which is the first ten draws, and in MAM the end of the
-- reader's.
abbrev pub held_after : State → List ℕ → Setting → Session
held_after state ichallenge x = record {
  state = state;
  keyid = x.plan.keyid;
  tchallenge = take 10 x.draws;
  ichallenge = ichallenge;
}

-- Both halves fit for each other, over both messages.
pub record FittedTwice (opening-kind closing-kind : Kind) (x : Setting) (tag : Tag) (identity user : List ℕ)
    (held : Session) : Type 0
  where
    pub opens : Fitted opening-kind x tag identity user
    pub bytes : Fit (second_call x (take 10 x.draws) identity user) (keyed (with_session tag held) x.keys)
        x.plan.keys
    pub waits : Waits (second_call x (take 10 x.draws) identity user) (keyed (with_session tag held) x.keys)
        closing-kind
    pub keys : Shares x.plan.keys (key_used (keyed (with_session tag held) x.keys)
        (closing_of x (take 10 x.draws)))
    pub knows : Knows x.plan.keys (key_with x.plan.keyid (keyed tag x.keys).setup.keys)
    pub drawn : Array 10 (take 10 x.draws)

-- Done: the tag is in IA-OK with nothing held, and its areas are these.
pub record LetIn (t : Table) (tag : Tag) (i u : List ℕ) : Type 0 where
  pub next : t.standing.next ≡ Done
  pub holds : t.tag ≡ with_session tag entered
  pub identity_is : t.identity ≡ i
  pub user_is : t.user ≡ u

-- Three turns are not enough; after four it is done, whatever number of turns is played from then on.
pub record DoneAfterFour (x : Setting) (start : Table) (tag : Tag) (i u : List ℕ) : Type 0 where
  pub not_after_three : (played_of x 3 start).standing.next ≡ TagEnds
  pub after_four : (n : ℕ) → LetIn (played_of x (4 + n) start) tag i u

-- From Initial and IA-OK, where an IAM1 or a MAM1 is in its turn.
abbrev pub Iam2Done : Type 0
Iam2Done =
    (x : Setting) (limit : ℕ) (tag : Tag) (identity user : List ℕ)
    → x.plan.method ≡ PicksIam2
    → 4 ≤ limit
    → FittedTwice Iam1 Iam2 x tag identity user (held_after IamInit (replicate 4 0) x)
    → Array 4 x.plan.irnd
    → purpose_fits x.plan.purpose ≡ true
    → DoneAfterFour x (table (fresh limit) tag identity user) tag identity user

abbrev pub MamDone : Type 0
MamDone =
    (x : Setting) (limit : ℕ) (tag : Tag) (identity user : List ℕ)
    → x.plan.method ≡ PicksMam
    → 4 ≤ limit
    → FittedTwice Mam1 Mam2 x tag identity user (held_after MamInit (drop 6 x.plan.ichallenge) x)
    → Array 10 x.plan.ichallenge
    → purpose_fits x.plan.purpose ≡ true
    → DoneAfterFour x (table (fresh limit) tag identity user) tag identity user

-- With supported fields, the right to the profile and an unlocked block inside it: the block's words are the data, and
-- no other word changed.
abbrev pub Iam3Done : Type 0
Iam3Done =
    (x : Setting) (limit : ℕ) (tag : Tag) (identity user : List ℕ)
    → x.plan.method ≡ PicksIam3
    → 4 ≤ limit
    → FittedTwice Iam1 Iam3 x tag identity user (held_after IamInit (replicate 4 0) x)
    → Array 4 x.plan.irnd
    → Bytes x.words
    → iam3_fits x.plan.keys x.plan.custom x.plan.protmode x.plan.purpose (length x.words) ≡ true
    → (let setup = (keyed tag x.keys).setup in
    let block = block_asked setup.profiles x.plan.custom in
    Writable setup (key_with x.plan.keyid setup.keys) x.plan.custom x.plan.protmode
    → DoneAfterFour x (table (fresh limit) tag identity user) tag (stored_in Identity block x.words identity)
    (stored_in User block x.words user))
