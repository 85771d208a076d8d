-- The tag: what one message comes to. Its entry is `answer_of`, the last definition; read from there upwards: the tag
-- afterwards, number 7, the empty message, method, step or feature, the turn, and then by kind, as `tam` and `entry`
-- say.
use Rattle.std.specs.Prelude.{ℕ, List, [], ◌∷◌, length, Result, Ok, Err}
use Rattle.offer.specs.Outcomes.{Outcome}
use Rattle.offer.specs.declared.Answer.TheVariants.{Replied, Entered}
use Rattle.ground.specs.Choice.{pick}
use Rattle.memory.specs.declared.Area.TheVariants.{Identity, User}
use Rattle.sheet.specs.declared.Key.{Key}
use Rattle.sheet.specs.Setups.{Setup}
use Rattle.frames.specs.declared.Kind.{Kind}
use Rattle.frames.specs.declared.Kind.TheVariants.{Tam1, Tam2, Iam1, Iam2, Iam3, Mam1, Mam2, Unsupported}
use Rattle.frames.specs.Kinds.{kind_of}
use Rattle.offer.specs.declared.TagFault.{TagFault}
use Rattle.offer.specs.declared.TagFault.TheVariants.{OtherError, NotSupported, OutOfTurn}
use Rattle.offer.specs.Checks.{judged}
use Rattle.offer.specs.Records.{offered}
use Rattle.offer.specs.Judged.{lending_checks}
use Rattle.tam.specs.Given.{tam1_checked, tam1_sent, tam2_checked, tam2_sent}
use Rattle.entry.specs.declared.Session.{Session}
use Rattle.entry.specs.Sessions.{cleared, entered}
use Rattle.entry.specs.Given.{iam1_checked, iam1_held, iam2_checked, iam2_purpose, iam3_checked, iam3_purpose}
use Rattle.entry.specs.Given.{iam3_stored}
use Rattle.entry.specs.Given.{mam1_checked, mam1_sent, mam1_held, mam2_checked, mam2_purpose}
use Rattle.tag.specs.States.{KeyedTag, holding, in_turn}

-- What a call comes to: the outcome, the tag afterwards with its key table, the reply's bytes, and both areas.
pub record Answer : Type 0 where
  pub outcome : Outcome
  pub tag : KeyedTag
  pub reply : List ℕ
  pub identity : List ℕ
  pub user : List ℕ

-- What a message does, to a tag whose setup is known: of the tag only what it holds next.
pub record Effect : Type 0 where
  pub outcome : Outcome
  pub session : Session
  pub reply : List ℕ
  pub identity : List ℕ
  pub user : List ℕ

-- A message leaves the setup as it was, the key table in it too, and changes what is held.
abbrev pub answer_with : Setup → Effect → Answer
answer_with setup e = record {
  outcome = e.outcome;
  tag = holding setup e.session;
  reply = e.reply;
  identity = e.identity;
  user = e.user;
}

-- What a message says: bytes; what the bench lends: draws, the length of the reply room, and the areas.
pub record Call : Type 0 where
  pub message : List ℕ
  pub draws : List ℕ
  pub room : ℕ
  pub identity : List ℕ
  pub user : List ℕ

module _ (c : Call) where
  -- A refusal sends nothing, writes no word, and leaves the tag in the session that is named.
  unfoldable pub refused : TagFault → Session → Effect
  refused f s = record { outcome = Err f; session = s; reply = []; identity = c.identity; user = c.user }

  unfoldable pub replied : List ℕ → Session → Effect
  replied reply s = record {
    outcome = Ok (Replied (length reply));
    session = s;
    reply = reply;
    identity = c.identity;
    user = c.user;
  }

  -- The reader is let in: an empty reply, and its Purpose for the host.
  unfoldable pub let_in : ℕ → List ℕ → List ℕ → Effect
  let_in purpose identity user = record {
    outcome = Ok (Entered purpose);
    session = entered;
    reply = [];
    identity = identity;
    user = user;
  }

  -- Numbers 1 to 6 end in Initial.
  unfoldable pub if_fine : Result Unit TagFault → Effect → Effect
  if_fine (Ok tt) e = e
  if_fine (Err f) e = refused f cleared

  module _ (keys : List Key) where
    -- TAM ends in Initial, whatever was held.
    unfoldable pub tam1_answer : Effect
    tam1_answer = if_fine (tam1_checked keys c.message) (replied (tam1_sent keys c.message c.draws) cleared)

    -- The challenge is the draws themselves.
    unfoldable pub iam1_answer : Effect
    iam1_answer = if_fine (iam1_checked keys c.message) (replied c.draws (iam1_held c.message c.draws))

    unfoldable pub mam1_answer : Effect
    mam1_answer =
        if_fine (mam1_checked keys c.message)
        (replied (mam1_sent keys c.message c.draws) (mam1_held c.message c.draws))

    module _ (held : Session) where
      unfoldable pub iam2_answer : Effect
      iam2_answer =
          if_fine (iam2_checked keys held c.message)
          (let_in (iam2_purpose keys held c.message) c.identity c.user)

      unfoldable pub mam2_answer : Effect
      mam2_answer =
          if_fine (mam2_checked keys held c.message)
          (let_in (mam2_purpose keys held c.message) c.identity c.user)

  module _ (setup : Setup) where
    unfoldable pub tam2_answer : Effect
    tam2_answer =
        if_fine (tam2_checked setup c.message)
        (replied (tam2_sent setup c.message c.draws c.identity c.user) cleared)

    module _ (held : Session) where
      -- After everything was judged the words of the block are written, and no others.
      unfoldable pub iam3_answer : Effect
      iam3_answer =
          if_fine (iam3_checked setup held c.message)
          (let_in (iam3_purpose setup held c.message) (iam3_stored setup held c.message Identity c.identity)
          (iam3_stored setup held c.message User c.user))

      unfoldable pub by_kind : Kind → Effect
      by_kind Tam1 = tam1_answer setup.keys
      by_kind Tam2 = tam2_answer
      by_kind Iam1 = iam1_answer setup.keys
      by_kind Iam2 = iam2_answer setup.keys held
      by_kind Iam3 = iam3_answer
      by_kind Mam1 = mam1_answer setup.keys
      by_kind Mam2 = mam2_answer setup.keys held
      by_kind Unsupported = refused NotSupported cleared

      -- A message that is there and offered, in its turn.
      unfoldable pub in_order : Kind → Effect
      in_order kind =
          pick (offered setup.features kind)
          (pick (in_turn held.state kind) (by_kind kind) (refused OutOfTurn cleared))
          (refused NotSupported cleared)

      unfoldable pub of_message : List ℕ → Effect
      of_message [] = refused OtherError cleared
      of_message (first ∷ rest) = in_order (kind_of first)

      -- Number 7 changes nothing at all.
      abbrev pub of_lending : Result Unit TagFault → Effect
      of_lending (Ok tt) = of_message c.message
      of_lending (Err f) = refused f held

  unfoldable pub effect_of : KeyedTag → Effect
  effect_of tag =
      of_lending tag.setup tag.session
      (judged (lending_checks tag.setup.sizes (length c.draws) c.room (length c.identity)
      (length c.user)))

  -- The tag's answer.
  abbrev pub answer_of : KeyedTag → Answer
  answer_of tag = answer_with tag.setup (effect_of tag)
