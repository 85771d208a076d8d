-- The scope paper's table of the tag's numbers, row by row: what is held after each; and the reply's length.
use mathlib.Core.Path.{◌≡◌, refl}
use lib.ListN.{length}
use Rattle.frames.specs.declared.Kind.{Kind}
use Rattle.frames.specs.declared.Kind.TheVariants.{Tam1, Tam2, Iam1, Iam2, Iam3, Mam1, Mam2, Unsupported}
use Rattle.frames.specs.Kinds.{kind_of}
use Rattle.sheet.specs.Setups.{Setup}
use Rattle.offer.specs.declared.TagFault.{TagFault}
use Rattle.offer.specs.declared.TagFault.TheVariants.{OtherError, NotSupported, MemoryOverrun, MemoryWriteError}
use Rattle.offer.specs.declared.TagFault.TheVariants.{OutOfTurn, ProofWrong, BenchFault}
use Rattle.entry.specs.declared.Session.{Session}
use Rattle.tag.specs.States.{KeyedTag}
use Rattle.entry.specs.Sessions.{cleared}
use Rattle.offer.specs.Outcomes.{reply_length}
use Rattle.tag.specs.States.{session_after}
use Rattle.tag.specs.Answers.{Effect, Call, refused, replied, let_in, tam1_answer, tam2_answer, iam1_answer}
use Rattle.tag.specs.Answers.{iam2_answer, iam3_answer, mam1_answer, mam2_answer, by_kind, answer_of}
use Rattle.tag.proofs.Cases.{fine_case, effect_case}

-- A row: what the tag holds afterwards, where it held `held`. (The numbers stand in `offer`.)
abbrev ToInitial : TagFault → Type 0
ToInitial f = (held : Session) → session_after f held ≡ cleared

pub other_error : ToInitial OtherError
other_error held = refl

pub not_supported : ToInitial NotSupported
not_supported held = refl

pub memory_overrun : ToInitial MemoryOverrun
memory_overrun held = refl

pub memory_write_error : ToInitial MemoryWriteError
memory_write_error held = refl

pub out_of_turn : ToInitial OutOfTurn
out_of_turn held = refl

pub proof_wrong : ToInitial ProofWrong
proof_wrong held = refl

pub bench_fault : (held : Session) → session_after BenchFault held ≡ held
bench_fault held = refl

-- The length that is told is that of the reply; with a refusal it is 0.
abbrev Told : Effect → Type 0
Told e = reply_length e.outcome ≡ length e.reply

module _ (c : Call) where
  refusal_told : (f : TagFault) (s : Session) → Told (refused c f s)
  unfolding refused
  refusal_told f s = refl

  kind_told : (setup : Setup) (held : Session) (k : Kind) → Told (by_kind c setup held k)
  unfolding by_kind tam1_answer tam2_answer iam1_answer iam2_answer iam3_answer mam1_answer mam2_answer replied let_in
  kind_told setup held Tam1 = fine_case c Told (λ f. refusal_told f cleared) _ _ refl
  kind_told setup held Tam2 = fine_case c Told (λ f. refusal_told f cleared) _ _ refl
  kind_told setup held Iam1 = fine_case c Told (λ f. refusal_told f cleared) _ _ refl
  kind_told setup held Iam2 = fine_case c Told (λ f. refusal_told f cleared) _ _ refl
  kind_told setup held Iam3 = fine_case c Told (λ f. refusal_told f cleared) _ _ refl
  kind_told setup held Mam1 = fine_case c Told (λ f. refusal_told f cleared) _ _ refl
  kind_told setup held Mam2 = fine_case c Told (λ f. refusal_told f cleared) _ _ refl
  kind_told setup held Unsupported = refusal_told NotSupported cleared

  pub length_told : (tag : KeyedTag) → reply_length (answer_of c tag).outcome ≡ length (answer_of c tag).reply
  length_told tag =
      effect_case c Told (λ f. refusal_told f cleared) tag (λ f. refusal_told f tag.session)
      (λ first rest e o t. kind_told tag.setup tag.session (kind_of first))
