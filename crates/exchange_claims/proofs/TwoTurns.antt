-- Two turns of an exchange: the reader opens, the tag answers, and the reply is judged in the tag's turn.
use Rattle.std.specs.Prelude.{Ok}
use Rattle.offer.specs.Outcomes.{Outcome}
use Rattle.offer.specs.declared.Answer.TheVariants.{Replied}
use mathlib.Core.Path.{◌≡◌, refl, ap, ◌∙◌}
use mathlib.Core.Bool.{Bool, true, false}
use mathlib.Core.List.{List}
use Prim.Native.Nat.{ℕ, ◌+◌, ◌-◌, ◌≤◌, ◌<◌}
use native.Mathlib.Omega.{arith}
use borrow.Author.Tests.{ne_eqb}
use lib.ListN.{length, take, drop}
use lib.Seq.{take_at}
use Rattle.ground.specs.Choice.{pick}
use Rattle.modes.specs.Room.{over}
use Rattle.reader.specs.declared.ReaderFault.TheVariants.{OwnMessage}
use Rattle.tag.specs.declared.Tag.{Tag}
use Rattle.tag.specs.Answers.{Answer, answer_of}
use Rattle.tag.specs.Reactions.{lent}
use Rattle.tag.specs.States.{keyed, keyless}
use Rattle.reader_judge.specs.Findings.{Finding}
use Rattle.reader_judge.specs.Judged.{judgement_of}
use Rattle.turns.specs.declared.Next.{Next}
use Rattle.turns.specs.declared.Next.TheVariants.{ReaderOpens, TagAnswers, RefusedByReader}
use Rattle.turns.specs.declared.Standing.{Standing}
use Rattle.turns.specs.Standings.{message_zeros, reply_zeros, data_zeros, message_in, fresh, readers, tags, has_two}
use Rattle.turns.specs.Standings.{Reply, turn_of, ends_with, draws_of, turned, sending, waits}
use Rattle.plan.specs.Drafts.{opening}
use Rattle.turns.specs.Sends.{sends}
use Rattle.turns.specs.Turns.{
  opened,
  finding_in,
  asked,
  ended_by,
  ended,
  received,
  replied,
  Table,
  table,
  Setting,
  answered_by,
  answered,
  asked_in,
}
use Rattle.exchange.specs.Runs.{played_of}
use Rattle.exchange_claims.proofs.Stepping.{one_turn, by_turns, reader_turn, tag_turn, played_turns}
use Rattle.exchange_claims.proofs.Ending.{never_a_third}
use Rattle.exchange_claims.specs.Done.{opening_of, first_call}

-- where a turn is left, it is that of the half that is next
pub whose_turn : (whose : Next → Bool) (n : Next) (left : ℕ) → 0 < left → turn_of whose n left ≡ whose n
whose_turn whose n left h = ap (λ (b : Bool). pick b false (whose n)) (ne_eqb left 0 (λ e. omega arith))

module _ (x : Setting) (limit : ℕ) (tag : Tag) (identity user : List ℕ) where
  abbrev pub start : Table
  start = table (fresh limit) tag identity user

  abbrev pub answer : Answer
  answer = answer_of (first_call x identity user) (keyed tag x.keys)

  -- the message is sent
  abbrev pub sent : Standing
  sent = sending TagAnswers (fresh limit) (over (opening_of x) message_zeros) (length (opening_of x))

  pub opens : 2 ≤ limit → (opening x.plan x.plan.method).fit ≡ true → one_turn x start ≡ table sent tag identity
      user
  unfolding asked_in asked opened sends tags readers
  opens enough fit =
      reader_turn x start (whose_turn tags ReaderOpens limit (omega arith))
      (whose_turn readers ReaderOpens limit (omega arith))
      ∙ ap (λ (b : Bool). table (pick b sent (turned (RefusedByReader OwnMessage) (fresh limit))) tag identity
      user) fit

  pub there : message_in sent.sent ≡ opening_of x
  there = take_at (opening_of x) (drop (length (opening_of x)) message_zeros) (length (opening_of x)) refl

  -- the reply, in its room
  abbrev pub reply : Reply
  reply = record { bytes = over answer.reply reply_zeros; count = length answer.reply }

  came : take (length answer.reply) (over answer.reply reply_zeros) ≡ answer.reply
  came = take_at answer.reply (drop (length answer.reply) reply_zeros) (length answer.reply) refl

  abbrev pub finding : Finding
  finding = judgement_of x.plan.keys (opening_of x) answer.reply (length data_zeros)

  -- what stands after the second turn
  abbrev pub after : Table
  after = table (ended_by sent reply finding) (keyless answer.tag) answer.identity answer.user

  answers : 2 ≤ limit → has_two x.plan.method ≡ true → answer.outcome ≡ Ok (Replied (length answer.reply))
      → one_turn x (table sent tag identity user) ≡ after
  unfolding answered tags draws_of replied received ends_with ended finding_in
  answers enough two taken =
      tag_turn x (table sent tag identity user) (whose_turn tags TagAnswers (limit - 1) (omega arith))
      ∙ ap (λ (l : List ℕ). answered_by x.plan sent
      (answer_of (lent l (take 10 x.draws) reply_zeros identity user) (keyed tag x.keys))) there
      ∙ ap (λ (o : Outcome). table (replied x.plan sent (over answer.reply reply_zeros) o) (keyless answer.tag)
      answer.identity answer.user) taken
      ∙ ap (λ (b : Bool). table (pick b (ended_by sent reply (finding_in x.plan sent reply)) (waits sent reply))
      (keyless answer.tag) answer.identity answer.user) two
      ∙ (λ j. table (ended_by sent reply (judgement_of x.plan.keys (there j) (came j) (length data_zeros)))
      (keyless answer.tag) answer.identity answer.user)

  module _ (enough : 2 ≤ limit) (two : has_two x.plan.method ≡ true)
      (fit : (opening x.plan x.plan.method).fit ≡ true)
      (taken : answer.outcome ≡ Ok (Replied (length answer.reply))) where
    pub after_one : played_of x 1 start ≡ table sent tag identity user
    unfolding by_turns
    after_one = played_turns x 1 start ∙ opens enough fit

    pub after_two : (n : ℕ) → played_of x (2 + n) start ≡ after
    unfolding by_turns
    after_two n =
        never_a_third x n start two refl
        ∙ played_turns x 2 start
        ∙ ap (one_turn x) (opens enough fit)
        ∙ answers enough two taken
