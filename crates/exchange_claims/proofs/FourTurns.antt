-- Four turns of an exchange: the reader opens, the tag answers with its challenge; the reader answers that, and the tag
-- lets it in, which is judged in the tag's turn.
use mathlib.Core.Path.{◌≡◌, refl, ap, ◌∙◌}
use mathlib.Core.Bool.{Bool, true, false}
use mathlib.Core.List.{List, []}
use Prim.Native.Nat.{ℕ, ◌+◌, ◌-◌, ◌≤◌}
use native.Mathlib.Omega.{arith}
use lib.ListN.{length, take, drop}
use lib.Seq.{take_at}
use Rattle.ground.specs.Choice.{pick}
use Rattle.modes.specs.Room.{over}
use Rattle.reader.specs.declared.ReaderFault.TheVariants.{OwnMessage}
use Rattle.entry.specs.declared.Session.{Session}
use Rattle.tag.specs.declared.Tag.{Tag}
use Rattle.tag.specs.Answers.{Answer, replied as answers_with, let_in, answer_with, answer_of}
use Rattle.tag.specs.Reactions.{lent}
use Rattle.tag.specs.States.{keyed, keyless}
use Rattle.reader_judge.specs.Findings.{Finding, issues}
use Rattle.reader_judge.specs.Judged.{judgement_of}
use Rattle.turns.specs.declared.Next.TheVariants.{TagAnswers, ReaderCloses, TagEnds, RefusedByReader}
use Rattle.turns.specs.declared.Standing.{Standing}
use Rattle.turns.specs.Standings.{message_zeros, reply_zeros, data_zeros, message_in, readers, tags, has_two, ends_with}
use Rattle.turns.specs.Standings.{Reply, draws_of, turned, sending, challenged, waits}
use Rattle.plan.specs.Drafts.{opening, closing}
use Rattle.turns.specs.Sends.{sends}
use Rattle.turns.specs.Turns.{
  proves,
  meets,
  finding_in,
  closed,
  asked,
  ended_by,
  ended,
  received,
  replied,
  Table,
  table,
  Setting,
  answered_by,
  answered,
  asked_in,
}
use Rattle.exchange.specs.Runs.{played_of}
use Rattle.exchange_claims.proofs.Stepping.{one_turn, by_turns, reader_turn, tag_turn, played_turns}
use Rattle.exchange_claims.proofs.Ending.{never_a_fifth}
use Rattle.exchange_claims.specs.Done.{opening_of, first_call, closing_of, second_call, with_session}
use Rattle.exchange_claims.proofs.TwoTurns.{whose_turn, start, answer, sent, there, opens}

module _ (x : Setting) (limit : ℕ) (tag : Tag) (identity user : List ℕ) (r challenge : List ℕ) (held : Session) where
  -- the challenge that came
  abbrev came : Reply
  came = record { bytes = over r reply_zeros; count = length r }

  abbrev waiting : Standing
  waiting = waits (sent x limit tag identity user) came

  -- the tag that waits for its answer
  abbrev tag' : Tag
  tag' = with_session tag held

  abbrev pub second : Answer
  second = answer_of (second_call x challenge identity user) (keyed tag' x.keys)

  abbrev message : List ℕ
  message = closing_of x challenge

  abbrev closing_sent : Standing
  closing_sent = sending TagEnds (challenged challenge waiting) (over message message_zeros) (length message)

  back : take (length r) (over r reply_zeros) ≡ r
  back = take_at r (drop (length r) reply_zeros) (length r) refl

  answers : 4 ≤ limit → has_two x.plan.method ≡ false
      → answer x limit tag identity user
      ≡ answer_with (keyed tag x.keys).setup (answers_with (first_call x identity user) r held)
      → one_turn x (table (sent x limit tag identity user) tag identity user) ≡ table waiting tag' identity user
  unfolding answered tags draws_of replied received ends_with answers_with
  answers enough four e =
      let s = sent x limit tag identity user in
      tag_turn x (table s tag identity user) (whose_turn tags TagAnswers (limit - 1) (omega arith))
      ∙ ap (λ (l : List ℕ). answered_by x.plan s
      (answer_of (lent l (take 10 x.draws) reply_zeros identity user) (keyed tag x.keys)))
      (there x limit tag identity user)
      ∙ ap (answered_by x.plan s) e
      ∙ ap (λ (b : Bool). table (pick b (ended x.plan s came) waiting) tag' identity user) four

  closes : 4 ≤ limit → (closing x.plan x.words challenge x.plan.method).fit ≡ true
      → judgement_of x.plan.keys (opening_of x) r (length data_zeros) ≡ issues challenge
      → one_turn x (table waiting tag' identity user) ≡ table closing_sent tag' identity user
  unfolding asked_in asked closed meets proves sends finding_in tags readers
  closes enough fit found =
      let judged : Finding = judgement_of x.plan.keys (message_in waiting.sent)
      (take (length r) (over r reply_zeros))
      (length data_zeros) in
      let same : judged ≡ issues challenge
      = (λ j. judgement_of x.plan.keys (there x limit tag identity user j) (back j) (length data_zeros)) ∙ found in
      reader_turn x (table waiting tag' identity user)
      (whose_turn tags ReaderCloses (limit - 1 - 1) (omega arith))
      (whose_turn readers ReaderCloses (limit - 1 - 1) (omega arith))
      ∙ ap (λ (f : Finding). table (meets x.plan x.words f.challenge waiting f.verdict) tag' identity user)
      same
      ∙ ap (λ (b : Bool). table (pick b closing_sent (turned (RefusedByReader OwnMessage)
      (challenged challenge waiting)))
      tag' identity user) fit

  there' : message_in closing_sent.sent ≡ message
  there' = take_at message (drop (length message) message_zeros) (length message) refl

  abbrev empty : Reply
  empty = record { bytes = reply_zeros; count = 0 }

  module _ (purpose : ℕ) (i u : List ℕ)
      (lets : second ≡ answer_with (keyed tag' x.keys).setup
      (let_in (second_call x challenge identity user) purpose i u))
    where
      abbrev pub found : Finding
      found = judgement_of x.plan.keys message [] (length data_zeros)

      abbrev pub after : Table
      after = table (ended_by closing_sent empty found) (keyless second.tag) i u

      ends : 4 ≤ limit → one_turn x (table closing_sent tag' identity user) ≡ after
      unfolding answered tags draws_of replied received ends_with ended finding_in let_in
      ends enough =
          tag_turn x (table closing_sent tag' identity user) (whose_turn tags TagEnds (limit - 1 - 1 - 1) (omega arith))
          ∙ ap (λ (l : List ℕ). answered_by x.plan closing_sent
          (answer_of (lent l (drop 10 x.draws) reply_zeros identity user) (keyed tag' x.keys))) there'
          ∙ (λ j. table (replied x.plan closing_sent (over (lets j).reply reply_zeros) (lets j).outcome)
          (keyless second.tag) (lets j).identity (lets j).user)
          ∙ ap (λ (l : List ℕ). table (ended_by closing_sent empty (judgement_of x.plan.keys l [] (length data_zeros)))
          (keyless second.tag) i u) there'

      module _ (enough : 4 ≤ limit) (four : has_two x.plan.method ≡ false)
          (fit : (opening x.plan x.plan.method).fit ≡ true)
          (e : answer x limit tag identity user
          ≡ answer_with (keyed tag x.keys).setup (answers_with (first_call x identity user) r held))
          (issued : judgement_of x.plan.keys (opening_of x) r (length data_zeros) ≡ issues challenge)
          (fit' : (closing x.plan x.words challenge x.plan.method).fit ≡ true) where
        by_three : by_turns x 3 (start x limit tag identity user) ≡ table closing_sent tag' identity user
        unfolding by_turns
        by_three =
            ap (λ (t : Table). one_turn x (one_turn x t)) (opens x limit tag identity user (omega arith) fit)
            ∙ ap (one_turn x) (answers enough four e)
            ∙ closes enough fit' issued

        pub after_three : played_of x 3 (start x limit tag identity user) ≡ table closing_sent tag' identity user
        after_three = played_turns x 3 (start x limit tag identity user) ∙ by_three

        pub after_four : (n : ℕ) → played_of x (4 + n) (start x limit tag identity user) ≡ after
        unfolding by_turns
        after_four n =
            never_a_fifth x n (start x limit tag identity user)
            ∙ played_turns x 4 (start x limit tag identity user)
            ∙ ap (λ (t : Table). one_turn x (one_turn x (one_turn x t)))
            (opens x limit tag identity user (omega arith) fit)
            ∙ ap (λ (t : Table). one_turn x (one_turn x t)) (answers enough four e)
            ∙ ap (one_turn x) (closes enough fit' issued)
            ∙ ends enough
