-- One turn of either half (M-100). Turn 1 builds; turn 2 answers, and in TAM the reply is judged in that same turn;
-- turn 3 judges the challenge and builds; turn 4 answers and is judged. A refusal by either half ends the exchange.
-- Nothing is said here of what a message comes to: that is the tag's answer and the reader's judgement.
use Rattle.std.specs.Prelude.{ℕ, ◌≡◌, List, length, Result, Ok, Err}
use Rattle.offer.specs.Outcomes.{Outcome}
use Rattle.offer.specs.declared.Answer.TheVariants.{Replied, Entered}
use Rattle.reader.specs.declared.ReaderFault.{ReaderFault}
use Rattle.ground.specs.Choice.{pick}
use Rattle.modes.specs.Room.{over}
use Rattle.reader_judge.specs.Findings.{Finding}
use Rattle.reader_judge.specs.Judged.{judgement_of}
use Rattle.tag.specs.declared.Tag.{Tag}
use Rattle.tag.specs.States.{keyed, keyless}
use Rattle.tag.specs.Answers.{Answer, answer_of}
use Rattle.tag.specs.Reactions.{lent}
use Rattle.plan.specs.declared.Plan.{Plan}
use Rattle.turns.specs.declared.Next.{Next}
use Rattle.turns.specs.declared.Next.TheVariants.{ReaderOpens, TagAnswers, ReaderCloses, TagEnds, Done}
use Rattle.turns.specs.declared.Next.TheVariants.{RefusedByTag, RefusedByReader}
use Rattle.turns.specs.declared.Standing.{Standing}
use Rattle.turns.specs.declared.Played.{Played}
use Rattle.turns.specs.Standings.{Reply, reply_zeros, data_zeros, message_in, reply_in, ends_with, draws_of}
use Rattle.turns.specs.Standings.{verdict_next, turned, challenged, waits, concludes}
use Rattle.plan.specs.Drafts.{opening, closing}
use Rattle.turns.specs.Sends.{sends}

-- ---- the reader's turns

unfoldable pub opened : Plan → Standing → Standing
opened p s = sends TagAnswers s (opening p p.method)

-- The challenge is accepted: it is kept, and answered.
unfoldable pub proves : Plan → List ℕ → List ℕ → Standing → Standing
proves p words challenge s = sends TagEnds (challenged challenge s) (closing p words challenge p.method)

unfoldable pub meets : Plan → List ℕ → List ℕ → Standing → Result Unit ReaderFault → Standing
meets p words challenge s (Ok tt) = proves p words challenge s
meets p words challenge s (Err f) = turned (RefusedByReader f) s

-- The reader's finding in a reply to the message that stands there.
unfoldable pub finding_in : Plan → Standing → Reply → Finding
finding_in p s reply = judgement_of p.keys (message_in s.sent) (reply_in reply) (length data_zeros)

unfoldable pub closed : Plan → List ℕ → Standing → Standing
closed p words s = meets p words (finding_in p s s.reply).challenge s (finding_in p s s.reply).verdict

-- The reader's turn, by what is next.
unfoldable pub asked : Plan → List ℕ → Standing → Next → Standing
asked p words s ReaderOpens = opened p s
asked p words s TagAnswers = s
asked p words s ReaderCloses = closed p words s
asked p words s TagEnds = s
asked p words s Done = s
asked p words s (RefusedByTag f) = s
asked p words s (RefusedByReader f) = s

-- ---- the tag's turns

-- The reply that ends the exchange is judged.
abbrev pub ended_by : Standing → Reply → Finding → Standing
ended_by s reply f = concludes (verdict_next f.verdict) s reply (record {
  bytes = over f.bytes data_zeros;
  count = length f.bytes;
  worth = f.worth;
})

unfoldable pub ended : Plan → Standing → Reply → Standing
ended p s reply = ended_by s reply (finding_in p s reply)

-- A reply ends the exchange, or waits for the reader's answer.
unfoldable pub received : Plan → Standing → Reply → Standing
received p s reply = pick (ends_with s.next p.method) (ended p s reply) (waits s reply)

-- What the tag's outcome makes of what stands, its reply over the first bytes of a room.
unfoldable pub replied : Plan → Standing → List ℕ → Outcome → Standing
replied p s room (Ok (Replied n)) = received p s (record { bytes = room; count = n })
replied p s room (Ok (Entered purpose)) = received p s (record { bytes = room; count = 0 })
replied p s room (Err f) = turned (RefusedByTag f) s

-- ---- both halves

-- What the turns work on: what stands, the tag, and both areas.
pub record Table : Type 0 where
  pub standing : Standing
  pub tag : Tag
  pub identity : List ℕ
  pub user : List ℕ

abbrev pub table : Standing → Tag → List ℕ → List ℕ → Table
table standing tag identity user =
    record { standing = standing; tag = tag; identity = identity; user = user }

-- What stays from turn to turn: the plan, the words of an IAM3, the tag's key table, and its draws.
pub record Setting : Type 0 where
  pub plan : Plan
  pub words : List ℕ
  pub keys : List ℕ
  pub draws : List ℕ

abbrev pub setting : Plan → List ℕ → List ℕ → List ℕ → Setting
setting plan words keys draws = record { plan = plan; words = words; keys = keys; draws = draws }

-- The tag's answer to the message that stands there.
abbrev pub answer_in : List ℕ → List ℕ → Table → Answer
answer_in keys draws t =
    answer_of (lent (message_in t.standing.sent) (draws_of t.standing.next draws) reply_zeros t.identity
    t.user) (keyed t.tag keys)

abbrev pub answered_by : Plan → Standing → Answer → Table
answered_by p s a =
    table (replied p s (over a.reply reply_zeros) a.outcome) (keyless a.tag) a.identity a.user

-- The tag's turn.
unfoldable pub answered : Plan → List ℕ → List ℕ → Table → Table
answered p keys draws t = answered_by p t.standing (answer_in keys draws t)

-- The reader's turn changes neither the tag nor an area.
unfoldable pub asked_in : Plan → List ℕ → Table → Table
asked_in p words t = table (asked p words t.standing t.standing.next) t.tag t.identity t.user

-- What is returned and left is what the turns come to.
pub record Plays (t : Table) (r : Played) (i u : List ℕ) : Type 0 where
  pub standing : r.standing ≡ t.standing
  pub tag : r.tag ≡ t.tag
  pub identity : i ≡ t.identity
  pub user : u ≡ t.user
