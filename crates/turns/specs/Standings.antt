-- What stands between two turns (M-100): whose turn is next, what it becomes in a turn, and its number.
use Rattle.std.specs.Prelude.{ℕ, ◌-◌, Bool, true, false, List, eqb, leb, take, drop, replicate, Result, Ok, Err}
use Rattle.reader.specs.declared.ReaderFault.{ReaderFault}
use Rattle.ground.specs.Choice.{pick}
use Rattle.offer.specs.Outcomes.{number_of as tag_number}
use Rattle.reader.specs.Numbers.{number_of as reader_number}
use Rattle.reader_judge.specs.declared.Worth.TheVariants.{NoData}
use Rattle.plan.specs.declared.Method.{Method}
use Rattle.plan.specs.declared.Method.TheVariants.{Tam1, Tam2, Iam2, Iam3, Mam}
use Rattle.turns.specs.declared.Next.{Next}
use Rattle.turns.specs.declared.Next.TheVariants.{ReaderOpens, TagAnswers, ReaderCloses, TagEnds, Done}
use Rattle.turns.specs.declared.Next.TheVariants.{RefusedByTag, RefusedByReader}
use Rattle.turns.specs.declared.Counted.{Counted}
use Rattle.turns.specs.declared.Found.{Found}
use Rattle.turns.specs.declared.Standing.{Standing}
use Rattle.turns.specs.declared.Begun.{Begun}

-- The rooms of the scope paper: for any message, any reply, and the data of nine blocks.
abbrev pub message_zeros : List ℕ
message_zeros = replicate 176 0

abbrev pub reply_zeros : List ℕ
reply_zeros = replicate 172 0

abbrev pub data_zeros : List ℕ
data_zeros = replicate 144 0

-- The last message, and the last reply.
abbrev pub Sent : Type 0
Sent = Counted 176

abbrev pub Reply : Type 0
Reply = Counted 172

-- The message and the reply that stand there.
abbrev pub message_in : Sent → List ℕ
message_in s = take s.count s.bytes

abbrev pub reply_in : Reply → List ℕ
reply_in r = take r.count r.bytes

-- ---- the beginning

-- Before the first turn: nothing was sent, nothing came, nothing was found.
abbrev pub fresh : ℕ → Standing
fresh limit = record {
  next = ReaderOpens;
  left = limit;
  sent = record { bytes = message_zeros; count = 0 };
  reply = record { bytes = reply_zeros; count = 0 };
  challenge = replicate 10 0;
  found = record { bytes = data_zeros; count = 0; worth = NoData };
}

-- The limits that are taken: 1 to 64.
unfoldable pub limit_fits : ℕ → Bool
limit_fits limit = pick (eqb limit 0) false (leb limit 64)

abbrev pub unbegun : Begun
unbegun = record { number = 40; standing = fresh 0 }

-- 40 for any other limit, and then no turn can be played.
unfoldable pub begun_of : ℕ → Begun
begun_of limit = pick (limit_fits limit) (record { number = 0; standing = fresh limit }) unbegun

-- ---- whose turn is next

-- The reader's turns, and the tag's. An exchange that has ended is nobody's.
unfoldable pub readers : Next → Bool
readers ReaderOpens = true
readers TagAnswers = false
readers ReaderCloses = true
readers TagEnds = false
readers Done = false
readers (RefusedByTag f) = false
readers (RefusedByReader f) = false

unfoldable pub tags : Next → Bool
tags ReaderOpens = false
tags TagAnswers = true
tags ReaderCloses = false
tags TagEnds = true
tags Done = false
tags (RefusedByTag f) = false
tags (RefusedByReader f) = false

-- It is done, or a half refused.
unfoldable pub is_over : Next → Bool
is_over ReaderOpens = false
is_over TagAnswers = false
is_over ReaderCloses = false
is_over TagEnds = false
is_over Done = true
is_over (RefusedByTag f) = true
is_over (RefusedByReader f) = true

-- A turn is left, and it is this half's.
abbrev pub turn_of : (Next → Bool) → Next → ℕ → Bool
turn_of whose next left = pick (eqb left 0) false (whose next)

abbrev pub reader_next : Standing → Bool
reader_next s = turn_of readers s.next s.left

abbrev pub tag_next : Standing → Bool
tag_next s = turn_of tags s.next s.left

-- TAM has two turns, IAM and MAM have four.
unfoldable pub has_two : Method → Bool
has_two Tam1 = true
has_two Tam2 = true
has_two Iam2 = false
has_two Iam3 = false
has_two Mam = false

-- The tag's turn that ends the exchange: its second, and in TAM its first.
unfoldable pub ends_with : Next → Method → Bool
ends_with ReaderOpens m = has_two m
ends_with TagAnswers m = has_two m
ends_with ReaderCloses m = has_two m
ends_with TagEnds m = true
ends_with Done m = has_two m
ends_with (RefusedByTag f) m = has_two m
ends_with (RefusedByReader f) m = has_two m

-- Ten draws for each of the tag's turns.
unfoldable pub draws_of : Next → List ℕ → List ℕ
draws_of ReaderOpens d = take 10 d
draws_of TagAnswers d = take 10 d
draws_of ReaderCloses d = take 10 d
draws_of TagEnds d = drop 10 d
draws_of Done d = take 10 d
draws_of (RefusedByTag f) d = take 10 d
draws_of (RefusedByReader f) d = take 10 d

-- How a judged reply ends the exchange.
unfoldable pub verdict_next : Result Unit ReaderFault → Next
verdict_next (Ok tt) = Done
verdict_next (Err f) = RefusedByReader f

-- ---- the number

-- 41: no turn is left, of an exchange that has not ended.
unfoldable pub waiting : ℕ → ℕ
waiting left = pick (eqb left 0) 41 0

-- 0 where it is done, or goes on; the number of the half that refused.
unfoldable pub number_of : Next → ℕ → ℕ
number_of ReaderOpens left = waiting left
number_of TagAnswers left = waiting left
number_of ReaderCloses left = waiting left
number_of TagEnds left = waiting left
number_of Done left = 0
number_of (RefusedByTag f) left = tag_number f
number_of (RefusedByReader f) left = reader_number f

-- ---- what a turn makes of what stands

-- One turn fewer is left, and nothing else changes.
abbrev pub turned : Next → Standing → Standing
turned next s = record {
  next = next;
  left = s.left - 1;
  sent = s.sent;
  reply = s.reply;
  challenge = s.challenge;
  found = s.found;
}

-- A message is sent: n bytes of a room.
abbrev pub sending : Next → Standing → List ℕ → ℕ → Standing
sending next s room n = record {
  next = next;
  left = s.left - 1;
  sent = record { bytes = room; count = n };
  reply = s.reply;
  challenge = s.challenge;
  found = s.found;
}

-- The tag's challenge is kept; no turn is counted.
abbrev pub challenged : List ℕ → Standing → Standing
challenged challenge s = record {
  next = s.next;
  left = s.left;
  sent = s.sent;
  reply = s.reply;
  challenge = challenge;
  found = s.found;
}

-- A reply that the reader answers.
abbrev pub waits : Standing → Reply → Standing
waits s reply = record {
  next = ReaderCloses;
  left = s.left - 1;
  sent = s.sent;
  reply = reply;
  challenge = s.challenge;
  found = s.found;
}

-- A reply that ends the exchange, and what was found in it.
abbrev pub concludes : Next → Standing → Reply → Found → Standing
concludes next s reply found = record {
  next = next;
  left = s.left - 1;
  sent = s.sent;
  reply = reply;
  challenge = s.challenge;
  found = found;
}
