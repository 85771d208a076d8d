-- A run of what reaches a tag: each event finds the tag and the areas as the last one left them.
use Rattle.std.specs.Prelude.{ℕ, List, [], ◌∷◌, Ok}
use Rattle.offer.specs.declared.Answer.TheVariants.{Replied}
use Rattle.tag.specs.States.{KeyedTag, powered_up}
use Rattle.tag.specs.Answers.{Answer, Call, answer_of}

-- What comes from outside with each message.
pub record Sent : Type 0 where
  pub message : List ℕ
  pub draws : List ℕ
  pub room : ℕ

abbrev pub call_of : Sent → List ℕ → List ℕ → Call
call_of s identity user = record {
  message = s.message;
  draws = s.draws;
  room = s.room;
  identity = identity;
  user = user;
}

-- What reaches a tag: a message, or the power, at a power-up or a reset.
pub data Event : Type 0 where
  Message : Sent → Event
  PowerUp : Event

-- What an event comes to. At power-up nothing is sent and no word changes; an empty reply stands for that.
unfoldable pub answer_to : KeyedTag → List ℕ → List ℕ → Event → Answer
answer_to tag identity user (Message s) = answer_of (call_of s identity user) tag
answer_to tag identity user PowerUp =
    record { outcome = Ok (Replied 0); tag = powered_up tag.setup; reply = []; identity = identity; user = user }

-- The answers to a run of events.
unfoldable pub run : KeyedTag → List ℕ → List ℕ → List Event → List Answer
run tag identity user [] = []
run tag identity user (e ∷ es) =
    let a = answer_to tag identity user e in
    a ∷ run a.tag a.identity a.user es
