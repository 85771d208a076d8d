-- A run of the code: each call is given the tag and the areas that the last one left, and leaves what its contract
-- says. First of any code, whatever it keeps a tag in; then of `step` and `power_up`, to which the key table is lent.
use Rattle.std.specs.Prelude.{◌≡◌, List, [], ◌∷◌, ℕ, length, Ok}
use Rattle.offer.specs.declared.Answer.TheVariants.{Replied}
use Rattle.modes.specs.Room.{over}
use Rattle.tag.specs.declared.Stepped.{Stepped}
use Rattle.tag.specs.declared.Tag.{Tag}
use Rattle.tag.specs.States.{keyed, awake}
use Rattle.tag.specs.Answers.{Answer, answer_of}
use Rattle.tag.specs.Reactions.{lent, Steps}
use Rattle.tag.specs.Runs.{Sent, Event, Message, PowerUp}

-- What the bench brings to a step, the room with its bytes.
pub record Brought : Type 0 where
  pub message : List ℕ
  pub draws : List ℕ
  pub room : List ℕ

-- A call of the code: a step, or a power-up.
pub data Doing : Type 0 where
  Step : Brought → Doing
  Wake : Doing

-- What a call leaves: what it tells of the step, the tag afterwards in it; the room; and both areas.
pub record LeftWith (Told : Type 0) : Type 0 where
  pub stepped : Told
  pub room : List ℕ
  pub identity : List ℕ
  pub user : List ℕ

-- A run of calls. `Leaves` says what one leaves, of a tag and areas; `next` is the tag in what is told.
module _ {Of Told : Type 0} (Leaves : Of → List ℕ → List ℕ → Doing → LeftWith Told → Type 0) (next : Told → Of)
  where
    unfoldable pub OneByOne : Of → List ℕ → List ℕ → List Doing → List (LeftWith Told) → Type 0
    OneByOne tag identity user [] [] = Unit
    OneByOne tag identity user [] (x ∷ xs) = ⊥
    OneByOne tag identity user (d ∷ ds) [] = ⊥
    OneByOne tag identity user (d ∷ ds) (x ∷ xs) =
        Leaves tag identity user d x × OneByOne (next x.stepped) x.identity x.user ds xs

-- ---- what the definition's run says is left

-- Of the room only the length counts for an answer.
abbrev pub sent_of : Brought → Sent
sent_of b = record { message = b.message; draws = b.draws; room = length b.room }

abbrev pub event_of : Doing → Event
event_of (Step b) = Message (sent_of b)
event_of Wake = PowerUp

unfoldable pub events_of : List Doing → List Event
events_of [] = []
events_of (d ∷ ds) = event_of d ∷ events_of ds

-- The room that a call was lent; a power-up has none.
abbrev pub room_of : Doing → List ℕ
room_of (Step b) = b.room
room_of Wake = []

-- `tells` is what a call tells of an answer.
module _ {Told : Type 0} (tells : Answer → Told) where
  abbrev pub left_of : Doing → Answer → LeftWith Told
  left_of d a = record {
    stepped = tells a;
    room = over a.reply (room_of d);
    identity = a.identity;
    user = a.user;
  }

  unfoldable pub left_all : List Doing → List Answer → List (LeftWith Told)
  left_all [] answers = []
  left_all (d ∷ ds) [] = []
  left_all (d ∷ ds) (a ∷ answers) = left_of d a ∷ left_all ds answers

-- ---- `step` and `power_up`

abbrev pub Left : Type 0
Left = LeftWith Stepped

-- One step, by its contract.
abbrev pub Called : List ℕ → Tag → List ℕ → List ℕ → Brought → Left → Type 0
Called keys tag identity user b x =
    Steps (answer_of (lent b.message b.draws b.room identity user) (keyed tag keys)) b.room x.stepped
    x.room x.identity x.user

-- `power_up` has no room and is lent no area: it leaves its tag.
abbrev pub woken : Tag → List ℕ → List ℕ → Left
woken tag identity user = record {
  stepped = record { outcome = Ok (Replied 0); tag = awake tag.terms };
  room = [];
  identity = identity;
  user = user;
}

abbrev pub Does : List ℕ → Tag → List ℕ → List ℕ → Doing → Left → Type 0
Does keys tag identity user (Step b) x = Called keys tag identity user b x
Does keys tag identity user Wake x = x ≡ woken tag identity user

abbrev pub Plays : List ℕ → Tag → List ℕ → List ℕ → List Doing → List Left → Type 0
Plays keys = OneByOne (Does keys) (λ (s : Stepped). s.tag)
