-- What a call leaves behind: the outcome and what is held, or the tag, in what is returned, the reply over the first
-- bytes of the room, the areas in the areas.
use Rattle.std.specs.Prelude.{◌≡◌, List, [], ℕ, length, Result, Ok, Err}
use Rattle.offer.specs.declared.TagFault.{TagFault}
use Rattle.offer.specs.declared.Answer.TheVariants.{Replied}
use Rattle.offer.specs.Outcomes.{Outcome}
use Rattle.entry.specs.declared.Session.{Session}
use Rattle.modes.specs.Room.{over}
use Rattle.entry.specs.declared.Reacted.{Reacted}
use Rattle.tag.specs.declared.Stepped.{Stepped}
use Rattle.offer.specs.Outcomes.{number_given}
use Rattle.tag.specs.States.{keyless}
use Rattle.tag.specs.Answers.{Answer, Effect, Call}

-- A call by what is lent to it: of the room only the length counts.
abbrev pub lent : List ℕ → List ℕ → List ℕ → List ℕ → List ℕ → Call
lent message draws room identity user =
    record { message = message; draws = draws; room = length room; identity = identity; user = user }

-- What is returned, and the room.
pub record Reacts (e : Effect) (room : List ℕ) (r : Reacted) (after : List ℕ) : Type 0 where
  pub outcome : r.outcome ≡ e.outcome
  pub session : r.session ≡ e.session
  pub reply : after ≡ over e.reply room

-- What is told of a reply, and the bytes of it: a refusal sends nothing.
abbrev pub told : Result (List ℕ) TagFault → Outcome
told (Ok bytes) = Ok (Replied (length bytes))
told (Err f) = Err f

abbrev pub bytes_of : Result (List ℕ) TagFault → List ℕ
bytes_of (Ok bytes) = bytes
bytes_of (Err f) = []

-- The same of a reply that is there, or of a refusal, and what is held then.
pub record Sends (reply : Result (List ℕ) TagFault) (held : Session) (room : List ℕ) (r : Reacted) (after : List ℕ)
    : Type 0
  where
    pub outcome : r.outcome ≡ told reply
    pub session : r.session ≡ held
    pub sent : after ≡ over (bytes_of reply) room

-- What is returned, the room, and both areas.
pub record ReactsIn (e : Effect) (room : List ℕ) (r : Reacted) (after i u : List ℕ) : Type 0 where
  pub reacts : Reacts e room r after
  pub identity : i ≡ e.identity
  pub user : u ≡ e.user

-- What a step returns.
abbrev pub stepped_of : Answer → Stepped
stepped_of a = record { outcome = a.outcome; tag = keyless a.tag }

-- What a step leaves, by name and by number.
pub record Steps (a : Answer) (room : List ℕ) (r : Stepped) (after i u : List ℕ) : Type 0 where
  pub outcome : r.outcome ≡ a.outcome
  pub number : number_given r.outcome ≡ number_given a.outcome
  pub next : r.tag ≡ keyless a.tag
  pub reply : after ≡ over a.reply room
  pub identity : i ≡ a.identity
  pub user : u ≡ a.user
