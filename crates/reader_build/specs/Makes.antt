-- What a builder answers, and what it leaves in the room it was lent.
use Rattle.std.specs.Prelude.{◌≡◌, ℕ, Bool, List, leb, length, Result, Ok, Err}
use Rattle.reader.specs.declared.ReaderFault.{ReaderFault}
use Rattle.ground.specs.Choice.{pick, both}
use Rattle.modes.specs.Room.{over}
use Rattle.frames.specs.Lengths.{message_room}
use Rattle.reader.specs.declared.ReaderFault.TheVariants.{OwnMessage}
use Rattle.reader.specs.Numbers.{number_of}

-- The number of an answer; 0 where nothing is refused.
abbrev pub made_number : Result ℕ ReaderFault → ℕ
made_number (Ok n) = 0
made_number (Err f) = number_of f

-- Number 24: a message is built where what it says is fit and the room has the bytes of the longest message, whatever
-- the message's own length.
abbrev pub taken : Bool → List ℕ → Bool
taken fit room = both fit (leb message_room (length room))

-- Taken: the message over the room's first bytes, and its length. Else 24, and no byte of the room changes.
pub record Makes (fit : Bool) (message room : List ℕ) (answer : Result ℕ ReaderFault) (after : List ℕ) : Type 0 where
  pub says : answer ≡ pick (taken fit room) (Ok (length message)) (Err OwnMessage)
  pub number : made_number answer ≡ pick (taken fit room) 0 24
  pub holds : after ≡ pick (taken fit room) (over message room) room
