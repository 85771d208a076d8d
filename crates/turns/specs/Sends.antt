-- What becomes of a message that the reader would send.
use Rattle.std.specs.Prelude.{ℕ, List, length, Result, Ok, Err}
use Rattle.reader.specs.declared.ReaderFault.{ReaderFault}
use Rattle.ground.specs.Choice.{pick}
use Rattle.modes.specs.Room.{over}
use Rattle.reader.specs.declared.ReaderFault.TheVariants.{OwnMessage}
use Rattle.plan.specs.Drafts.{Draft}
use Rattle.turns.specs.declared.Next.{Next}
use Rattle.turns.specs.declared.Next.TheVariants.{RefusedByReader}
use Rattle.turns.specs.declared.Standing.{Standing}
use Rattle.turns.specs.Standings.{message_zeros, turned, sending}

-- A draft that is fit is sent; any other ends the exchange with the reader's 24.
unfoldable pub sends : Next → Standing → Draft → Standing
sends next s d =
    pick d.fit (sending next s (over d.message message_zeros) (length d.message))
    (turned (RefusedByReader OwnMessage) s)

-- The same of what a builder answered, its message in a room.
unfoldable pub sends_made : Next → Standing → Result ℕ ReaderFault → List ℕ → Standing
sends_made next s (Ok n) room = sending next s room n
sends_made next s (Err f) room = turned (RefusedByReader f) s
