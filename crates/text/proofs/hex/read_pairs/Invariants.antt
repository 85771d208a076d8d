-- `hex::read_pairs` meets its contract. The invariant: the first i bytes stand over the room's.
use mathlib.Core.Path.{◌≡◌}
use Rattle.text.specs.Hex.{bytes_of}
use Rattle.text.proofs.Rooms.{begun}
use Rattle.text.proofs.hex.read_pairs.Given as goal

abbrev pub invariant-loop-i : goal.invariant-loop-i
invariant-loop-i l = l.room ≡ begun (bytes_of l.word) l.initial.room l.i
