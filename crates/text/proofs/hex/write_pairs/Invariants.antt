-- `hex::write_pairs` meets its contract. The invariant: the digits of the first i bytes stand over the room's
-- characters.
use mathlib.Core.Path.{◌≡◌}
use Prim.Native.Nat.{◌*◌}
use Rattle.text.specs.Hex.{pairs}
use Rattle.text.proofs.Rooms.{begun}
use Rattle.text.proofs.hex.write_pairs.Given as goal

abbrev pub invariant-loop-i : goal.invariant-loop-i
invariant-loop-i l = l.room ≡ begun (pairs l.bytes) l.initial.room (l.i * 2)
