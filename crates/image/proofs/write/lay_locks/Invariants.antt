-- `write::lay_locks` meets its contract.
use mathlib.Core.Path.{◌≡◌}
use mathlib.Core.List.{◌++◌}
use Prim.Native.Nat.{◌≤◌}
use lib.ListN.{length, take}
use Rattle.modes.specs.Room.{over}
use Rattle.sheet.specs.Writer.{lock_body}
use Rattle.image.specs.Image.{bodies}
use Rattle.image.proofs.write.lay_locks.Given as goal

abbrev pub invariant-loop-i : goal.invariant-loop-i
invariant-loop-i l = (l.i ≤ 16) × (length l.image ≡ length l.initial.image)
    × (l.image ≡ over (take 119 l.initial.image ++ bodies lock_body (take l.i l.fn.table)) l.initial.image)
