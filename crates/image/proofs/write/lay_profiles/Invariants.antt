-- `write::lay_profiles` meets its contract.
use mathlib.Core.Path.{◌≡◌}
use mathlib.Core.List.{◌++◌}
use Prim.Native.Nat.{◌≤◌}
use lib.ListN.{length, take}
use Rattle.modes.specs.Room.{over}
use Rattle.image.specs.Image.{slot_body, bodies}
use Rattle.image.proofs.write.lay_profiles.Given as goal

abbrev pub invariant-loop-i : goal.invariant-loop-i
invariant-loop-i l = (l.i ≤ 16) × (length l.image ≡ length l.initial.image)
    × (l.image ≡ over (take 22 l.initial.image ++ bodies slot_body (take l.i l.fn.profiles)) l.initial.image)
