use Prim.Native.Nat.{◌-◌}
use lib.ListN.{length}
use Rattle.modes.specs.Forms.{outputs}
use Rattle.modes.proofs.Parts.{Going}
use Rattle.modes.proofs.in_parts.Given as goal

abbrev pub invariant-loop-at : goal.invariant-loop-at
invariant-loop-at g l =
    Going (outputs (g.F.Form.out l.fn.key) (g.F.Form.on l.fn.key)) l.initial.chained l.input l.initial.room l.at
    l.chained l.room

abbrev pub decreases-loop-at : goal.decreases-loop-at
decreases-loop-at g l = length l.input - l.at
