use Rattle.field.proofs.Fill.{Filled}
use Rattle.modes.proofs.Mac.{doubled_byte}
use Rattle.modes.proofs.double.Given as goal

abbrev pub invariant-loop-i : goal.invariant-loop-i
invariant-loop-i l = Filled (doubled_byte l.l) 16 l.r l.i
