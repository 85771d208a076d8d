use mathlib.Core.Path.{◌≡◌}
use Rattle.aes.specs.Cipher.{rounds}
use Rattle.aes.proofs.encipher.Given as goal

abbrev pub invariant-loop-k : goal.invariant-loop-k
invariant-loop-k l = l.s ≡ rounds l.fn.w l.initial.s l.k-index
