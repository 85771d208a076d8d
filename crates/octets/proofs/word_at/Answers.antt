use Prim.Native.Nat.{◌+◌}
use native.Mathlib.Omega.{arith}
use lib.ListN.{get_or-eq_default}
use Rattle.octets.proofs.word_at.Goals as goal

pub returns : goal.returns
returns c = let a = c.args in
    let s = a.s.now in
    omega (
      arith,
      get_or-eq_default s 0 {n = a.i} (omega arith),
      get_or-eq_default s 0 {n = a.i + 1} (omega arith),
    )
