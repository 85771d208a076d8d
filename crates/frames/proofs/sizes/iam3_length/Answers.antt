-- `frames::sizes::iam3_length` meets its contract.
use Prim.Native.Nat.{◌+◌}
use native.Mathlib.Omega.{arith}
use mathlib.Core.Bool.{true}
use Rattle.frames.specs.Lengths.{iam3_mac_at, iam3_length}
use Rattle.frames.proofs.Least.{blocks_bound}
use Rattle.frames.proofs.Bounds.{mac_bound}
use Rattle.frames.proofs.sizes.iam3_length.Goals as goal

pub overflow_add-result : goal.overflow_add-result
unfolding iam3_mac_at
overflow_add-result c = let a = c.args in
    omega (arith, blocks_bound a.size true a.blockcount, mac_bound a.mode)

pub returns : goal.returns
unfolding iam3_length
returns c = λ i. c.iam3_mac_at.ensures i + c.mac_length.ensures i
