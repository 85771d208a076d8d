-- `frames::sizes::tam2_reply_length` meets its contract.
use Prim.Native.Nat.{◌+◌}
use native.Mathlib.Omega.{arith}
use Rattle.frames.specs.Lengths.{tam2_mac_at, tam2_reply_length}
use Rattle.frames.proofs.Least.{blocks_bound}
use Rattle.frames.proofs.Bounds.{mac_bound}
use Rattle.frames.proofs.sizes.tam2_reply_length.Goals as goal

pub overflow_add-result : goal.overflow_add-result
unfolding tam2_mac_at
overflow_add-result c = let a = c.args in
    omega (arith, blocks_bound a.size a.rev a.blockcount, mac_bound a.mode)

pub returns : goal.returns
unfolding tam2_reply_length
returns c = λ i. c.tam2_mac_at.ensures i + c.mac_length.ensures i
