-- `frames::sizes::d_of` meets its contract.
use native.Mathlib.Omega.{arith}
use Rattle.frames.proofs.Least.{data_bound, part_bound, d_told}
use Rattle.frames.proofs.sizes.d_of.Goals as goal

pub overflow_add-header_part : goal.overflow_add-header_part
overflow_add-header_part c = let a = c.args in
    omega (arith, part_bound a.size a.header, data_bound a.size a.blockcount)

pub returns : goal.returns
returns c =
    d_told _ _ _ _ (rw (← c.header_part.ensures, ← c.data_length.ensures) c.div_ceil.ensures)
