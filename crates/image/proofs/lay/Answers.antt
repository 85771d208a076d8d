-- `lay` meets its contract.
use native.Mathlib.Omega.{arith}
use Rattle.image.proofs.Said.{laid_fits, laid_whole}
use Rattle.image.proofs.lay.Goals as goal

pub made-requires : goal.made-requires
made-requires c = laid_fits _ _ c.read.ensures.value _ c.in_ok-reading.was _ c.key_table.ensures
    (λ i. omega (arith, (c.type_inv.sheet i).fits))

pub returns : goal.returns
returns c = laid_whole _ _ c.read.ensures.value _ c.in_ok-reading.was _ c.key_table.ensures _ _ c.made.ensures
