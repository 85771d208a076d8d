-- `memory::address` meets its contract.
use native.Mathlib.Omega.{arith}
use Rattle.memory.proofs.Addresses.{steps_bound}
use Rattle.memory.proofs.address.Goals as goal

pub overflow_mul-result : goal.overflow_mul-result
overflow_mul-result c = omega (arith, steps_bound c.args.size c.args.offset.0 _ c.step-each.ensures)

pub overflow_add-result : goal.overflow_add-result
overflow_add-result c = omega (arith, steps_bound c.args.size c.args.offset.0 _ c.step-each.ensures)

pub overflow_mul-result-2 : goal.overflow_mul-result-2
overflow_mul-result-2 c = omega (arith, steps_bound c.args.size c.args.count _ c.step-each.ensures)
