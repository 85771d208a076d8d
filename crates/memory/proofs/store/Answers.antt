-- `memory::store` meets its contract.
use mathlib.Core.Path.{refl}
use Rattle.memory.specs.Address.{same_area, area_number}
use Rattle.memory.specs.Areas.{stored_in}
use Rattle.memory.proofs.store.Goals as goal

pub returns-in-Identity : goal.returns-in-Identity
unfolding stored_in same_area area_number
returns-in-Identity c = simp c.in-Identity.is (c.put.ensures, refl)

pub returns-in-User : goal.returns-in-User
unfolding stored_in same_area area_number
returns-in-User c = simp c.in-User.is (refl, c.put-in-User.ensures)
