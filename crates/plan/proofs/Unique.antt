-- No second answer fits the contracts of the exported functions: the answer, and what the room holds afterwards.
use mathlib.Core.Path.{refl}
use Rattle.ground.specs.OneAnswer.{OneAnswer, one, ◌&◌}
use Rattle.plan.proofs.opening.Reads as opening
use Rattle.plan.proofs.opening.Kinds as opening-kinds
use Rattle.plan.proofs.closing.Reads as closing
use Rattle.plan.proofs.closing.Kinds as closing-kinds

pub opening_one : OneAnswer 1 opening-kinds.ps opening-kinds.r opening.Post
opening_one κs a x y v w p q = (one p.says q.says, refl & one p.holds q.holds & refl)

pub closing_one : OneAnswer 2 closing-kinds.ps closing-kinds.r closing.Post
closing_one κs a x y v w p q = (one p.says q.says, refl & refl & refl & one p.holds q.holds & refl)
