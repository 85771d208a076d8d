-- No second answer fits the contract of the exported function: of the turns that are played what stands, the tag and
-- both areas are determined.
use mathlib.Core.Path.{refl}
use Rattle.ground.specs.OneAnswer.{OneAnswer, one, ◌&◌}
use Rattle.turns.proofs.Unique.{returned}
use Rattle.exchange.proofs.play.Reads as play
use Rattle.exchange.proofs.play.Kinds as play-kinds

pub play_one : OneAnswer 5 play-kinds.ps play-kinds.r play.Post
play_one κs a x y v w p q = (
  one (returned _ x _ _ p) (returned _ y _ _ q),
  refl & refl & refl & refl & refl & refl & refl & one p.identity q.identity & one p.user q.user & refl,
)
