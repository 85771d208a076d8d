-- No second answer fits the contracts of the exported functions: of a step the result, the room and both areas are
-- determined.
use mathlib.Core.Path.{◌≡◌, refl}
use mathlib.Core.List.{List}
use Prim.Native.Nat.{ℕ}
use Rattle.ground.specs.OneAnswer.{OneAnswer, one, ◌&◌}
use Rattle.tag.specs.declared.Stepped.{Stepped}
use Rattle.tag.specs.Answers.{Answer}
use Rattle.tag.specs.Reactions.{stepped_of, Steps}
use Rattle.tag.proofs.power_up.Reads as power-up
use Rattle.tag.proofs.power_up.Kinds as power-up-kinds
use Rattle.tag.proofs.at_rest.Reads as at_rest
use Rattle.tag.proofs.at_rest.Kinds as at-rest-kinds
use Rattle.tag.proofs.key_held.Reads as key-held
use Rattle.tag.proofs.key_held.Kinds as key-held-kinds
use Rattle.tag.proofs.step.Reads as step
use Rattle.tag.proofs.step.Kinds as step-kinds

pub power_up_one : OneAnswer 0 power-up-kinds.ps power-up-kinds.r power-up.Post
power_up_one κs a x y v w p q = (one p q, refl)

pub at_rest_one : OneAnswer 0 at-rest-kinds.ps at-rest-kinds.r at_rest.Post
at_rest_one κs a x y v w p q = (one p q, refl)

pub key_held_one : OneAnswer 1 key-held-kinds.ps key-held-kinds.r key-held.Post
key_held_one κs a x y v w p q = (one p q, refl)

-- what a step returns is what it says of it
pub stepped : (a : Answer) (room : List ℕ) (r : Stepped) (after i u : List ℕ) → Steps a room r after i u
    → r ≡ stepped_of a
stepped a room r after i u h = λ j. record { outcome = h.outcome j; tag = h.next j }

pub step_one : OneAnswer 6 step-kinds.ps step-kinds.r step.Post
step_one κs a x y v w p q = (
  one (stepped _ _ x _ _ _ p) (stepped _ _ y _ _ _ q),
  refl & refl & refl & refl & one p.reply q.reply & one
      p.identity q.identity & one p.user q.user & refl,
)
