-- No second answer fits the contracts of the exported functions: of a step where the tag is kept, the outcome, the tag,
-- the room and both areas are determined.
use mathlib.Core.Path.{◌≡◌, refl}
use Rattle.ground.specs.OneAnswer.{OneAnswer, one, ◌&◌}
use Rattle.tag.specs.States.{awake, keyed}
use Rattle.tag.specs.Answers.{answer_of}
use Rattle.tag.specs.Reactions.{lent, Steps}
use Rattle.tag.proofs.Unique.{stepped}
use Rattle.bench.specs.Kept.{left}
use Rattle.bench.specs.OneWalked.{Fact, OneWalked}
use Rattle.bench.specs.contracts.power_up as power-up
use Rattle.bench.specs.contracts.step as step
use Rattle.bench.proofs.woken.Reads as woken
use Rattle.bench.proofs.woken.Kinds as woken-kinds
use Rattle.bench.proofs.kept.Reads as kept
use Rattle.bench.proofs.kept.Kinds as kept-kinds

pub power_up_one : OneWalked power-up.ended (λ M 𝓤. power-up.clauses {M = M} {𝓤 = 𝓤})
    (λ κs a r e. e.0.now ≡ awake a.0.now.terms)
power_up_one = ((λ M 𝓤 𝓛 mem run κs a g r e. refl), (λ κs a x y v w p q. (refl, one p q & refl)))

pub woken_one : OneAnswer 0 woken-kinds.ps woken-kinds.r woken.Post
woken_one κs a x y v w p q = (one p q, refl)

-- what the contract of `step` says
abbrev pub Stepping : Fact step.ended
Stepping κs a r e =
    let in_turn_lem = a.1.1 in
    let room = in_turn_lem.1.1 in
    let after = e.1.1.1.1 in
    Steps (answer_of (lent in_turn_lem.0.now in_turn_lem.1.0.now room.0.now room.1.0.now
    room.1.1.0.now) (keyed a.0.now a.1.0.now)) room.0.now
    (left r e.0.now) after.0.now after.1.0.now after.1.1.0.now

pub step_one : OneWalked step.ended (λ M 𝓤. step.clauses {M = M} {𝓤 = 𝓤}) Stepping
step_one = (
  (λ M 𝓤 𝓛 mem run κs a g r e. refl),
  (λ κs a x y v w p q. (
    one p.outcome q.outcome,
    one p.next q.next
        & refl
        & refl
        & refl
        & one p.reply q.reply
        & one p.identity q.identity
        & one p.user q.user
        & refl,
  )),
)

pub kept_one : OneAnswer 6 kept-kinds.ps kept-kinds.r kept.Post
kept_one κs a x y v w p q = (
  one (stepped _ _ x _ _ _ p) (stepped _ _ y _ _ _ q),
  refl
      & refl
      & refl
      & refl
      & one p.reply q.reply
      & one p.identity q.identity
      & one p.user q.user
      & refl,
)
