-- No second answer fits the contracts of the functions over a cursor.
use mathlib.Core.Path.{◌≡◌, refl}
use Rattle.ground.specs.OneAnswer.{OneAnswer, one}
use Rattle.sheet.specs.Limits.{key_limit}
use Rattle.sheet.specs.Sheet.{read_from, ReadAs}
use Rattle.bench.specs.OneWalked.{OneWalked}
use Rattle.bench.specs.contracts.cursor.open as opened
use Rattle.bench.specs.contracts.cursor.rest as rest
use Rattle.bench.proofs.cursor.read.Reads as read
use Rattle.bench.proofs.cursor.read.Kinds as read-kinds

pub opened_one : OneWalked opened.ended (λ M 𝓤. opened.clauses {M = M} {𝓤 = 𝓤})
    (λ κs a r e. (r.sheet ≡ a.0) × (r.at ≡ 0))
opened_one = (
  (λ M 𝓤 𝓛 mem run κs a g r e. refl),
  (λ κs a x y v w p q. ((λ j. record { sheet = one p.0 q.0 j; at = one p.1 q.1 j }), refl)),
)

pub rest_one : OneWalked rest.ended (λ M 𝓤. rest.clauses {M = M} {𝓤 = 𝓤})
    (λ κs a r e. ReadAs r (read_from key_limit a.0.sheet.now a.0.at a.1.0))
rest_one = ((λ M 𝓤 𝓛 mem run κs a g r e. refl), (λ κs a x y v w p q. (one p.0 q.0, refl)))

pub read_one : OneAnswer 1 read-kinds.ps read-kinds.r read.Post
read_one κs a x y v w p q = (one p.0 q.0, refl)
