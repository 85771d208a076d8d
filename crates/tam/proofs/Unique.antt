-- No second answer fits the contract of an exported function.
use mathlib.Core.Path.{refl}
use Rattle.ground.specs.OneAnswer.{OneAnswer, one}
use Rattle.tam.proofs.tam1.Reads as tam1
use Rattle.tam.proofs.tam1.Kinds as tam1-kinds
use Rattle.tam.proofs.tam2.Reads as tam2
use Rattle.tam.proofs.tam2.Kinds as tam2-kinds

pub tam1_one : OneAnswer 2 tam1-kinds.ps tam1-kinds.r tam1.Post
tam1_one κs a x y v w p q = (one p q, refl)

pub tam2_one : OneAnswer 4 tam2-kinds.ps tam2-kinds.r tam2.Post
tam2_one κs a x y v w p q = (one p q, refl)
