-- No second answer fits the contract of the judge, neither another judgement nor another byte in the data room.
use mathlib.Core.Path.{refl}
use Rattle.ground.specs.OneAnswer.{OneAnswer, one, ◌&◌}
use Rattle.reader_judge.proofs.judge.Reads as judge
use Rattle.reader_judge.proofs.judge.Kinds as judge-kinds

pub judge_one : OneAnswer 3 judge-kinds.ps judge-kinds.r judge.Post
judge_one κs a x y v w p q = (one p.says q.says, refl & refl & refl & one p.holds q.holds & refl)
