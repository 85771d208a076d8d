-- `turns::judging::judged` meets its contract.
use mathlib.Core.Path.{ap₂}
use mathlib.Core.List.{List}
use Prim.Native.Nat.{ℕ}
use lib.ListN.{length}
use Rattle.reader_judge.specs.Findings.{Finding}
use Rattle.reader_judge.specs.Judged.{judgement_of}
use Rattle.reader_judge.proofs.Judging.{judges_as}
use Rattle.turns.proofs.judging.judged.Goals as goal

pub returns : goal.returns
returns c =
    judges_as (ap₂ {C = Finding} (λ (m r : List ℕ). judgement_of c.args.keys m r (length c.args.room.now))
    c.held.ensures c.held-2.ensures)
    c.judge.ensures
