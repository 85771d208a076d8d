-- `reader_judge::tam2::Tam2Reply::open_and_judge` meets its contract.
use mathlib.Core.Path.{ap}
use lib.ListN.{replicate}
use Rattle.reader_judge.specs.Judged.{data_finding}
use Rattle.reader_judge.proofs.Judging.{judges_as}
use Rattle.reader_judge.proofs.Clear.{blocks_there, opened_front}
use Rattle.reader_judge.proofs.tam2.Tam2Reply.open_and_judge.Goals as goal

pub returns : goal.returns
returns c = let s = c.args.self.now in
    judges_as (ap (data_finding s.mode s.f)
    (opened_front s.keys s.mode s.f s.reply.now (blocks_there s) c.blocks-n.result (replicate 144 0)
    c.open_data-clear.result c.blocks-n.ensures.0 c.open_data-clear.ensures))
    c.judge_data.ensures
