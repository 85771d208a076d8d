-- `turns::answers::end` meets its contract.
use Rattle.turns.specs.Turns.{finding_in}
use Rattle.turns.proofs.Turning.{ended_accepted, ended_refused}
use Rattle.turns.proofs.answers.end.Goals as goal

pub returns-in-Ok : goal.returns-in-Ok
unfolding finding_in
returns-in-Ok c =
    ended_accepted c.args.plan c.args.standing _ _ c.args.reply c.judged.ensures _ _ c.in-Ok.is c.concludes.ensures

pub returns-in-Err : goal.returns-in-Err
unfolding finding_in
returns-in-Err c =
    ended_refused c.args.plan c.args.standing _ _ c.args.reply c.judged.ensures _ _ c.in-Err.is
    c.concludes-in-Err.ensures
