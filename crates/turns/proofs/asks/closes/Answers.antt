-- `turns::asks::closes` meets its contract.
use Rattle.turns.specs.Turns.{finding_in}
use Rattle.turns.proofs.Turning.{closed_accepted, closed_refused}
use Rattle.turns.proofs.asks.closes.Goals as goal

pub returns-in-Ok : goal.returns-in-Ok
unfolding finding_in
returns-in-Ok c =
    closed_accepted c.args.plan c.args.standing _ _ c.args.words.now c.judged.ensures _ _ _ c.in-Ok.is
    c.unwrap_or.ensures
    c.prove.ensures

pub returns-in-Err : goal.returns-in-Err
unfolding finding_in
returns-in-Err c =
    closed_refused c.args.plan c.args.standing _ _ c.args.words.now c.judged.ensures _ _ c.in-Err.is c.turned.ensures
