-- `turns::answers::act` meets its contract.
use Rattle.turns.specs.Turns.{table, answer_in, answered}
use Rattle.turns.proofs.Turning.{answered_by_lem}
use Rattle.turns.proofs.answers.act.Goals as goal

pub returns : goal.returns
unfolding answered
returns c =
    let t = table c.args.standing c.args.tag c.args.identity.now c.args.user.now in
    answered_by_lem c.args.plan c.args.standing (answer_in c.args.keys.now c.args.draws.now t) _ _ _ _ _
    c.step_sent-stepped.ensures
    c.reply_in.ensures
