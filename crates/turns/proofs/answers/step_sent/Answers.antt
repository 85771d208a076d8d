-- `turns::answers::step_sent` meets its contract.
use Rattle.tag.specs.States.{keyed}
use Rattle.turns.proofs.Turning.{steps_as}
use Rattle.turns.proofs.answers.step_sent.Goals as goal

pub returns : goal.returns
returns c =
    steps_as (keyed c.args.tag c.args.keys.now) _ _ _ _ c.args.room.now c.args.identity.now c.args.user.now _ _ _ _
    c.held.ensures c.draws_of.ensures c.step.ensures
