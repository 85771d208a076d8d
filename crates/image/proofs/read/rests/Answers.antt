-- `read::rests` meets its contract.
use mathlib.Core.Path.{ap, ◌∙◌}
use mathlib.Core.Bool.{not}
use Rattle.image.proofs.Reading.{waits, held_zeros}
use Rattle.image.proofs.read.rests.Goals as goal

pub returns-then-not-at_rest : goal.returns-then-not-at_rest
returns-then-not-at_rest c =
    ap not c.if-not-at_rest.true
    ∙ waits c.args.image.now c.told-image _ _ c.state_of.ensures c.at_rest.ensures c.if-not-at_rest.true

pub returns-else-not-at_rest : goal.returns-else-not-at_rest
returns-else-not-at_rest c = held_zeros c.args.image.now c.told-image _ _ c.state_of.ensures c.at_rest.ensures
    c.if-not-at_rest.false _ c.zeros.ensures
