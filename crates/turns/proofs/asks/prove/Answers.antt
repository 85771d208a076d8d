-- `turns::asks::prove` meets its contract.
use mathlib.Core.Path.{refl}
use Rattle.turns.specs.declared.Next.TheVariants.{TagEnds}
use Rattle.turns.specs.Standings.{challenged}
use Rattle.plan.specs.Drafts.{closing}
use Rattle.turns.specs.Turns.{proves}
use Rattle.turns.proofs.Turning.{sends_by}
use Rattle.turns.proofs.asks.prove.Goals as goal

pub returns : goal.returns
unfolding proves
returns c =
    sends_by TagEnds (challenged c.args.challenge c.args.standing) _
    (closing c.args.plan c.args.words.now c.args.challenge c.args.plan.method) _ _ _ c.sends.ensures
    refl c.closing-made.ensures
