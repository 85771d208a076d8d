-- `turns::asks::opens` meets its contract.
use mathlib.Core.Path.{refl}
use Rattle.turns.specs.declared.Next.TheVariants.{TagAnswers}
use Rattle.plan.specs.Drafts.{opening}
use Rattle.turns.specs.Turns.{opened}
use Rattle.turns.proofs.Turning.{sends_by}
use Rattle.turns.proofs.asks.opens.Goals as goal

pub returns : goal.returns
unfolding opened
returns c =
    sends_by TagAnswers c.args.standing c.args.standing (opening c.args.plan c.args.plan.method) _ _ _ c.sends.ensures
    refl
    c.opening-made.ensures
