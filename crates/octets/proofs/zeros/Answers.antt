use mathlib.Core.Path.{◌∙◌}
use lib.Dec.{eqb}
use Rattle.std.proofs.Common.{rules, tests}
use Rattle.std.proofs.lemmas.Iterator.{YieldsList-from_slice}
use Rattle.std.proofs.lemmas.Iterator.Search.{all_from_yields_List}
use Rattle.octets.proofs.AllZero.{zero_each}
use Rattle.octets.proofs.zeros.Goals as goal

pub returns : goal.returns
returns c =
    all_from_yields_List (λ b. eqb b 0) _ _ c.all.result c.all.ensures.ran (YieldsList-from_slice c.args.s.now cc)
    (λ x b q k. search (rules, tests)) ∙ zero_each c.args.s.now
