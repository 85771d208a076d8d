-- `hex::is_dash` meets its contract.
use mathlib.Core.Path.{ap, ◌∙◌}
use lib.Dec.{eqb}
use lib.Pointwise.{pointwise}
use Rattle.text.proofs.Readings.{one_dash}
use Rattle.text.proofs.hex.is_dash.Goals as goal

pub returns : goal.returns
returns c = let word = c.args.word.now in
    c.eq.ensures ∙ ap (pointwise eqb word) c.as_slice.ensures ∙ one_dash word
