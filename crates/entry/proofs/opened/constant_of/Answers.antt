-- `entry::opened::constant_of` meets its contract.
use mathlib.Core.Path.{ap, ◌∙◌}
use Rattle.frames.specs.Constants.{iam3_constant}
use Rattle.entry.specs.Opened.{constant_in}
use Rattle.entry.proofs.Judging.{constant_back}
use Rattle.entry.proofs.opened.constant_of.Goals as goal

pub returns : goal.returns
returns c = c.constant_in.ensures ∙ ap constant_in c.iam3_constant-two.ensures
    ∙ constant_back (iam3_constant c.args.mode) 0
