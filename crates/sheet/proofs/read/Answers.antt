use mathlib.Core.Path.{ap, ◌∙◌}
use Rattle.sheet.specs.Limits.{key_limit}
use Rattle.sheet.specs.Sheet.{read_from}
use Rattle.sheet.proofs.Verdicts.{read_told}
use Rattle.sheet.proofs.Walks.{from_start}
use Rattle.sheet.proofs.read.Goals as goal

pub returns : goal.returns
returns c =
    let begun = ap (read_from key_limit c.args.s.now 0) c.start.ensures in
    let told = read_told key_limit c.args.s.now _ (c.read_from.ensures.0 ∙ begun ∙ from_start key_limit c.args.s.now) in
    record { value = told.0; verdict_value = told.1 }
