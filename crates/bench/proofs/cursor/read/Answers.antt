-- From the sheet's first byte on, with nothing gathered: the whole sheet.
use Rattle.sheet.specs.declared.SheetRefusal.{SheetRefusal}
use Rattle.std.specs.Prelude.{Result}
use mathlib.Core.Path.{◌≡◌, subst, ◌∙◌}
use Rattle.sheet.specs.Limits.{key_limit}
use Rattle.sheet.specs.Setups.{nothing_gathered}
use Rattle.sheet.specs.Sheet.{read_from, ReadAs}
use Rattle.sheet.specs.declared.Reading.{Reading}
use Rattle.sheet.proofs.Walks.{from_start}
use Rattle.bench.proofs.cursor.read.Goals as goal

pub returns : goal.returns
returns c =
    let s = c.args.sheet.now in
    let r = c.open.result in
    let e = c.open.ensures in
    let begun : read_from key_limit r.sheet.now r.at c.start.result ≡ read_from key_limit s 0 nothing_gathered =
    λ i. read_from key_limit (e.0 i).now (e.1 i) (c.start.ensures i) in
    subst (λ (x : Result Reading SheetRefusal). ReadAs c.rest.result x) (begun ∙ from_start key_limit s) c.rest.ensures
