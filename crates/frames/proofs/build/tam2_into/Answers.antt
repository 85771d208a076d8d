-- `frames::build::tam2_into` meets its contract.
use mathlib.Core.Path.{◌≡◌, sym, ◌∙◌}
use mathlib.Core.Bool.{true}
use native.Mathlib.Omega.{arith}
use Rattle.frames.specs.Messages.{select_fits}
use Rattle.frames.proofs.Joins.{built, refused}
use Rattle.frames.proofs.Range.{select_range, without_rfu}
use Rattle.frames.proofs.Laid.{tam2_layout}
use Rattle.frames.proofs.build.tam2_into.Goals as goal

pub returns-then-not-select_fits : goal.returns-then-not-select_fits
returns-then-not-select_fits c = refused _ _ _ _ (sym c.select_fits.ensures ∙ c.if-not-select_fits.true)

pub select-rest-requires : goal.select-rest-requires
select-rest-requires c = let f = c.args.f in
    without_rfu f.rfu f.custom f.protmode (sym c.select_fits.ensures
    ∙ c.if-not-select_fits.false)

pub returns : goal.returns
returns c =
    let f = c.args.f in
    let fit : select_fits f.rfu f.custom f.protmode ≡ true = sym c.select_fits.ensures ∙ c.if-not-select_fits.false in
    built _ _ _ _ _ _ _ _ fit (omega arith) (tam2_layout f _ _
    (select_range f.rfu f.custom f.protmode fit).rfu
    c.tam2_first-first.ensures
    c.select-rest.ensures)
    c.with_challenge.ensures
