-- `frames::build::iam3_into` meets its contract.
use mathlib.Core.Path.{◌≡◌, sym, ◌∙◌}
use mathlib.Core.Bool.{true}
use native.Mathlib.Omega.{arith}
use Rattle.frames.specs.Messages.{select_fits}
use Rattle.frames.proofs.Joins.{built, refused}
use Rattle.frames.proofs.Range.{select_range, without_rfu}
use Rattle.frames.proofs.Laid.{iam3_layout}
use Rattle.frames.proofs.build.iam3_into.Goals as goal

pub returns-then-not-select_fits : goal.returns-then-not-select_fits
returns-then-not-select_fits c = refused _ _ _ _ (sym c.select_fits.ensures ∙ c.if-not-select_fits.true)

pub select-s-requires : goal.select-s-requires
select-s-requires c = let f = c.args.f in
    without_rfu f.rfu f.custom f.protmode (sym c.select_fits.ensures
    ∙ c.if-not-select_fits.false)

pub returns : goal.returns
returns c =
    let f = c.args.f in
    let fit : select_fits f.rfu f.custom f.protmode ≡ true = sym c.select_fits.ensures ∙ c.if-not-select_fits.false in
    built _ _ _ _ _ _ _ _ fit (omega arith) (iam3_layout f _ _
    (select_range f.rfu f.custom f.protmode fit).rfu
    c.from-b.ensures.0
    c.select-s.ensures)
    c.with_response.ensures
