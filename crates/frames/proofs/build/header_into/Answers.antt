-- `frames::build::header_into` meets its contract.
use mathlib.Core.Path.{sym, ◌∙◌}
use lib.Seq.{length-take-le}
use native.Mathlib.Omega.{arith}
use Rattle.frames.proofs.Joins.{built, refused}
use Rattle.frames.proofs.Laid.{header_least, header_layout, header_fills}
use Rattle.frames.proofs.Least.{header_bound}
use Rattle.frames.proofs.build.header_into.Goals as goal

pub returns-then-not-custom_fits : goal.returns-then-not-custom_fits
returns-then-not-custom_fits c = refused _ _ _ _ (sym c.custom_fits.ensures ∙ c.if-not-custom_fits.true)

pub overflow_sub-zeros : goal.overflow_sub-zeros
overflow_sub-zeros c = omega (arith, header_least c.args.custom.blocksize)

pub header_start-start-requires : goal.header_start-start-requires
header_start-start-requires c = sym c.custom_fits.ensures ∙ c.if-not-custom_fits.false

pub slice_bounds-padding-end : goal.slice_bounds-padding-end
slice_bounds-padding-end c = omega (
  arith,
  header_bound
      c.args.custom.blocksize,
)

pub slice_bounds-pair-end-2 : goal.slice_bounds-pair-end-2
slice_bounds-pair-end-2 c = sym (length-take-le _ _ (omega
    (arith, header_bound c.args.custom.blocksize)))

pub returns : goal.returns
returns c = let a = c.args in
    built _ _ _ _ _ _ _ _ (sym c.custom_fits.ensures ∙ c.if-not-custom_fits.false)
    (header_fills a.custom _ _ c.header_start-start.ensures
    c.header_length-zeros.ensures)
    (header_layout a.custom _ _ c.header_start-start.ensures
    c.header_length-zeros.ensures)
    c.pair.ensures
