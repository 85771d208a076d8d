-- `payload::header_fits` meets its contract.
use mathlib.Core.Path.{refl, sym, ap, ◌∙◌}
use native.Mathlib.Omega.{arith}
use lib.ListN.{take, replicate}
use lib.Seq.{length-take-le}
use Rattle.frames.proofs.Least.{header_bound}
use Rattle.octets.specs.Alike.{same}
use Rattle.payload.proofs.Data.{header_judged, header_refused, header_count, no_header}
use Rattle.payload.proofs.header_fits.Goals as goal

pub returns-then-not-rev : goal.returns-then-not-rev
returns-then-not-rev c =
    no_header c.args.rev c.args.custom c.args.p.now c.if-not-rev.true

pub returns-in_default : goal.returns-in_default
returns-in_default c =
    let i = c.header_into in
    header_refused c.args.custom i.result (replicate 8 0) i.new.room refl i.ensures c.args.rev c.args.p.now
    c.if-not-rev.false c.in_default.is

pub slice_bounds-header-end : goal.slice_bounds-header-end
slice_bounds-header-end c = let i = c.header_into in omega (
  arith,
  header_bound c.args.custom.blocksize,
  header_count c.args.custom i.result (replicate 8 0) i.new.room refl i.ensures _ c.in-Some.is,
)

pub slice_bounds-same-end : goal.slice_bounds-same-end
slice_bounds-same-end c = let i = c.header_into in sym (length-take-le _ i.new.room (omega (
  arith,
  header_bound c.args.custom.blocksize,
  header_count c.args.custom i.result (replicate 8 0) i.new.room refl i.ensures _ c.in-Some.is,
)))

pub returns : goal.returns
returns c =
    let i = c.header_into in
    c.same.ensures ∙ ap (λ l. same l (take c.in-Some.n i.new.room)) c.front.ensures
    ∙ header_judged c.args.custom i.result (replicate 8 0) i.new.room refl i.ensures _ c.in-Some.is c.args.rev
    c.args.p.now c.if-not-rev.false
