-- `reader_judge::tam2::Tam2Reply::judge_data` meets its contract.
use native.Mathlib.Omega.{arith}
use lib.ListN.{replicate}
use Rattle.reader_judge.specs.Judged.{data_finding}
use Rattle.ground.proofs.Told.{said}
use Rattle.ground.proofs.Checked.{passes, fails}
use Rattle.reader_judge.proofs.Judging.{refuses, judges_as}
use Rattle.reader_judge.proofs.Clear.{words_held, stored}
use Rattle.reader_judge.proofs.tam2.Tam2Reply.judge_data.Goals as goal

pub returns-then-not-header_fits : goal.returns-then-not-header_fits
unfolding data_finding
returns-then-not-header_fits c = judges_as (fails _ _ _ _ (said c.header_fits.ensures c.if-not-header_fits.true))
    (refuses _ _)

pub returns-then-not-filler_fits : goal.returns-then-not-filler_fits
unfolding data_finding
returns-then-not-filler_fits c = judges_as (passes _ _ _ _ (said c.header_fits.ensures c.if-not-header_fits.false)
    (fails _ _ _ _ (said c.filler_fits.ensures c.if-not-filler_fits.true)))
    (refuses _ _)

pub slice_bounds-copy_from_slice-end : goal.slice_bounds-copy_from_slice-end
slice_bounds-copy_from_slice-end c = let s = c.args.self.now in
    words_held s.f.rev s.f.custom c.args.p.now _ (replicate 144 0) s.fits c.words_in-words.ensures (omega arith)

pub returns : goal.returns
returns c = let a = c.args in
    let f = a.self.now.f in
    stored a.self.now.mode f a.p.now c.words_in-words.result.now a.room.now _ _
    (said c.header_fits.ensures c.if-not-header_fits.false)
    (said c.filler_fits.ensures c.if-not-filler_fits.false)
    c.words_in-words.ensures c.carries.ensures c.copy_from_slice.ensures.after
