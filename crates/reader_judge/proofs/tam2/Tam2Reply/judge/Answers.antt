-- `reader_judge::tam2::Tam2Reply::judge` meets its contract.
use mathlib.Core.Path.{refl}
use native.Mathlib.Omega.{arith}
use borrow.Author.Tests.{eq-eqb}
use Rattle.reader_judge.specs.Judged.{tam2_in_mode}
use Rattle.ground.proofs.Told.{said}
use Rattle.ground.proofs.Checked.{passes, fails, ends}
use Rattle.reader_judge.proofs.Places.{block_told}
use Rattle.reader_judge.proofs.Judging.{refuses, judges_as}
use Rattle.reader_judge.proofs.Clear.{blocks_there}
use Rattle.reader_judge.proofs.tam2.Tam2Reply.judge.Goals as goal

pub opened_block-requires : goal.opened_block-requires
opened_block-requires c = omega (arith, blocks_there c.args.self.now)

pub returns-then-not-block_fits : goal.returns-then-not-block_fits
unfolding tam2_in_mode
returns-then-not-block_fits c = let fact = block_told c.tam2_constant-constant.ensures refl c.opened_block.ensures
    c.block_fits.ensures in
    judges_as
    (passes _ _ _ _ (eq-eqb _ _ c.args.self.now.whole) (fails _ _ _ _ (said fact c.if-not-block_fits.true)))
    (refuses _ _)

pub returns-then-not-mac_fits : goal.returns-then-not-mac_fits
unfolding tam2_in_mode
returns-then-not-mac_fits c = let fact = block_told c.tam2_constant-constant.ensures refl c.opened_block.ensures
    c.block_fits.ensures in
    judges_as
    (passes _ _ _ _ (eq-eqb _ _ c.args.self.now.whole)
    (passes _ _ _ _ (said fact c.if-not-block_fits.false)
    (fails _ _ _ _ (said c.mac_fits.ensures c.if-not-mac_fits.true))))
    (refuses _ _)

pub returns : goal.returns
unfolding tam2_in_mode
returns c = let fact = block_told c.tam2_constant-constant.ensures refl c.opened_block.ensures
    c.block_fits.ensures in
    judges_as
    (passes _ _ _ _ (eq-eqb _ _ c.args.self.now.whole)
    (passes _ _ _ _ (said fact c.if-not-block_fits.false)
    (passes _ _ _ _ (said c.mac_fits.ensures c.if-not-mac_fits.false) (ends _ _))))
    c.open_and_judge.ensures
