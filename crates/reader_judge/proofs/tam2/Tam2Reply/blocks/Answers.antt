-- `reader_judge::tam2::Tam2Reply::blocks` meets its contract.
use native.Mathlib.Omega.{arith}
use Rattle.payload.proofs.Data.{blocks_fit}
use Rattle.reader_judge.proofs.Clear.{blocks_there}
use Rattle.reader_judge.proofs.tam2.Tam2Reply.blocks.Goals as goal

pub returns : goal.returns
returns c = let s = c.args.self.now in
    let e = c.blocks_length.ensures in
    (e, omega (arith, blocks_there s, e), omega (arith, blocks_fit s.f.rev s.f.custom s.fits, e))
