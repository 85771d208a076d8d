-- `octets::fill` meets its contract.
use Rattle.octets.proofs.Parts.{copied_short, copied_full}
use Rattle.octets.proofs.fill.Goals as goal

pub returns-then-src-n : goal.returns-then-src-n
returns-then-src-n c =
    copied_short c.args.src.now c.args.room.now _ c.if-src-n.true c.copy_from_slice.ensures.after

pub returns : goal.returns
returns c = copied_full c.args.src.now c.args.room.now _ c.if-src-n.false c.copy_from_slice-2.ensures.after
