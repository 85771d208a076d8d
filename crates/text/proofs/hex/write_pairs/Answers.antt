use mathlib.Core.Path.{◌∙◌}
use Prim.Native.Nat.{◌*◌}
use native.Mathlib.Omega.{arith}
use Rattle.text.specs.Hex.{pairs}
use Rattle.text.proofs.Rooms.{ended}
use Rattle.text.proofs.Pairs.{pairs_long, pair_next}
use borrow.Author.Rules.{rules}
use Rattle.text.proofs.hex.write_pairs.Goals as goal

pub loop-i-preserved : goal.loop-i-preserved
loop-i-preserved c = let a = c.args in
    pair_next a.bytes.now a.room.now c.loop-i.room c.loop-i.i _ _ (search rules) (search rules)
    c.loop-i.invariant c.glyph-high.ensures c.glyph-low.ensures

pub returns : goal.returns
returns c = let a = c.args in
    c.loop-i.invariant ∙ ended (pairs a.bytes.now) a.room.now (c.loop-i.i * 2) (omega (arith, pairs_long a.bytes.now))
