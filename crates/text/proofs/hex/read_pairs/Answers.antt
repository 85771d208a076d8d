use mathlib.Core.Path.{◌∙◌}
use Prim.Native.Nat.{◌+◌, ◌*◌}
use native.Mathlib.Omega.{arith}
use Rattle.text.specs.Hex.{bytes_of}
use Rattle.text.proofs.Words.{digit_at}
use Rattle.text.proofs.Rooms.{ended}
use Rattle.text.proofs.Pairs.{bytes_long, byte_next}
use borrow.Author.Rules.{rules}
use Rattle.text.proofs.hex.read_pairs.Goals as goal

pub overflow_mul-room : goal.overflow_mul-room
overflow_mul-room c =
    omega (
      arith,
      digit_at 16 c.args.word.now (c.loop-i.i * 2) c.requires.0 (search rules),
      c.value-high.ensures,
    )

pub overflow_add-room : goal.overflow_add-room
overflow_add-room c = let w = c.args.word.now in
    omega (
      arith,
      digit_at 16 w (c.loop-i.i * 2) c.requires.0 (search rules),
      digit_at 16 w (c.loop-i.i * 2 + 1) c.requires.0 (search rules),
      c.value-high.ensures,
      c.value-low.ensures,
    )

pub loop-i-preserved : goal.loop-i-preserved
loop-i-preserved c = let a = c.args in
    byte_next a.word.now a.room.now c.loop-i.room c.loop-i.i _ _ (search rules) (search rules)
    c.loop-i.invariant c.value-high.ensures c.value-low.ensures

pub returns : goal.returns
returns c = let a = c.args in
    c.loop-i.invariant ∙ ended (bytes_of a.word.now) a.room.now c.loop-i.i (omega (arith, bytes_long a.word.now))
