-- `text::write_hex` meets its contract.
use mathlib.Core.Path.{sym, ◌∙◌}
use native.Mathlib.Omega.{arith}
use borrow.Author.Tests.{eqb-true, eqb-false}
use Rattle.text.proofs.Rooms.{short, wrote, as_word}
use Rattle.text.proofs.Pairs.{pairs_long, none_word, some_word}
use Rattle.text.proofs.write_hex.Goals as goal

pub returns-then-is_empty : goal.returns-then-is_empty
returns-then-is_empty c = let a = c.args in
    as_word _ _ a.room.now _ _ (none_word a.bytes.now (eqb-true _ _ (sym c.is_empty.ensures ∙ c.if-is_empty.true)))
    c.write.ensures

pub returns-then-room-n : goal.returns-then-room-n
returns-then-room-n c = let a = c.args in
    as_word _ _ a.room.now _ _ (some_word a.bytes.now (eqb-false _ _ (sym c.is_empty.ensures ∙ c.if-is_empty.false)))
    (short _ a.room.now (omega (arith, pairs_long a.bytes.now)))

pub returns : goal.returns
returns c = let a = c.args in
    as_word _ _ a.room.now _ _ (some_word a.bytes.now (eqb-false _ _ (sym c.is_empty.ensures ∙ c.if-is_empty.false)))
    (wrote _ a.room.now _ _ (omega (arith, pairs_long a.bytes.now)) (omega (arith, pairs_long a.bytes.now))
    c.write_pairs.ensures)
