-- `memory::overlaps` meets its contract.
use mathlib.Core.Path.{◌∙◌, sym}
use borrow.Author.Tests.{le-ltb}
use Rattle.memory.proofs.Locks.{apart, behind, tested}
use Rattle.memory.proofs.overlaps.Goals as goal

pub returns-then-ne : goal.returns-then-ne
returns-then-ne c = apart c.args.block c.args.lock (sym c.ne.ensures ∙ c.if-ne.true)

pub returns-then-word-end : goal.returns-then-word-end
returns-then-word-end c =
    tested c.args.block c.args.lock (sym c.ne.ensures ∙ c.if-ne.false) _ c.max-word.ensures c.if-word-end.true

pub returns-else-word-end : goal.returns-else-word-end
returns-else-word-end c =
    simp (le-ltb _ _ c.if-word-end.false) (behind c.args.block c.args.lock _ c.max-word.ensures c.if-word-end.false)
