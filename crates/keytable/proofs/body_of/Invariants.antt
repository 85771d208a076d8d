-- `keytable::body_of` meets its contract.
use mathlib.Core.Path.{◌≡◌}
use Rattle.sheet.specs.KeyTable.{keys_in}
use Rattle.std.specs.Slice.Iter.{chunks_exact_rest, chunks_exact_size}
use Rattle.keytable.proofs.Records.{Alike}
use Rattle.keytable.proofs.body_of.Given as goal

abbrev pub invariant-loop-four : goal.invariant-loop-four
invariant-loop-four l =
    (goal.iterator-loop-four).can_next l.four-iterator
    × (goal.iterator-loop-four).is_finite l.four-iterator
    × (chunks_exact_size l.four-iterator ≡ 148)
    × (chunks_exact_rest l.four-iterator ≡ l.left)
    × Alike l.keyid (keys_in l.left) (keys_in l.keys)

abbrev pub invariant-loop-record : goal.invariant-loop-record
invariant-loop-record l =
    (goal.iterator-loop-record).can_next l.record-iterator
    × (goal.iterator-loop-record).is_finite l.record-iterator
    × (chunks_exact_size l.record-iterator ≡ 37)
    × Alike l.keyid (keys_in (chunks_exact_rest l.record-iterator)) (keys_in l.keys)
