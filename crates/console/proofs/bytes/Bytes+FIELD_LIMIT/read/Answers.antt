-- `bytes::Bytes::read` keeps within its room.
use Rattle.text.proofs.Readings.{read_within}
use Rattle.console.proofs.bytes.Bytes+FIELD_LIMIT.read.Goals as goal

pub invariant_of-result : goal.invariant_of-result
invariant_of-result c = record { within = read_within _ _ _ _ c.in_ok-length.ensures }
