-- `frames::parts::join` meets its contract.
use native.Mathlib.Omega.{arith}
use Rattle.frames.proofs.Joins.{joined}
use Rattle.frames.proofs.parts.join.Goals as goal

pub returns : goal.returns
returns c = joined _ _ _ _ _ _ _ (omega arith) c.put.ensures c.put-2.ensures c.put-3.ensures
