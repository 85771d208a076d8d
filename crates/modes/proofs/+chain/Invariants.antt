use Rattle.std.proofs.Common.{length}
use Rattle.modes.proofs.+chain.Given as goal

abbrev pub decreases-chain : goal.decreases-chain
decreases-chain g l = length l.input.now
