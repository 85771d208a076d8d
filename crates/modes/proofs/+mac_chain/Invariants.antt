use Rattle.std.proofs.Common.{length}
use Rattle.modes.proofs.+mac_chain.Given as goal

abbrev pub decreases-mac_chain : goal.decreases-mac_chain
decreases-mac_chain l = length l.input.now
