use Rattle.modes.specs.Cmac.{subkey1}
use Rattle.modes.proofs.first_subkey.Goals as goal

pub returns : goal.returns
unfolding subkey1
returns c = cc
