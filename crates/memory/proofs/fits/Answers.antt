-- `memory::fits` meets its contract.
use native.Mathlib.Omega.{arith}
use Rattle.std.proofs.lemmas.Bool.Decides.{nat_tests}
use Rattle.memory.specs.Address.{last_word, profile_end, overruns}
use Rattle.memory.proofs.fits.Goals as goal

pub returns : goal.returns
unfolding overruns last_word profile_end
returns c = grind (arith, nat_tests)
