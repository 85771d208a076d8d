-- `keytable::no_key` meets its contract.
use mathlib.Core.Path.{refl}
use Rattle.keytable.specs.Named.{no_key}
use Rattle.keytable.proofs.no_key.Goals as goal

pub returns : goal.returns
unfolding no_key
returns c = refl
