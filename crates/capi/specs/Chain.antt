-- What chaining and the MAC leave, by number: 0 and the output over the room's first bytes, or 8 and the room as it
-- was.
use Rattle.std.specs.Prelude.{◌≡◌, Bool, List, ℕ}
use Rattle.ground.specs.Choice.{pick}
use Rattle.modes.specs.Room.{over}

pub record Chains (taken : Bool) (out room : List ℕ) (r : ℕ) (after : List ℕ) : Type 0 where
  pub number : r ≡ pick taken 0 8
  pub leaves : after ≡ pick taken (over out room) room
