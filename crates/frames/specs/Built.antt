-- What a function that builds n bytes into a lent room leaves behind.
use Rattle.std.specs.Prelude.{ℕ, ◌≡◌, Bool, List, Option, Some, None, ◌++◌, leb, length, drop}
use Rattle.ground.specs.Choice.{pick, both}

-- where the fields are fit and the room has n bytes, its first n become the message and the answer is how many were
-- built; else there is none, and no byte of the room changes
pub record Built (fit : Bool) (n : ℕ) (message room : List ℕ) (answer : Option ℕ) (after : List ℕ) : Type 0 where
  pub says : answer ≡ pick (both fit (leb n (length room))) (Some n) None
  pub holds : after ≡ pick (both fit (leb n (length room))) (message ++ drop n room) room
