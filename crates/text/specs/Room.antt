-- What a function that writes a word into a lent room answers, and leaves in it.
use Rattle.std.specs.Prelude.{ℕ, ◌≡◌, List, ◌++◌, leb, length, drop, Option, Some, None}
use Rattle.ground.specs.Choice.{pick}

-- Where the room has as many characters, the word stands over its first and the answer is its length; else the answer
-- is None and no byte changes.
pub record Writes (word room : List ℕ) (answer : Option ℕ) (after : List ℕ) : Type 0 where
  pub says : answer ≡ pick (leb (length word) (length room)) (Some (length word)) None
  pub holds : after ≡ pick (leb (length word) (length room)) (word ++ drop (length word) room) room
