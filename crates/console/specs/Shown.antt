-- What is shown of a word of digits: all of it, where a room of so many characters has it.
use Rattle.std.specs.Prelude.{ℕ, List, [], leb, length}
use Rattle.ground.specs.Choice.{pick}

abbrev pub shown : ℕ → List ℕ → List ℕ
shown room word = pick (leb (length word) room) word []
