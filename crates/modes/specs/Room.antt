-- What a chaining or MAC call answers, and what its room holds afterwards (the house rules' number 8).
use Rattle.std.specs.Prelude.{◌≡◌, ℕ, ◌%◌, Bool, List, ◌++◌, eqb, leb, length, drop, Result, Ok, Err}
use Rattle.modes.specs.declared.ChainingFault.TheVariants.{BlocksOrRoom}
use Rattle.modes.specs.declared.ChainingFault.{ChainingFault}
use Rattle.ground.specs.Choice.{pick, both}
use Rattle.modes.specs.Cmac.{mac_bytes}

-- The house's number of an answer; 0 where nothing is refused.
abbrev pub number_of : Result Unit ChainingFault → ℕ
number_of (Ok tt) = 0
number_of (Err BlocksOrRoom) = 8

-- Chaining n bytes into a room of m is taken: they are whole blocks, and there is room for as many.
abbrev pub chains : ℕ → ℕ → Bool
chains n m = both (eqb (n % 16) 0) (leb n m)

-- A MAC of n bytes into a room of m is taken: they are whole blocks, at least one, and there is room for the MAC.
abbrev pub macs : ℕ → ℕ → Bool
macs n m = both (leb 1 n) (both (eqb (n % 16) 0) (leb mac_bytes m))

-- `out` over the first bytes of a room; the others stay.
abbrev pub over : List ℕ → List ℕ → List ℕ
over out room = out ++ drop (length out) room

-- What a call that is taken, or is not, answers, and what it leaves in the room it was lent.
pub record Into (taken : Bool) (out room : List ℕ) (answer : Result Unit ChainingFault) (after : List ℕ) : Type 0 where
  pub says : answer ≡ pick taken (Ok tt) (Err BlocksOrRoom)
  pub number : number_of answer ≡ pick taken 0 8
  pub leaves : after ≡ pick taken (over out room) room
