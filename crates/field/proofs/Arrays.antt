-- What the checker knows of an array of bytes that is a parameter, or that a call returned: its length, and that its
-- elements are bytes.
use mathlib.Core.Path.{◌≡◌}
use mathlib.Core.List.{List}
use Prim.Native.Nat.{ℕ}
use mir.Syntax.{w8}
use mir.Val.{Val}
use denote.Laws.{Is}
use denote.Plain.{UInt}
use denote.Array.{Array}
use lib.ListN.{length}
use borrow.Kind.Array.{e_int, good_length}
use borrow.Author.Rules.{elem_Fits}
use Rattle.ground.specs.Bytes.{Bytes}

pub array_length : (n : ℕ) (xs : List ℕ) (vs : List Val) → Is (Array (UInt w8) n) xs vs → length xs ≡ n
array_length n xs vs p = good_length (e_int w8) n xs vs p

pub array_bytes : (n : ℕ) (xs : List ℕ) (vs : List Val) → Is (Array (UInt w8) n) xs vs → Bytes xs
array_bytes n xs vs p i = (elem_Fits w8 w8 xs p.0 i p.1.1 tt).fits
