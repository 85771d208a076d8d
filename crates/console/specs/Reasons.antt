-- What a line is refused for where a word of it is not read.
use Rattle.std.specs.Prelude.{ℕ, List, ltb, if◌then◌else◌, Result, Ok, Err, Option, Some, None, eqb, length}
use Rattle.text.specs.declared.DecimalFault.TheVariants.{NotNumber, Over}
use Rattle.text.specs.declared.DecimalFault.{DecimalFault}
use Rattle.text.specs.declared.HexFault.TheVariants as hex
use Rattle.text.specs.declared.HexFault.{HexFault}
use Rattle.text.specs.Hex.{hex_read, bytes_of}
use Rattle.text.specs.Decimal.{decimal_read}
use Rattle.console.specs.declared.reason.Reason.TheVariants as says
use Rattle.console.specs.declared.reason.Reason.{Reason}

abbrev pub decimal_reason : DecimalFault → Reason
decimal_reason NotNumber = says.NotNumber
decimal_reason Over = says.NumberOver

abbrev pub hex_reason : HexFault → Reason
hex_reason hex.NotHex = says.NotHex
hex_reason hex.Odd = says.OddDigits
hex_reason hex.Over = says.BytesOver

-- The length of a room: a number up to 4096.
abbrev pub room_of : Result ℕ DecimalFault → Result ℕ Reason
room_of (Ok n) = if ltb 4096 n then Err says.RoomOver else Ok n
room_of (Err f) = Err (decimal_reason f)

abbrev pub room_read : List ℕ → Result ℕ Reason
room_read w = room_of (decimal_read w)

-- What the next field is read as, where there is one.
abbrev pub number_of : Result ℕ DecimalFault → Result ℕ Reason
number_of (Ok n) = Ok n
number_of (Err f) = Err (decimal_reason f)

abbrev pub number_read : Option (List ℕ) → Result ℕ Reason
number_read (Some w) = number_of (decimal_read w)
number_read None = Err says.WordMissing

abbrev pub room_asked : Option (List ℕ) → Result ℕ Reason
room_asked (Some w) = room_read w
room_asked None = Err says.WordMissing

abbrev pub hex_of : Result ℕ HexFault → List ℕ → Result (List ℕ) Reason
hex_of (Ok n) b = Ok b
hex_of (Err f) b = Err (hex_reason f)

abbrev pub hex_taken : Option (List ℕ) → Result (List ℕ) Reason
hex_taken (Some w) = hex_of (hex_read w 4096) (bytes_of w)
hex_taken None = Err says.WordMissing

-- The bytes, where they are so many.
abbrev pub array_of : ℕ → Result (List ℕ) Reason → Result (Option (List ℕ)) Reason
array_of n (Ok b) = Ok (if eqb (length b) n then Some b else None)
array_of n (Err r) = Err r

abbrev pub sixteen_of : Result (List ℕ) Reason → Result (List ℕ) Reason
sixteen_of (Ok b) = if eqb (length b) 16 then Ok b else Err says.NotSixteen
sixteen_of (Err r) = Err r
