-- The premises of the inverse can be met: each theorem, applied to two calls. `AF` is 65, 70; `af` is 97, 102; `007` is
-- 48, 48, 55.
use Rattle.std.specs.Prelude.{Result, Ok, Some}
use Rattle.text.specs.declared.HexFault.{HexFault}
use mathlib.Core.Path.{◌≡◌, refl}
use mathlib.Core.List.{List, [], ◌∷◌, ◌++◌, map}
use Prim.Native.Nat.{ℕ, zero, suc}
use native.Mathlib.Omega.{arith}
use lib.ListN.{length, take, drop}
use Rattle.text.specs.Digits.{value, glyph, digits}
use Rattle.text.specs.Hex.{ReadsHex, is_dash, bytes_of, hex_read, pairs, hex_word}
use Rattle.text.specs.Decimal.{behind, decimal_read, stripped, trimmed, five_digits, decimal_word}
use Rattle.text.specs.Room.{Writes}
use Rattle.text.specs.Inverse.{EachByte, lower}
use Rattle.text.proofs.HexInverse.{hex_back, hex_again}
use Rattle.text.proofs.DecimalInverse.{decimal_back, decimal_again}

-- the byte 175; a room of three characters, and what it holds when `af` is written; a room of two bytes, and what it
-- holds when they are read
abbrev byte : List ℕ
byte = 175 ∷ []

abbrev room : List ℕ
room = 1 ∷ (2 ∷ (3 ∷ []))

abbrev text : List ℕ
text = 97 ∷ (102 ∷ (3 ∷ []))

abbrev other : List ℕ
other = 7 ∷ (8 ∷ [])

abbrev after : List ℕ
after = 175 ∷ (8 ∷ [])

is_byte : EachByte byte
is_byte zero = omega arith
is_byte (suc i) = omega arith

writes : Writes (hex_word byte) room (Some 2) text
unfolding hex_word pairs glyph
writes = record { says = refl; holds = refl }

reads : ReadsHex (take 2 text) other (Ok 1) after
unfolding hex_read is_dash digits bytes_of value
reads = record { says = refl; holds = refl }

byte_back : (◌≡◌ {A = Result ℕ HexFault} (Ok 1) (Ok (length byte))) × (after ≡ byte ++ drop (length byte) other)
byte_back = hex_back byte room other 2 text (Ok 1) after is_byte writes (omega arith) reads

-- the same byte, from `AF`
abbrev upper : List ℕ
upper = 65 ∷ (70 ∷ [])

reads_upper : ReadsHex upper other (Ok 1) after
unfolding hex_read is_dash digits bytes_of value
reads_upper = record { says = refl; holds = refl }

word_again : take 2 text ≡ map lower upper
word_again = hex_again upper other room 1 after 2 text reads_upper writes

-- the number 7, and `007`
abbrev seven : List ℕ
seven = 55 ∷ (2 ∷ (3 ∷ []))

writes_seven : Writes (decimal_word 7) room (Some 1) seven
unfolding stripped five_digits glyph
writes_seven = record { says = refl; holds = refl }

seven_back : decimal_read (take 1 seven) ≡ Ok 7
seven_back = decimal_back 7 room 1 seven (omega arith) writes_seven

abbrev zeros : List ℕ
zeros = 48 ∷ (48 ∷ (55 ∷ []))

reads_zeros : decimal_read zeros ≡ Ok 7
unfolding decimal_read digits behind value
reads_zeros = refl

seven_again : take 1 seven ≡ trimmed zeros
seven_again = decimal_again zeros 7 room 1 seven reads_zeros writes_seven
