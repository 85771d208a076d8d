-- Bytes as hex digits, two to a byte, the high one first; `-` for no bytes.
use Rattle.std.specs.Prelude.{
  ℕ,
  ◌+◌,
  ◌*◌,
  ◌/◌,
  ◌%◌,
  ◌≡◌,
  Bool,
  false,
  not,
  List,
  [],
  ◌∷◌,
  ◌++◌,
  eqb,
  ltb,
  length,
  drop,
  Result,
  Ok,
  Err,
}
use Rattle.text.specs.declared.HexFault.TheVariants.{NotHex, Odd, Over}
use Rattle.text.specs.declared.HexFault.{HexFault}
use Rattle.ground.specs.Choice.{pick}
use Rattle.text.specs.Digits.{value, glyph, is_word}

abbrev pub dash : ℕ
dash = 45

-- Is it the word for no bytes?
unfoldable pub is_dash : List ℕ → Bool
is_dash [] = false
is_dash (c ∷ []) = eqb c dash
is_dash (c ∷ (d ∷ w)) = false

-- The bytes of a word: one for each two digits. `-` has none.
unfoldable pub bytes_of : List ℕ → List ℕ
bytes_of [] = []
bytes_of (c ∷ []) = []
bytes_of (c ∷ (d ∷ w)) = (value c * 16 + value d) ∷ bytes_of w

-- What is read of a word, into a room of so many bytes.
unfoldable pub hex_read : List ℕ → ℕ → Result ℕ HexFault
hex_read w size =
    pick (is_dash w) (Ok 0)
    (pick (not (is_word 16 w)) (Err NotHex)
    (pick (eqb (length w % 2) 1) (Err Odd)
    (pick (ltb size (length (bytes_of w))) (Err Over)
    (Ok (length (bytes_of w))))))

-- What the room holds afterwards: the bytes over its first, where they were read; else what it held.
abbrev pub hex_room : Result ℕ HexFault → List ℕ → List ℕ → List ℕ
hex_room (Ok n) bytes room = bytes ++ drop n room
hex_room (Err NotHex) bytes room = room
hex_room (Err Odd) bytes room = room
hex_room (Err Over) bytes room = room

-- What `read_hex` answers, and leaves in the room.
pub record ReadsHex (word room : List ℕ) (answer : Result ℕ HexFault) (after : List ℕ) : Type 0 where
  pub says : answer ≡ hex_read word (length room)
  pub holds : after ≡ hex_room (hex_read word (length room)) (bytes_of word) room

-- Two digits for each byte.
unfoldable pub pairs : List ℕ → List ℕ
pairs [] = []
pairs (b ∷ bs) = glyph (b / 16) ∷ (glyph (b % 16) ∷ pairs bs)

-- Bytes as a word.
unfoldable pub hex_word : List ℕ → List ℕ
hex_word [] = dash ∷ []
hex_word (b ∷ bs) = pairs (b ∷ bs)
