-- Reading and writing are each other's inverse. The claims speak of what the contracts say of a call: `Writes` of a
-- word, its room, the answer and the room afterwards; `ReadsHex` likewise. An answer says that the room had the
-- characters, and `take n text` is what was written into it.
use Rattle.std.specs.Prelude.{ℕ, ◌+◌, ◌≤◌, ◌<◌, ◌≡◌, List, map, ◌++◌, length, take, drop, get_or, Some, Result, Ok}
use Rattle.text.specs.declared.HexFault.{HexFault}
use Rattle.ground.specs.Choice.{pick}
use Rattle.text.specs.Digits.{between}
use Rattle.text.specs.Hex.{ReadsHex, hex_word}
use Rattle.text.specs.Decimal.{decimal_read, decimal_word, largest, trimmed}
use Rattle.text.specs.Room.{Writes}

-- Each element is a byte.
abbrev pub EachByte : List ℕ → Type 0
EachByte bs = (i : ℕ) → get_or bs i 0 < 256

-- A character in lower case.
unfoldable pub lower : ℕ → ℕ
lower c = pick (between 65 90 c) (c + 32) c

-- Bytes that are written and read again are the same bytes, where the room has them.
abbrev pub HexBack : Type 0
HexBack =
    (bytes room other : List ℕ) (n : ℕ) (text : List ℕ) (r : Result ℕ HexFault) (after : List ℕ)
    → EachByte bytes
    → Writes (hex_word bytes) room (Some n) text
    → length bytes ≤ length other
    → ReadsHex (take n text) other r after
    → (r ≡ Ok (length bytes)) × (after ≡ bytes ++ drop (length bytes) other)

-- A word whose bytes are read and written again is the same word, in lower case.
abbrev pub HexAgain : Type 0
HexAgain =
    (word room other : List ℕ) (n : ℕ) (after : List ℕ) (m : ℕ) (text : List ℕ)
    → ReadsHex word room (Ok n) after
    → Writes (hex_word (take n after)) other (Some m) text
    → take m text ≡ map lower word

-- A number that is written and read again is the same number.
abbrev pub DecimalBack : Type 0
DecimalBack =
    (number : ℕ) (room : List ℕ) (n : ℕ) (text : List ℕ)
    → number ≤ largest
    → Writes (decimal_word number) room (Some n) text
    → decimal_read (take n text) ≡ Ok number

-- A word whose number is read and written again is the same word, without its leading zeros.
abbrev pub DecimalAgain : Type 0
DecimalAgain =
    (word : List ℕ) (number : ℕ) (room : List ℕ) (n : ℕ) (text : List ℕ)
    → decimal_read word ≡ Ok number
    → Writes (decimal_word number) room (Some n) text
    → take n text ≡ trimmed word
