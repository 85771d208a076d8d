-- Bytes, numbers of two bytes, and bits.
use Rattle.std.specs.Prelude.{ℕ, ◌+◌, ◌*◌, ◌/◌, ◌%◌, ◌^◌, ◌<◌, Bool, true, false, List, [], ◌∷◌, get_or, eqb}

-- element i of a list; past its end 0
abbrev pub byte_at : List ℕ → ℕ → ℕ
byte_at s i = get_or s i 0

-- each element is a byte, and so is the 0 past the end
abbrev pub Bytes : List ℕ → Type 0
Bytes s = (i : ℕ) → byte_at s i < 256

-- a number in two bytes, most significant first, and the number that two bytes are
abbrev pub two_bytes : ℕ → List ℕ
two_bytes n = n / 256 ∷ n % 256 ∷ []

abbrev pub word_at : List ℕ → ℕ → ℕ
word_at s i = byte_at s i * 256 + byte_at s (i + 1)

-- bit i of a number, bit 0 being the least significant
abbrev pub bit : ℕ → ℕ → ℕ
bit n i = n / 2 ^ i % 2

-- a bit as a flag, and a flag as a bit
abbrev pub flag : ℕ → Bool
flag b = eqb b 1

abbrev pub bit_of : Bool → ℕ
bit_of true = 1
bit_of false = 0
