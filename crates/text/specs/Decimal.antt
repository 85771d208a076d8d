-- Numbers up to 65,535 as decimal digits.
use Rattle.std.specs.Prelude.{ℕ, ◌+◌, ◌*◌, ◌/◌, ◌%◌, not, List, [], ◌∷◌, eqb, ltb, Result, Ok, Err}
use Rattle.text.specs.declared.DecimalFault.TheVariants.{NotNumber, Over}
use Rattle.text.specs.declared.DecimalFault.{DecimalFault}
use Rattle.ground.specs.Choice.{pick}
use Rattle.text.specs.Digits.{value, glyph, is_word}

-- n, and the digits of a word behind it.
unfoldable pub behind : ℕ → List ℕ → ℕ
behind n [] = n
behind n (c ∷ w) = behind (n * 10 + value c) w

-- The number of a word.
abbrev pub number_of : List ℕ → ℕ
number_of w = behind 0 w

abbrev pub largest : ℕ
largest = 65535

-- What is read of a word.
unfoldable pub decimal_read : List ℕ → Result ℕ DecimalFault
decimal_read w =
    pick (not (is_word 10 w)) (Err NotNumber)
    (pick (ltb largest (number_of w)) (Err Over)
    (Ok (number_of w)))

abbrev pub zero_digit : ℕ
zero_digit = 48

-- A word from its first digit that is not 0.
unfoldable pub stripped : List ℕ → List ℕ
stripped [] = []
stripped (c ∷ w) = pick (eqb c zero_digit) (stripped w) (c ∷ w)

-- `0` where there is no digit.
abbrev pub or_zero : List ℕ → List ℕ
or_zero [] = zero_digit ∷ []
or_zero (c ∷ w) = c ∷ w

-- A word without its leading zeros; the last digit stays.
abbrev pub trimmed : List ℕ → List ℕ
trimmed w = or_zero (stripped w)

-- The last five digits of a number.
unfoldable pub five_digits : ℕ → List ℕ
five_digits n = glyph (n / 10000 % 10) ∷ (glyph (n / 1000 % 10) ∷
    (glyph (n / 100 % 10) ∷ (glyph (n / 10 % 10) ∷ (glyph (n % 10) ∷ []))))

-- A number up to 65,535 as a word.
abbrev pub decimal_word : ℕ → List ℕ
decimal_word n = trimmed (five_digits n)
