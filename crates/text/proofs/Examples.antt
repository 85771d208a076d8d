-- The definitions at words that a person can check. The characters are ASCII: 45 is `-`, 48 `0`, 57 `9`, 65 `A`, 70
-- `F`, 97 `a`, 102 `f`.
use Rattle.std.specs.Prelude.{Ok, Err}
use Rattle.text.specs.declared.DecimalFault.TheVariants.{NotNumber, Over}
use Rattle.text.specs.declared.HexFault.TheVariants.{NotHex, Odd, Over}
use mathlib.Core.Path.{◌≡◌, refl}
use mathlib.Core.List.{[], ◌∷◌}
use Rattle.text.specs.Digits.{value, glyph, digits}
use Rattle.text.specs.Hex.{is_dash, bytes_of, hex_read, pairs, hex_word}
use Rattle.text.specs.Decimal.{behind, decimal_read, stripped, five_digits, decimal_word}

-- `0aFf` is the bytes 10 and 255
two_bytes_lem : bytes_of (48 ∷ (97 ∷ (70 ∷ (102 ∷ [])))) ≡ 10 ∷ (255 ∷ [])
unfolding bytes_of value
two_bytes_lem = refl

two_bytes_read : hex_read (48 ∷ (97 ∷ (70 ∷ (102 ∷ [])))) 2 ≡ Ok 2
unfolding hex_read is_dash digits bytes_of value
two_bytes_read = refl

one_byte_room : hex_read (48 ∷ (97 ∷ (70 ∷ (102 ∷ [])))) 1 ≡ (Err Over)
unfolding hex_read is_dash digits bytes_of value
one_byte_room = refl

-- `0`, `g`, the empty word, `-`
odd : hex_read (48 ∷ []) 0 ≡ (Err Odd)
unfolding hex_read is_dash digits bytes_of value
odd = refl

no_digit : hex_read (103 ∷ []) 0 ≡ (Err NotHex)
unfolding hex_read is_dash digits bytes_of value
no_digit = refl

empty : hex_read [] 0 ≡ (Err NotHex)
unfolding hex_read is_dash digits bytes_of value
empty = refl

dash_read : hex_read (45 ∷ []) 0 ≡ Ok 0
unfolding hex_read is_dash
dash_read = refl

-- the bytes 10 and 255 are `0aff`, and no bytes are `-`
two_bytes_written : hex_word (10 ∷ (255 ∷ [])) ≡ 48 ∷ (97 ∷ (102 ∷ (102 ∷ [])))
unfolding hex_word pairs glyph
two_bytes_written = refl

no_bytes_written : hex_word [] ≡ 45 ∷ []
unfolding hex_word
no_bytes_written = refl

-- `065535`, `65536`, `6a`
largest_read : decimal_read (48 ∷ (54 ∷ (53 ∷ (53 ∷ (51 ∷ (53 ∷ [])))))) ≡ Ok 65535
unfolding decimal_read digits behind value
largest_read = refl

too_large : decimal_read (54 ∷ (53 ∷ (53 ∷ (51 ∷ (54 ∷ []))))) ≡ (Err Over)
unfolding decimal_read digits behind value
too_large = refl

no_number : decimal_read (54 ∷ (97 ∷ [])) ≡ (Err NotNumber)
unfolding decimal_read digits behind value
no_number = refl

-- 0 is `0`, and 1024 is `1024`
zero_written : decimal_word 0 ≡ 48 ∷ []
unfolding stripped five_digits glyph
zero_written = refl

number_written : decimal_word 1024 ≡ 49 ∷ (48 ∷ (50 ∷ (52 ∷ [])))
unfolding stripped five_digits glyph
number_written = refl
