-- Digits as characters, in ASCII.
use Rattle.std.specs.Prelude.{ℕ, ◌+◌, ◌-◌, Bool, true, List, [], ◌∷◌, leb, ltb, length}
use Rattle.ground.specs.Choice.{pick, both}

-- From the one to the other, both counted.
abbrev pub between : ℕ → ℕ → ℕ → Bool
between from to c = both (leb from c) (leb c to)

-- The value of a digit: `0` to `9`, `a` to `f`, `A` to `F`; 16 for a character that is none.
unfoldable pub value : ℕ → ℕ
value c =
    pick (between 48 57 c) (c - 48)
    (pick (between 97 102 c) (c - 87)
    (pick (between 65 70 c) (c - 55) 16))

-- The digit of a value below 16: `0` to `9`, then `a` to `f`.
unfoldable pub glyph : ℕ → ℕ
glyph d = pick (ltb d 10) (48 + d) (87 + d)

-- Is every character a digit below the base?
unfoldable pub digits : ℕ → List ℕ → Bool
digits base [] = true
digits base (c ∷ w) = both (ltb (value c) base) (digits base w)

-- A word of such digits: at least one.
abbrev pub is_word : ℕ → List ℕ → Bool
is_word base w = both (leb 1 (length w)) (digits base w)
