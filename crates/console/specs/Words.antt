-- The words of a line: what stands between its blanks.
use Rattle.std.specs.Prelude.{
  ℕ,
  ◌+◌,
  ◌-◌,
  List,
  Option,
  Some,
  None,
  Bool,
  eqb,
  not,
  ◌||◌,
  length,
  take,
  drop,
  unwrap_or,
}
use Rattle.std.specs.List.{position}

abbrev pub blank : ℕ → Bool
blank c = eqb c 32 || (eqb c 9 || eqb c 13)

abbrev pub visible : ℕ → Bool
visible c = not (blank c)

-- where a word ends that begins at n: before the next blank, or with the line
abbrev pub end_at : List ℕ → ℕ → ℕ
end_at s n = n + 1 + unwrap_or (position blank (drop (n + 1) s)) (length (drop (n + 1) s))

abbrev pub word_at : List ℕ → Option ℕ → Option (List ℕ)
word_at s (Some n) = Some (take (end_at s n - n) (drop n s))
word_at s None = None

abbrev pub left_at : List ℕ → Option ℕ → List ℕ
left_at s (Some n) = drop (end_at s n) s
left_at s None = s

-- the first word, where there is one, and what is left behind it
abbrev pub word_of : List ℕ → Option (List ℕ)
word_of s = word_at s (position visible s)

abbrev pub left_of : List ℕ → List ℕ
left_of s = left_at s (position visible s)
