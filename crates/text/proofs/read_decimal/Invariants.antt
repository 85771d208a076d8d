-- `text::read_decimal` meets its contract. The invariant: n, and what is left of the word behind it, is the word's
-- number.
use mathlib.Core.Path.{◌≡◌}
use Prim.Native.Nat.{◌≤◌}
use lib.ListN.{drop}
use Rattle.text.specs.Decimal.{behind, number_of, largest}
use Rattle.text.proofs.read_decimal.Given as goal

abbrev pub invariant-loop-c : goal.invariant-loop-c
invariant-loop-c l = (l.n ≤ largest) × (behind l.n (drop l.c-index l.word) ≡ number_of l.word)
