use mathlib.Core.Path.{◌≡◌}
use mathlib.Core.List.{[]}
use Prim.Native.Nat.{ℕ, ◌+◌, ◌<◌}
use lib.ListN.{length, get_or}
use Rattle.aes.specs.KeyExpansion.{round_key}
use Rattle.aes.proofs.key_expansion.Given as goal

abbrev pub invariant-loop-i : goal.invariant-loop-i
invariant-loop-i l = record {
  long : length l.w ≡ 11;
  made : (k : ℕ) → k < l.i + 1 → get_or l.w k [] ≡ round_key l.fn.key k;
}
