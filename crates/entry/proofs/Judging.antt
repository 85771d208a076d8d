-- The constant of an opened block.
use mathlib.Core.Path.{◌≡◌}
use Prim.Native.Nat.{ℕ}
use native.Mathlib.Omega.{arith}
use Rattle.frames.specs.Constants.{with_purpose}
use Rattle.entry.specs.Opened.{constant_in}

-- a constant comes back out of the two bytes that it makes with a Purpose
pub constant_back : (k p : ℕ) → constant_in (with_purpose k p) ≡ k
unfolding with_purpose
constant_back k p = omega arith
