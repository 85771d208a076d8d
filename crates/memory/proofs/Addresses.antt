-- The address of a block.
use mathlib.Core.Path.{◌≡◌}
use Prim.Native.Nat.{ℕ, ◌*◌, ◌≤◌}
use native.Mathlib.Omega.{arith}
use Rattle.memory.specs.declared.BlockSize.{BlockSize}
use Rattle.memory.specs.declared.BlockSize.TheVariants.{Bits64, Bits16}
use Rattle.memory.specs.Address.{step_of}

-- so many steps are at most four times so many words
pub steps_bound : (size : BlockSize) (n e : ℕ) → e ≡ step_of size → n * e ≤ n * 4
unfolding step_of
steps_bound Bits64 n e h = rw h (omega arith)
steps_bound Bits16 n e h = rw h (omega arith)
