-- `frames::constants::iam3_constant` meets its contract.
use mathlib.Core.Path.{◌≡◌}
use Prim.Native.Nat.{ℕ, ◌≤◌, ◌<◌}
use native.Mathlib.Omega.{arith}
use Rattle.frames.specs.Constants.{by_mode}
use Rattle.frames.specs.declared.ProtMode.{ProtMode}
use Rattle.frames.proofs.Bounds.{by_mode_le}
use Rattle.frames.proofs.constants.iam3_constant.Goals as goal

-- what is one of four of 12 bits has 12 bits, whichever four they are
twelve_bits : (n a b c d : ℕ) (mode : ProtMode) → n ≡ by_mode a b c d mode → a ≤ 0xFFF → b ≤ 0xFFF → c ≤ 0xFFF
    → d ≤ 0xFFF → n < 4096
twelve_bits n a b c d mode e p q r s = omega (arith, by_mode_le a b c d mode 0xFFF p q r s)

pub with_purpose-requires : goal.with_purpose-requires
with_purpose-requires c =
    twelve_bits _ _ _ _ _ _ c.by_mode.ensures (omega arith) (omega arith) (omega arith) (omega arith)
