-- No reply is longer than 172 bytes, no message longer than 176, and no header with its data longer than 144.
use mathlib.Core.Bool.{Bool, true, false}
use Prim.Native.Nat.{ℕ, ◌≤◌, ◌<◌}
use native.Mathlib.Omega.{arith}
use Rattle.memory.specs.declared.BlockSize.{BlockSize}
use Rattle.ground.specs.Choice.{pick}
use Rattle.frames.specs.Blocks.{blocks_length}
use Rattle.frames.specs.Constants.{by_mode}
use Rattle.frames.specs.Modes.{has_mac}
use Rattle.frames.specs.declared.ProtMode.{ProtMode}
use Rattle.frames.specs.declared.ProtMode.TheVariants.{Plaintext, Cbc, Cmac, CbcCmac}
use Rattle.frames.specs.Lengths.{
  mac_length,
  iam3_mac_at,
  iam3_length,
  tam1_length,
  tam2_length,
  iam1_length,
  iam2_length,
  mam1_length,
  mam2_length,
  tam1_reply_length,
  iam1_reply_length,
  mam1_reply_length,
  empty_reply_length,
  tam2_mac_at,
  tam2_reply_length,
  reply_room,
  message_room,
}
use Rattle.frames.proofs.Least.{d_nine}

pick_le : (b : Bool) (x y k : ℕ) → x ≤ k → y ≤ k → pick b x y ≤ k
pick_le true x y k p q = p
pick_le false x y k p q = q

pub mac_bound : (mode : ProtMode) → mac_length mode ≤ 12
unfolding mac_length
mac_bound mode = pick_le (has_mac mode) 12 0 12 (omega arith) (omega arith)

-- D blocks are at most 144 bytes
pub blocks_most : (s : BlockSize) (header : Bool) (n : ℕ) → n < 16 → blocks_length s header n ≤ 144
unfolding blocks_length
blocks_most s header n h = omega (arith, d_nine s header n h)

pub tam2_reply_fits : (s : BlockSize) (rev : Bool) (n : ℕ) (mode : ProtMode) → n < 16
    → tam2_reply_length s rev n mode ≤ reply_room
unfolding tam2_reply_length tam2_mac_at
tam2_reply_fits s rev n mode h = omega (arith, blocks_most s rev n h, mac_bound mode)

pub iam3_fits_lem : (s : BlockSize) (n : ℕ) (mode : ProtMode) → n < 16 → iam3_length s n mode ≤ message_room
unfolding iam3_length iam3_mac_at
iam3_fits_lem s n mode h = omega (arith, blocks_most s true n h, mac_bound mode)

-- the other replies, and the other messages
pub replies_fit : (tam1_reply_length ≤ reply_room) × (iam1_reply_length ≤ reply_room) × (mam1_reply_length ≤ reply_room)
    × (empty_reply_length ≤ reply_room)
replies_fit = (omega arith, omega arith, omega arith, omega arith)

pub messages_fit : (tam1_length ≤ message_room)
    × (tam2_length ≤ message_room)
    × (iam1_length ≤ message_room)
    × (iam2_length ≤ message_room)
    × (mam1_length ≤ message_room)
    × (mam2_length ≤ message_room)
messages_fit = (omega arith, omega arith, omega arith, omega arith, omega arith, omega arith)

-- a constant by ProtMode is below what its four are below
pub by_mode_le : (a b c d : ℕ) (mode : ProtMode) (k : ℕ) → a ≤ k → b ≤ k → c ≤ k → d ≤ k → by_mode a b c d mode ≤ k
unfolding by_mode
by_mode_le a b c d Plaintext k ha hb hc hd = ha
by_mode_le a b c d Cbc k ha hb hc hd = hb
by_mode_le a b c d Cmac k ha hb hc hd = hc
by_mode_le a b c d CbcCmac k ha hb hc hd = hd
