-- A message that was taken apart is built of its fields again: of any message of bytes, of the right kind and length,
-- each of the seven.
use mathlib.Core.Path.{◌≡◌, ap, ◌∙◌}
use mathlib.Core.List.{List, [], ◌∷◌, ◌++◌}
use Prim.Native.Nat.{ℕ, ◌+◌, ◌*◌, ◌/◌, ◌%◌, ◌≤◌, ◌<◌}
use native.Mathlib.Omega.{arith}
use lib.ListN.{length, take}
use Rattle.ground.specs.Bytes.{Bytes, byte_at, bit_of, flag}
use Rattle.octets.specs.Parts.{bytes_from}
use Rattle.octets.proofs.Parts.{whole, bytes_taken}
use Rattle.memory.specs.declared.BlockSize.{BlockSize}
use Rattle.frames.specs.Fields.{size_bit, size_of, select_bytes, select_custom}
use Rattle.frames.specs.Kinds.{kind_of}
use Rattle.frames.specs.Lengths.{
  tam1_length,
  tam2_length,
  iam1_length,
  iam2_length,
  iam3_head_length,
  mam1_length,
  mam2_length,
}
use Rattle.frames.specs.Messages.{
  tam1_message,
  tam1_of,
  tam2_message,
  tam2_of,
  iam1_message,
  iam1_of,
  iam2_message,
  iam2_of,
  iam3_head,
  iam3_of,
  mam1_message,
  mam1_of,
  mam2_message,
  mam2_of,
}
use Rattle.frames.specs.declared.Kind.TheVariants.{Tam1, Tam2, Iam1, Iam2, Iam3, Mam1, Mam2}
use Rattle.frames.proofs.FirstByte.{kind_range}
use Rattle.frames.proofs.Range.{bit_of_size, bit_of_flag}

-- the three bytes that TAM2 and IAM3 share
pub select_bytes_lem : (s : BlockSize) (x y z : ℕ) → x < 256 → y < 256 → z < 256
    → select_bytes (select_custom s x y z) (z % 16) ≡ x ∷ y ∷ z ∷ []
unfolding select_bytes select_custom
select_bytes_lem s x y z hx hy hz =
    let a : x / 16 * 16 + (x % 16 * 256 + y) / 256 ≡ x = omega arith in
    let b : (x % 16 * 256 + y) % 256 ≡ y = omega arith in
    let c : z / 16 * 16 + z % 16 ≡ z = omega arith in
    λ i. a i ∷ b i ∷ c i ∷ []

module _ (m : List ℕ) (bytes : Bytes m) where
  pub tam1_built : length m ≡ tam1_length → kind_of (byte_at m 0) ≡ Tam1 → tam1_message (tam1_of m) ≡ m
  unfolding tam1_message tam1_of bytes_from
  tam1_built n k =
      let x : byte_at m 0 % 32 ≡ byte_at m 0 = omega (arith, kind_range (byte_at m 0) Tam1 (bytes 0) k) in
      ap (λ (b : ℕ). b ∷ byte_at m 1 ∷ bytes_from m 2 10) x ∙ whole m 12 n

  pub mam1_built : length m ≡ mam1_length → kind_of (byte_at m 0) ≡ Mam1 → mam1_message (mam1_of m) ≡ m
  unfolding mam1_message mam1_of bytes_from
  mam1_built n k =
      let x : 0x80 + byte_at m 0 % 16 ≡ byte_at m 0 = omega (arith, kind_range (byte_at m 0) Mam1 (bytes 0) k) in
      ap (λ (b : ℕ). b ∷ byte_at m 1 ∷ bytes_from m 2 10) x ∙ whole m 12 n

  pub iam1_built : length m ≡ iam1_length → kind_of (byte_at m 0) ≡ Iam1 → iam1_message (iam1_of m) ≡ m
  unfolding iam1_message iam1_of bytes_from
  iam1_built n k =
      let x : 0x40 + byte_at m 0 % 16 ≡ byte_at m 0 = omega (arith, kind_range (byte_at m 0) Iam1 (bytes 0) k) in
      ap (λ (b : ℕ). b ∷ byte_at m 1 ∷ []) x ∙ whole m 2 n

  pub iam2_built : length m ≡ iam2_length → kind_of (byte_at m 0) ≡ Iam2 → iam2_message (iam2_of m) ≡ m
  unfolding iam2_message iam2_of bytes_from
  iam2_built n k =
      let x : 0x50 + byte_at m 0 % 8 ≡ byte_at m 0 = omega (arith, kind_range (byte_at m 0) Iam2 (bytes 0) k) in
      ap (λ (b : ℕ). b ∷ bytes_from m 1 16) x ∙ whole m 17 n

  pub mam2_built : length m ≡ mam2_length → kind_of (byte_at m 0) ≡ Mam2 → mam2_message (mam2_of m) ≡ m
  unfolding mam2_message mam2_of bytes_from
  mam2_built n k =
      let x : 0x90 + byte_at m 0 % 16 ≡ byte_at m 0 = omega (arith, kind_range (byte_at m 0) Mam2 (bytes 0) k) in
      ap (λ (b : ℕ). b ∷ bytes_from m 1 16) x ∙ whole m 17 n

  pub tam2_built : length m ≡ tam2_length → kind_of (byte_at m 0) ≡ Tam2 → tam2_message (tam2_of m) ≡ m
  unfolding tam2_message tam2_of bytes_from select_custom
  tam2_built n k =
      let h = byte_at m 0 in
      let b : size_bit (size_of (h / 16 % 2)) ≡ h / 16 % 2 = bit_of_size (h / 16 % 2) (omega arith) in
      let v : bit_of (flag (h / 8 % 2)) ≡ h / 8 % 2 = bit_of_flag (h / 8 % 2) (omega arith) in
      let x : 0x20 + size_bit (size_of (h / 16 % 2)) * 16 + bit_of (flag (h / 8 % 2)) * 8 + h % 8 ≡ h =
      omega (arith, kind_range h Tam2 (bytes 0) k) in
      let s =
      select_bytes_lem (size_of (h / 16 % 2)) (byte_at m 12) (byte_at m 13) (byte_at m 14) (bytes 12) (bytes 13)
      (bytes 14) in
      (λ i. x i ∷ byte_at m 1 ∷ (bytes_from m 2 10 ++ s i)) ∙ whole m 15 n

  -- of IAM3 the head: its first 20 bytes
  pub iam3_built : iam3_head_length ≤ length m → kind_of (byte_at m 0) ≡ Iam3
      → iam3_head (iam3_of m) ≡ take iam3_head_length m
  unfolding iam3_head iam3_of bytes_from select_custom
  iam3_built n k =
      let h = byte_at m 0 in
      let b : size_bit (size_of (h / 4 % 2)) ≡ h / 4 % 2 = bit_of_size (h / 4 % 2) (omega arith) in
      let x : 0x58 + size_bit (size_of (h / 4 % 2)) * 4 + h % 4 ≡ h = omega (arith, kind_range h Iam3 (bytes 0) k) in
      let s =
      select_bytes_lem (size_of (h / 4 % 2)) (byte_at m 1) (byte_at m 2) (byte_at m 3) (bytes 1) (bytes 2)
      (bytes 3) in
      (λ i. x i ∷ (s i ++ bytes_from m 4 16)) ∙ bytes_taken m 20 n
