-- The CMAC is a block of bytes, and its first 96 bits are twelve bytes.
use mathlib.Core.Path.{◌≡◌, refl}
use mathlib.Core.List.{List, [], ◌∷◌, ◌++◌}
use Prim.Native.Nat.{ℕ, zero, suc, ◌+◌, ◌*◌, ◌/◌, ◌%◌, ◌<◌}
use native.Mathlib.Omega.{arith}
use lib.Dec.{lit<}
use lib.ListN.{length, get_or, replicate}
use lib.Seq.{length-take-le}
use Rattle.ground.specs.Bytes.{Bytes}
use Rattle.field.specs.Block.{xor}
use Rattle.field.proofs.Block.{Block, block_of, xor_is_block}
use Rattle.aes.specs.AesEnc.{aes_enc}
use Rattle.aes.proofs.Forward.{enc_block}
use Rattle.modes.specs.Blocks.{whole_blocks}
use Rattle.modes.specs.Cmac.{last_byte, shifted_left, doubled, subkey1, masked, mac_chain, cmac, cmac96}
use Rattle.modes.proofs.Whole.{Blocks, whole_are, bytes_take}

last_byte_from : (b : ℕ) → b < 256 → (n : ℕ) → Bytes (replicate n 0 ++ (b ∷ []))
last_byte_from b h zero zero = h
last_byte_from b h zero (suc i) = lit< tt
last_byte_from b h (suc n) zero = lit< tt
last_byte_from b h (suc n) (suc i) = last_byte_from b h n i

last_byte_bytes : (b : ℕ) → b < 256 → Bytes (last_byte b)
last_byte_bytes b h = last_byte_from b h 15

last_byte_block : (b : ℕ) → b < 256 → Block (last_byte b)
last_byte_block b h = record { sixteen = refl; bytes = last_byte_bytes b h }

doubled_block : (l : List ℕ) → Bytes l → Block (doubled l)
unfolding doubled shifted_left
doubled_block l h =
    let carry : get_or l 0 0 / 128 * 0x87 < 256 = omega (arith, h 0) in
    xor_is_block (shifted_left l) (last_byte (get_or l 0 0 / 128 * 0x87))
    (block_of (λ i. get_or l i 0 * 2 % 256 + get_or l (i + 1) 0 / 128)
    (λ i. (let z : get_or l i 0 * 2 % 256 + get_or l (i + 1) 0 / 128 < 256 = omega (arith, h i, h (i + 1)) in z))
    ).bytes
    (last_byte_bytes (get_or l 0 0 / 128 * 0x87) carry)

masked_blocks : (k1 : List ℕ) (ms : List (List ℕ)) → Bytes k1 → Blocks ms → Blocks (masked k1 ms)
unfolding masked
masked_blocks k1 [] h b = tt
masked_blocks k1 (m ∷ []) h (bm, b) = (xor_is_block k1 m h bm.bytes, tt)
masked_blocks k1 (m ∷ n ∷ ms) h (bm, b) = (bm, masked_blocks k1 (n ∷ ms) h b)

module _ (key : List ℕ) (hk : Bytes key) where
  chain_block : (ms : List (List ℕ)) (c : List ℕ) → Block c → Blocks ms → Block (mac_chain key c ms)
  unfolding mac_chain
  chain_block [] c b h = b
  chain_block (m ∷ ms) c b (bm, h) = chain_block ms (aes_enc key (xor c m))
      (enc_block key (xor c m) hk (xor_is_block c m b.bytes bm.bytes)) h

  subkey_block : Block (subkey1 key)
  unfolding subkey1
  subkey_block = doubled_block _ (enc_block key (last_byte 0) hk (last_byte_block 0 (lit< tt))).bytes

  pub cmac_block : (s : List ℕ) → Bytes s → Block (cmac key s)
  unfolding cmac
  cmac_block s h =
      chain_block (masked (subkey1 key) (whole_blocks s)) (last_byte 0) (last_byte_block 0 (lit< tt))
      (masked_blocks (subkey1 key) (whole_blocks s) subkey_block.bytes (whole_are s h))

  pub mac_length_lem : (s : List ℕ) → Bytes s → length (cmac96 key s) ≡ 12
  unfolding cmac96
  mac_length_lem s h = length-take-le 12 (cmac key s) (omega (arith, (cmac_block s h).sixteen))

  pub mac_bytes_lem : (s : List ℕ) → Bytes s → Bytes (cmac96 key s)
  unfolding cmac96
  mac_bytes_lem s h = bytes_take 12 (cmac key s) (cmac_block s h).bytes
