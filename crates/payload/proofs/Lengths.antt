-- How long results are, whatever the bytes.
use mathlib.Core.Path.{◌≡◌, refl, ◌∙◌}
use mathlib.Core.Bool.{Bool, true, false}
use mathlib.Core.List.{List, [], ◌∷◌}
use Prim.Native.Nat.{ℕ, ◌*◌, ◌%◌}
use native.Mathlib.Omega.{arith}
use lib.ListN.{length, length-append}
use lib.Seq.{length-take-le}
use Rattle.ground.specs.Choice.{pick}
use Rattle.field.specs.Block.{xor}
use Rattle.aes.specs.Cipher.{cipher}
use Rattle.aes.specs.AesEnc.{aes_enc}
use Rattle.memory.specs.declared.BlockSize.{BlockSize}
use Rattle.modes.specs.Blocks.{whole_blocks, joined}
use Rattle.modes.specs.Cbc.{cbc_enc, cbc_dec, cbc_enc_aes, cbc_dec_aes}
use Rattle.modes.specs.Cmac.{last_byte, subkey1, masked, mac_chain, cmac, cmac96}
use Rattle.modes.proofs.Whole.{whole_count}
use Rattle.frames.specs.Blocks.{blocks_length}
use Rattle.frames.specs.Modes.{has_mac}
use Rattle.frames.specs.declared.ProtMode.{ProtMode}
use Rattle.frames.specs.Lengths.{mac_length}

pub enc_sixteen : (key b : List ℕ) → length (aes_enc key b) ≡ 16
unfolding aes_enc cipher xor
enc_sixteen key b = refl

-- D blocks are whole blocks
pub blocks_whole : (s : BlockSize) (header : Bool) (n : ℕ) → blocks_length s header n % 16 ≡ 0
unfolding blocks_length
blocks_whole s header n = omega arith

-- ---- chaining, over any cipher of blocks

pub enc_joined : (F : List ℕ → List ℕ) → ((b : List ℕ) → length (F b) ≡ 16) → (bs : List (List ℕ)) (iv : List ℕ)
    → length (joined (cbc_enc F iv bs)) ≡ length bs * 16
unfolding joined cbc_enc
enc_joined F f [] iv = refl
enc_joined F f (b ∷ bs) iv =
    length-append (F (xor b iv)) (joined (cbc_enc F (F (xor b iv)) bs))
    ∙ omega (arith, f (xor b iv), enc_joined F f bs (F (xor b iv)))

pub dec_joined : (F : List ℕ → List ℕ) (bs : List (List ℕ)) (iv : List ℕ)
    → length (joined (cbc_dec F iv bs)) ≡ length bs * 16
unfolding joined cbc_dec xor
dec_joined F [] iv = refl
dec_joined F (b ∷ bs) iv = omega (arith, dec_joined F bs b)

pub cbc_enc_long : (iv key s : List ℕ) → length s % 16 ≡ 0 → length (cbc_enc_aes iv key s) ≡ length s
unfolding cbc_enc_aes
cbc_enc_long iv key s e = enc_joined (aes_enc key) (enc_sixteen key) (whole_blocks s) iv ∙ omega (arith, whole_count s)

pub cbc_dec_long : (iv key s : List ℕ) → length s % 16 ≡ 0 → length (cbc_dec_aes iv key s) ≡ length s
unfolding cbc_dec_aes
cbc_dec_long iv key s e = dec_joined (aes_enc key) (whole_blocks s) iv ∙ omega (arith, whole_count s)

-- ---- the MAC

chain_sixteen : (key : List ℕ) (ms : List (List ℕ)) (c : List ℕ) → length c ≡ 16 → length (mac_chain key c ms) ≡ 16
unfolding mac_chain
chain_sixteen key [] c e = e
chain_sixteen key (m ∷ ms) c e = chain_sixteen key ms (aes_enc key (xor c m)) (enc_sixteen key (xor c m))

pub mac_twelve : (key s : List ℕ) → length (cmac96 key s) ≡ 12
unfolding cmac96 cmac
mac_twelve key s =
    let e = chain_sixteen key (masked (subkey1 key) (whole_blocks s)) (last_byte 0) refl in
    length-take-le 12 (cmac key s) (omega (arith, e))

mac_or_none : (b : Bool) (mackey s : List ℕ) → length (pick b (cmac96 mackey s) []) ≡ pick b 12 0
mac_or_none true mackey s = mac_twelve mackey s
mac_or_none false mackey s = refl

pub mac_long : (mode : ProtMode) (mackey s : List ℕ)
    → length (pick (has_mac mode) (cmac96 mackey s) []) ≡ mac_length mode
unfolding mac_length
mac_long mode = mac_or_none (has_mac mode)
