-- The replies are bytes, where the keys, the draws, the challenge and the words are.
use Rattle.std.specs.Prelude.{Option, Some, None}
use mathlib.Core.Path.{◌≡◌}
use mathlib.Core.Bool.{Bool, true, false}
use mathlib.Core.List.{List, [], ◌++◌}
use Prim.Native.Nat.{ℕ, zero, suc, ◌-◌, ◌≤◌}
use native.Mathlib.Omega.{arith}
use lib.ListN.{length, take, replicate}
use lib.Seq.{length-take-le}
use Rattle.ground.specs.Bytes.{Bytes, two_bytes}
use Rattle.ground.specs.Choice.{pick}
use Rattle.field.proofs.Block.{Block}
use Rattle.modes.specs.Cbc.{cbc_enc_aes}
use Rattle.modes.specs.Cmac.{cmac96}
use Rattle.modes.proofs.Whole.{bytes_take}
use Rattle.modes.proofs.Results.{cbc_enc_aes_bytes}
use Rattle.modes.proofs.MacBytes.{mac_bytes_lem}
use Rattle.sheet.specs.declared.Key.{Key}
use Rattle.frames.specs.declared.Tam1.{Tam1}
use Rattle.frames.specs.declared.Tam2.{Tam2}
use Rattle.frames.specs.declared.Custom.{Custom}
use Rattle.frames.specs.Blocks.{header_length, blocks_length}
use Rattle.frames.specs.Constants.{c_tam1, c_tam2_0, c_tam2_1, c_tam2_2, c_tam2_3, tam2_constant}
use Rattle.frames.specs.Fields.{custom_fits}
use Rattle.frames.specs.Header.{header_start, header_of}
use Rattle.frames.specs.declared.ProtMode.{ProtMode}
use Rattle.frames.specs.Modes.{encrypts, has_mac, in_mode, prot_mode_of}
use Rattle.frames.proofs.Bounds.{by_mode_le}
use Rattle.frames.proofs.Range.{custom_range, size_bit_lt}
use Rattle.payload.proofs.Bytes.{joined_bytes}
use Rattle.payload.specs.Data.{filled, carried_data}
use Rattle.payload.specs.Protected.{with_mac}
use Rattle.offer.proofs.Bytes.{Ten, none_bytes, zeros_bytes, pick_bytes, block_block}
use Rattle.tam.specs.Replies.{tam_block, tam1_reply, tam2_body, tam2_in_mode, tam2_reply}

-- ---- constants, header and data

pub tam2_constant_le : (rev : Bool) (mode : ProtMode) → tam2_constant rev mode ≤ 0xFFFF
unfolding tam2_constant
tam2_constant_le false mode = omega arith
tam2_constant_le true mode =
    by_mode_le c_tam2_0 c_tam2_1 c_tam2_2 c_tam2_3 mode 0xFFFF (omega arith) (omega arith) (omega arith)
    (omega arith)

pub header_bytes : (c : Custom) → custom_fits c ≡ true → Bytes (header_of c)
unfolding header_of header_start
header_bytes c fit zero =
    let r = custom_range c fit in
    let b = size_bit_lt c.blocksize in
    omega arith
header_bytes c fit (suc zero) = omega arith
header_bytes c fit (suc (suc zero)) = let r = custom_range c fit in omega arith
header_bytes c fit (suc (suc (suc i))) = zeros_bytes (header_length c.blocksize - 3) i

pub carried_bytes : (rev : Bool) (c : Custom) (words : List ℕ) → custom_fits c ≡ true → Bytes words
    → Bytes (carried_data rev c words)
unfolding carried_data filled
carried_bytes rev c words fit h =
    let s = pick rev (header_of c) [] ++ words in
    joined_bytes s (replicate (blocks_length c.blocksize rev c.blockcount - length s) 0)
    (joined_bytes (pick rev (header_of c) []) words (pick_bytes rev (header_of c) [] (header_bytes c fit) none_bytes) h)
    (zeros_bytes (blocks_length c.blocksize rev c.blockcount - length s))

-- ---- the replies

module _ (draws : List ℕ) (d : Ten draws) where
  pub tam_block_block : (enc ichallenge : List ℕ) (c : ℕ) → Bytes enc → c ≤ 0xFFFF → Ten ichallenge
      → Block (tam_block enc (two_bytes c) draws ichallenge)
  unfolding tam_block
  tam_block_block enc ichallenge c k l t =
      block_block enc (take 4 draws) ichallenge c k l (length-take-le 4 draws (omega (arith, d.ten)))
      (bytes_take 4 draws d.bytes) t

  module _ (key : Key) (enc : Bytes key.enc) where
    pub tam1_bytes : (m : Tam1) → Ten m.ichallenge → Bytes (tam1_reply key m draws)
    unfolding tam1_reply
    tam1_bytes m t = (tam_block_block key.enc m.ichallenge c_tam1 enc (omega arith) t).bytes

    in_mode_bytes : (m : Tam2) (words : List ℕ) (mode : ProtMode) → Bytes key.mackey → Ten m.ichallenge
        → custom_fits m.custom ≡ true → Bytes words → Bytes (tam2_in_mode key m words draws mode)
    unfolding tam2_in_mode with_mac tam2_body
    in_mode_bytes m words mode mac t fit h =
        let a = tam_block key.enc (two_bytes (tam2_constant m.rev mode)) draws m.ichallenge in
        let p = carried_data m.rev m.custom words in
        let x = pick (encrypts mode) (cbc_enc_aes a key.enc p) p in
        let ha : Bytes a =
        (tam_block_block key.enc m.ichallenge (tam2_constant m.rev mode) enc
        (tam2_constant_le m.rev mode) t).bytes in
        let hp : Bytes p = carried_bytes m.rev m.custom words fit h in
        let hs : Bytes (a ++ x) =
        joined_bytes a x ha
        (pick_bytes (encrypts mode) (cbc_enc_aes a key.enc p) p
        (cbc_enc_aes_bytes a key.enc p ha enc hp) hp) in
        joined_bytes (a ++ x) (pick (has_mac mode) (cmac96 key.mackey (a ++ x)) []) hs
        (pick_bytes (has_mac mode) (cmac96 key.mackey (a ++ x)) [] (mac_bytes_lem key.mackey mac (a ++ x) hs)
        none_bytes)

    pub tam2_bytes : (m : Tam2) (words : List ℕ) → Bytes key.mackey → Ten m.ichallenge
        → custom_fits m.custom ≡ true → Bytes words → Bytes (tam2_reply key m words draws)
    unfolding tam2_reply
    tam2_bytes m words mac t fit h = by (prot_mode_of m.protmode)
      where
        by : (x : Option ProtMode) → Bytes (in_mode x (tam2_in_mode key m words draws) [])
        by (Some mode) = in_mode_bytes m words mode mac t fit h
        by None = none_bytes
