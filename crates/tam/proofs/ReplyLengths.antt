-- The lengths of the replies.
use Rattle.std.specs.Prelude.{Option, Some, None}
use mathlib.Core.Path.{◌≡◌, refl}
use mathlib.Core.Bool.{Bool, true, false}
use mathlib.Core.List.{List, [], ◌++◌}
use Prim.Native.Nat.{ℕ, ◌+◌, ◌%◌, ◌≤◌}
use native.Mathlib.Omega.{arith}
use lib.ListN.{length, take, length-append}
use Rattle.ground.specs.Bytes.{two_bytes}
use Rattle.ground.specs.Choice.{pick}
use Rattle.modes.specs.Cbc.{cbc_enc_aes}
use Rattle.modes.specs.Cmac.{cmac96}
use Rattle.sheet.specs.declared.Key.{Key}
use Rattle.frames.specs.declared.Tam1.{Tam1}
use Rattle.frames.specs.declared.Tam2.{Tam2}
use Rattle.frames.specs.Blocks.{data_length, blocks_length}
use Rattle.frames.specs.Constants.{tam2_constant}
use Rattle.frames.specs.Lengths.{mac_length, tam1_reply_length, tam2_mac_at, tam2_reply_length}
use Rattle.payload.specs.Data.{carried_data}
use Rattle.frames.specs.declared.ProtMode.{ProtMode}
use Rattle.frames.specs.Modes.{encrypts, has_mac, in_mode, prot_mode_of}
use Rattle.payload.specs.Protected.{with_mac}
use Rattle.payload.proofs.Data.{carried_length}
use Rattle.payload.proofs.Lengths.{enc_sixteen, blocks_whole, cbc_enc_long, mac_long}
use Rattle.tam.specs.Replies.{tam_block, tam1_reply, tam2_body, tam2_in_mode, tam2_reply}

pub tam_block_long : (enc constant draws ichallenge : List ℕ) → length (tam_block enc constant draws ichallenge) ≡ 16
unfolding tam_block
tam_block_long enc constant draws ichallenge = enc_sixteen enc (constant ++ (take 4 draws ++ ichallenge))

pub tam1_long : (key : Key) (m : Tam1) (draws : List ℕ) → length (tam1_reply key m draws) ≡ tam1_reply_length
unfolding tam1_reply
tam1_long key m draws = tam_block_long key.enc _ draws m.ichallenge

-- chained or not, the data are as long
chosen_long : (b : Bool) (a enc p : List ℕ) → length p % 16 ≡ 0 → length (pick b (cbc_enc_aes a enc p) p) ≡ length p
chosen_long true a enc p e = cbc_enc_long a enc p e
chosen_long false a enc p e = refl

pub body_long : (mode : ProtMode) (a enc p : List ℕ) → length p % 16 ≡ 0
    → length (pick (encrypts mode) (cbc_enc_aes a enc p) p) ≡ length p
body_long mode = chosen_long (encrypts mode)

-- a block, data and perhaps a MAC
pub made_long : (mode : ProtMode) (n : ℕ) (mackey enc a p : List ℕ) → length a ≡ 16 → length p ≡ n → n % 16 ≡ 0
    → (let s = a ++ pick (encrypts mode) (cbc_enc_aes a enc p) p in
    length (s ++ pick (has_mac mode) (cmac96 mackey s) []) ≡ 16 + n + mac_length mode)
made_long mode n mackey enc a p h e w =
    let x = pick (encrypts mode) (cbc_enc_aes a enc p) p in
    omega (
      arith,
      length-append (a ++ x) (pick (has_mac mode) (cmac96 mackey (a ++ x)) []),
      length-append a x,
      body_long mode a enc p (omega arith),
      mac_long mode mackey (a ++ x),
    )

module _ (key : Key) (m : Tam2) (words draws : List ℕ) (mode : ProtMode)
    (count : length words ≤ data_length m.custom.blocksize m.custom.blockcount) where
  pub tam2_long : length (tam2_in_mode key m words draws mode) ≡ tam2_reply_length m.custom.blocksize m.rev
      m.custom.blockcount mode
  unfolding tam2_in_mode with_mac tam2_body tam2_reply_length tam2_mac_at
  tam2_long =
      made_long mode (blocks_length m.custom.blocksize m.rev m.custom.blockcount) key.mackey
      key.enc (tam_block key.enc (two_bytes (tam2_constant m.rev mode)) draws m.ichallenge)
      (carried_data m.rev m.custom words) (tam_block_long key.enc _ draws m.ichallenge)
      (carried_length m.rev m.custom words count)
      (blocks_whole m.custom.blocksize m.rev m.custom.blockcount)

-- the reply is that of its mode
pub tam2_named : (key : Key) (m : Tam2) (words draws : List ℕ) (mode : ProtMode) → prot_mode_of m.protmode ≡ Some mode
    → tam2_reply key m words draws ≡ tam2_in_mode key m words draws mode
unfolding tam2_reply
tam2_named key m words draws mode named = rw named

pub tam2_nothing : (key : Key) (m : Tam2) (words draws : List ℕ) → prot_mode_of m.protmode ≡ None
    → tam2_reply key m words draws ≡ []
unfolding tam2_reply
tam2_nothing key m words draws none = rw none

-- and so is its length
pub tam2_length_lem : (key : Key) (m : Tam2) (words draws : List ℕ)
    → length words ≤ data_length m.custom.blocksize m.custom.blockcount
    → length (tam2_reply key m words draws) ≡ in_mode (prot_mode_of m.protmode)
    (tam2_reply_length m.custom.blocksize m.rev m.custom.blockcount) 0
unfolding tam2_reply
tam2_length_lem key m words draws count = by (prot_mode_of m.protmode)
  where
    by : (x : Option ProtMode) → length (in_mode x (tam2_in_mode key m words draws) [])
        ≡ in_mode x (tam2_reply_length m.custom.blocksize m.rev m.custom.blockcount) 0
    by (Some mode) = tam2_long key m words draws mode count
    by None = refl
