-- The layout of each reply, by kind, Rev and ProtMode: 9.4.3, Tables 7 to 14. A is the authentication block, P header,
-- data and filler, X is P chained to A, and the MAC covers what goes before it.
use mathlib.Core.Path.{◌≡◌, refl}
use mathlib.Core.Bool.{true, false}
use mathlib.Core.List.{List, ◌++◌, append-nil}
use Prim.Native.Nat.{ℕ}
use lib.ListN.{take}
use Rattle.ground.specs.Bytes.{two_bytes}
use Rattle.aes.specs.AesEnc.{aes_enc}
use Rattle.modes.specs.Cbc.{cbc_enc_aes}
use Rattle.modes.specs.Cmac.{cmac96}
use Rattle.sheet.specs.declared.Key.{Key}
use Rattle.frames.specs.declared.Custom.{Custom}
use Rattle.frames.specs.declared.Tam1.{Tam1}
use Rattle.frames.specs.declared.Tam2.{Tam2}
use Rattle.frames.specs.Blocks.{blocks_length}
use Rattle.frames.specs.Constants.{tam2_constant, by_mode}
use Rattle.frames.specs.Header.{header_of}
use Rattle.frames.specs.declared.ProtMode.{ProtMode}
use Rattle.frames.specs.declared.ProtMode.TheVariants.{Plaintext, Cbc, Cmac, CbcCmac}
use Rattle.frames.specs.Modes.{encrypts, has_mac, prot_mode_of}
use Rattle.payload.specs.Data.{filled, carried_data}
use Rattle.payload.specs.Protected.{with_mac}
use Rattle.tam.specs.Replies.{tam_block, tam1_reply, tam2_body, tam2_in_mode, tam2_reply}

-- TAM1: 96C5, TRnd, IChallenge.
pub tam1_layout : (key : Key) (m : Tam1) (draws : List ℕ)
    → tam1_reply key m draws ≡ aes_enc key.enc (two_bytes 0x96C5 ++ (take 4 draws ++ m.ichallenge))
unfolding tam1_reply tam_block
tam1_layout key m draws = refl

-- TAM2's constant by Rev and ProtMode (Table 1).
pub rev_0_constant : (mode : ProtMode) → tam2_constant false mode ≡ 0x96C5
unfolding tam2_constant
rev_0_constant mode = refl

pub rev_1_constants : (tam2_constant true Plaintext ≡ 0x96C0) × (tam2_constant true Cbc ≡ 0x96C1)
    × (tam2_constant true Cmac ≡ 0x96C2) × (tam2_constant true CbcCmac ≡ 0x96C3)
unfolding tam2_constant by_mode
rev_1_constants = (refl, refl, refl, refl)

module _ (key : Key) (m : Tam2) (words draws : List ℕ) where
  -- A
  abbrev pub block : ProtMode → List ℕ
  block mode = tam_block key.enc (two_bytes (tam2_constant m.rev mode)) draws m.ichallenge

  -- P
  abbrev pub clear : List ℕ
  clear = carried_data m.rev m.custom words

  -- X
  abbrev pub chained : ProtMode → List ℕ
  chained mode = cbc_enc_aes (block mode) key.enc clear

  abbrev pub reply : List ℕ
  reply = tam2_reply key m words draws

  pub mode_0_layout : m.protmode ≡ 0 → reply ≡ block Plaintext ++ clear
  unfolding tam2_reply prot_mode_of tam2_in_mode tam2_body with_mac encrypts has_mac
  mode_0_layout e = rw e (append-nil _)

  pub mode_1_layout : m.protmode ≡ 1 → reply ≡ block Cbc ++ chained Cbc
  unfolding tam2_reply prot_mode_of tam2_in_mode tam2_body with_mac encrypts has_mac
  mode_1_layout e = rw e (append-nil _)

  pub mode_2_layout : m.protmode ≡ 2
      → reply ≡ (block Cmac ++ clear) ++ cmac96 key.mackey (block Cmac ++ clear)
  unfolding tam2_reply prot_mode_of tam2_in_mode tam2_body with_mac encrypts has_mac
  mode_2_layout e = rw e refl

  pub mode_3_layout : m.protmode ≡ 3
      → reply ≡ (block CbcCmac ++ chained CbcCmac) ++ cmac96 key.mackey (block CbcCmac ++ chained CbcCmac)
  unfolding tam2_reply prot_mode_of tam2_in_mode tam2_body with_mac encrypts has_mac
  mode_3_layout e = rw e refl

-- Rev 0 carries no header, Rev 1 does.
module _ (c : Custom) (words : List ℕ) where
  pub rev_0_layout : carried_data false c words ≡ filled (blocks_length c.blocksize false c.blockcount) words
  unfolding carried_data
  rev_0_layout = refl

  pub rev_1_layout : carried_data true c words ≡ filled (blocks_length c.blocksize true c.blockcount)
      (header_of c ++ words)
  unfolding carried_data
  rev_1_layout = refl
