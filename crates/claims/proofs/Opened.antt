-- What the tag finds in an IAM3 that the reader built: each part in its place, the MAC right, and the data in the clear
-- as they went in.
use mathlib.Core.Path.{◌≡◌, refl, sym, ap, ap₂, ◌∙◌}
use mathlib.Core.Bool.{Bool, true, false}
use mathlib.Core.List.{List, [], ◌++◌, append_assoc}
use Prim.Native.Nat.{ℕ, ◌+◌, ◌%◌}
use native.Mathlib.Omega.{arith}
use lib.ListN.{length, take, drop, length-append}
use lib.Seq.{take_at, drop_at, drop-drop}
use Rattle.ground.specs.Bytes.{Bytes}
use Rattle.ground.specs.Choice.{pick}
use Rattle.modes.specs.Cbc.{cbc_dec_aes}
use Rattle.modes.specs.Cmac.{cmac96}
use Rattle.modes.specs.Room.{macs}
use Rattle.modes.proofs.Rooms.{room_for_mac}
use Rattle.modes_inverse.specs.CbcInv.{cbc_enc_aes_inv}
use Rattle.modes_inverse.proofs.Inverse.{dec_undoes_enc_inv}
use Rattle.sheet.specs.declared.Key.{Key}
use Rattle.frames.specs.declared.Custom.{Custom}
use Rattle.frames.specs.declared.Iam3.{Iam3}
use Rattle.frames.specs.Blocks.{blocks_length}
use Rattle.frames.specs.Fields.{select_bytes}
use Rattle.frames.specs.declared.ProtMode.{ProtMode}
use Rattle.frames.specs.Modes.{encrypts, has_mac}
use Rattle.frames.specs.Lengths.{mac_length}
use Rattle.frames.specs.Messages.{iam3_head}
use Rattle.frames.proofs.Shape.{iam3_head_lem}
use Rattle.payload.specs.Protected.{with_mac, mac_fits}
use Rattle.payload.proofs.Lengths.{blocks_whole, mac_long}
use Rattle.entry.specs.Opened.{sent_block, sent_data, sent_mac, opened_in, sent_mac_fits}
use Rattle.reader.specs.declared.Keys.{Keys}
use Rattle.reader_build.specs.Builds.{sent_data as reader_data, iam3_response, iam3_whole}
use Rattle.reader_build.proofs.Sending.{data_sent_long}
use Rattle.claims.specs.Entry.{Knows}
use Rattle.claims.proofs.Data.{mac_there}

module _ (keys : Keys) (custom : Custom) (protmode : ℕ) (mode : ProtMode) (a p : List ℕ) (sixteen : length a ≡ 16)
    (blocks : length p ≡ blocks_length custom.blocksize true custom.blockcount) where
  -- its fields, what it carries, and its MAC
  abbrev pub head : Iam3
  head = record { rfu = 0; custom = custom; protmode = protmode; iresponse = a }

  abbrev pub body : List ℕ
  body = reader_data keys.enc mode a p

  abbrev pub mac : List ℕ
  mac = pick (has_mac mode) (cmac96 keys.mackey (a ++ body)) []

  whole : length p % 16 ≡ 0
  whole = ap (λ (n : ℕ). n % 16) blocks ∙ blocks_whole custom.blocksize true custom.blockcount

  body_long : length body ≡ blocks_length custom.blocksize true custom.blockcount
  body_long = data_sent_long mode keys.enc a p whole ∙ blocks

  -- the head as frames has it, and the rest
  pub as_head : iam3_whole keys custom protmode mode a p ≡ iam3_head head ++ (body ++ mac)
  unfolding iam3_whole iam3_response with_mac iam3_head select_bytes
  as_head = ap (λ (l : List ℕ). take 4 (iam3_head head) ++ l) (append_assoc a body mac)

  pub rest_long : length (body ++ mac) ≡ blocks_length custom.blocksize true custom.blockcount + mac_length mode
  rest_long = omega (arith, length-append body mac, body_long, mac_long mode keys.mackey (a ++ body))

  module _ (m : List ℕ) (e : m ≡ iam3_whole keys custom protmode mode a p) where
    pub block_sent : sent_block m ≡ a
    unfolding iam3_head select_bytes
    block_sent = ap (λ (l : List ℕ). take 16 (drop 4 l)) (e ∙ as_head) ∙ take_at a (body ++ mac) 16 sixteen

    behind_head : drop 20 m ≡ body ++ mac
    behind_head = ap (drop 20) (e ∙ as_head) ∙ drop_at (iam3_head head) (body ++ mac) 20 (iam3_head_lem head sixteen)

    pub data_sent_lem : sent_data custom m ≡ body
    data_sent_lem = ap (take (blocks_length custom.blocksize true custom.blockcount)) behind_head
        ∙ take_at body mac (blocks_length custom.blocksize true custom.blockcount) body_long

    mac_sent : sent_mac custom m ≡ mac
    mac_sent =
        let n = blocks_length custom.blocksize true custom.blockcount in
        sym (drop-drop n 20 m) ∙ ap (drop n) behind_head ∙ drop_at body mac n body_long

    -- ---- the MAC

    module _ (key : Key) (knows : Knows keys key) where
      pub mac_fits_lem : sent_mac_fits key mode head m ≡ true
      unfolding sent_mac_fits mac_fits
      mac_fits_lem =
          let long : length (a ++ body) ≡ 16 + blocks_length custom.blocksize true custom.blockcount =
          omega (arith, length-append a body, body_long) in
          let w = blocks_whole custom.blocksize true custom.blockcount in
          let k : macs (length (a ++ body)) 12 ≡ true =
          room_for_mac (length (a ++ body)) 12 (omega arith) (omega arith) (omega arith) in
          ap₂ (λ (x y : List ℕ). mac_fits key.mackey mode x y)
          (ap₂ {C = List ℕ} (λ x y. x ++ y) block_sent data_sent_lem) mac_sent
          ∙ ap (λ (x : List ℕ). mac_fits x mode (a ++ body) mac) (sym knows.has.mackey)
          ∙ mac_there (has_mac mode) keys.mackey (a ++ body) k

      -- ---- the data in the clear

      pub data_opened : Bytes a → Bytes p → opened_in key mode head m ≡ p
      unfolding opened_in reader_data
      data_opened ba bp =
          ap₂ {C = List ℕ} (λ x y. pick (encrypts mode) (cbc_dec_aes x key.enc y) y) block_sent data_sent_lem
          ∙ ap (λ (k : List ℕ). pick (encrypts mode) (cbc_dec_aes a k body) body) (sym knows.has.enc)
          ∙ undone (encrypts mode)
        where
          undone : (t : Bool) → pick t (cbc_dec_aes a keys.enc (pick t (cbc_enc_aes_inv a keys.enc p) p))
              (pick t (cbc_enc_aes_inv a keys.enc p) p) ≡ p
          undone true = dec_undoes_enc_inv a keys.enc p ba (rw knows.has.enc knows.array.bytes) bp whole
          undone false = refl
