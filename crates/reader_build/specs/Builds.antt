-- The messages that the reader's side builds, from fields and keys. RFU is always zero.
use Rattle.std.specs.Prelude.{ℕ, Bool, true, List, [], ◌++◌, eqb, ltb, take, drop}
use Rattle.ground.specs.Choice.{pick, both}
use Rattle.aes_inverse.specs.AesDec.{aes_dec}
use Rattle.modes_inverse.specs.CbcInv.{cbc_enc_aes_inv}
use Rattle.frames.specs.declared.Custom.{Custom}
use Rattle.frames.specs.Blocks.{data_length}
use Rattle.frames.specs.Constants.{c_iam2, c_mam2, iam3_constant, with_purpose}
use Rattle.frames.specs.Fields.{custom_fits}
use Rattle.frames.specs.Lengths.{iam3_fields_length}
use Rattle.frames.specs.Messages.{tam1_message, tam2_message, iam1_message, iam2_message, iam3_head, mam1_message}
use Rattle.frames.specs.Messages.{mam2_message}
use Rattle.payload.specs.Data.{carried_data}
use Rattle.frames.specs.declared.ProtMode.{ProtMode}
use Rattle.frames.specs.Modes.{encrypts, in_mode, prot_mode_of}
use Rattle.payload.specs.Protected.{with_mac}
use Rattle.reader.specs.declared.Keys.{Keys}
use Rattle.reader.specs.Own.{mode_fits}

-- ---- what is fit to be sent

-- Table 1: Purpose has 4 bits.
unfoldable pub purpose_fits : ℕ → Bool
purpose_fits purpose = ltb purpose 16

-- 9.2: as many bytes of data as BlockSize and BlockCount say.
unfoldable pub data_fits : Custom → ℕ → Bool
data_fits custom n = eqb n (data_length custom.blocksize custom.blockcount)

-- ---- what the reader asks of the tag

-- 9.4.2, Table 4
unfoldable pub tam1_made : ℕ → List ℕ → List ℕ
tam1_made keyid ichallenge = tam1_message (record { rfu = 0; keyid = keyid; ichallenge = ichallenge })

-- 9.4.5, Table 6
unfoldable pub tam2_made : ℕ → List ℕ → Bool → Custom → ℕ → List ℕ
tam2_made keyid ichallenge rev custom protmode =
    tam2_message (record {
      rev = rev;
      rfu = 0;
      keyid = keyid;
      ichallenge = ichallenge;
      custom = custom;
      protmode =
          protmode;
    })

-- 9.5.2, Table 15
unfoldable pub iam1_made : ℕ → List ℕ
iam1_made keyid = iam1_message (record { rfu = 0; keyid = keyid })

-- 9.6.2, Table 23
unfoldable pub mam1_made : ℕ → List ℕ → List ℕ
mam1_made keyid ichallenge = mam1_message (record { rfu = 0; keyid = keyid; ichallenge = ichallenge })

-- ---- what the reader proves to the tag

-- 9.5.5, 9.5.8.1 a), 9.6.5: constant and Purpose, four bytes, TChallenge, by AES-DEC. The reader decrypts to send, so
-- that the tag encrypts to read.
unfoldable pub response : List ℕ → List ℕ → List ℕ → List ℕ → List ℕ
response enc constant middle tchallenge = aes_dec enc (constant ++ (middle ++ tchallenge))

-- 9.5.5, Table 17
unfoldable pub iam2_made : Keys → ℕ → List ℕ → List ℕ → List ℕ
iam2_made keys purpose irnd tchallenge =
    iam2_message (record { rfu = 0; iresponse = response keys.enc (with_purpose c_iam2 purpose) irnd tchallenge })

-- 9.6.5, Table 25: IChallenge[31:0], the last four bytes of the reader's own challenge, in the place of IRnd
unfoldable pub mam2_made : Keys → ℕ → List ℕ → List ℕ → List ℕ
mam2_made keys purpose ichallenge tchallenge =
    mam2_message (record {
      rfu = 0;
      iresponse =
          response keys.enc (with_purpose c_mam2 purpose) (drop 6 ichallenge) tchallenge;
    })

-- 9.5.8.1 b): header, data and filler as they are, or chained to the AuthenticationBlock A by CBC_ENC_AES_INV (Table 3)
unfoldable pub sent_data : List ℕ → ProtMode → List ℕ → List ℕ → List ℕ
sent_data enc mode a p = pick (encrypts mode) (cbc_enc_aes_inv a enc p) p

-- 9.5.8.1: the three parts of IResponse: A, the data, and in ProtModes 2 and 3 the MAC over both as they are sent
unfoldable pub iam3_response : Keys → ProtMode → List ℕ → List ℕ → List ℕ
iam3_response keys mode a p = with_mac keys.mackey mode (a ++ sent_data keys.enc mode a p)

-- 9.5.8, Table 18: the fields of four bytes, and IResponse in its mode
unfoldable pub iam3_whole : Keys → Custom → ℕ → ProtMode → List ℕ → List ℕ → List ℕ
iam3_whole keys custom protmode mode a p =
    take iam3_fields_length (iam3_head (record {
      rfu = 0;
      custom = custom;
      protmode = protmode;
      iresponse =
          a;
    })) ++ iam3_response keys mode a p

unfoldable pub iam3_in_mode : Keys → Custom → ℕ → ℕ → List ℕ → List ℕ → List ℕ → ProtMode → List ℕ
iam3_in_mode keys custom protmode purpose irnd tchallenge words mode =
    iam3_whole keys custom protmode mode
    (response keys.enc (with_purpose (iam3_constant mode) purpose) irnd tchallenge)
    (carried_data true custom words)

-- where the field says no mode, there is no such message
unfoldable pub iam3_made : Keys → Custom → ℕ → ℕ → List ℕ → List ℕ → List ℕ → List ℕ
iam3_made keys custom protmode purpose irnd tchallenge words =
    in_mode (prot_mode_of protmode) (iam3_in_mode keys custom protmode purpose irnd tchallenge words) []

-- what must be fit for it, with n bytes of data
unfoldable pub iam3_fits : Keys → Custom → ℕ → ℕ → ℕ → Bool
iam3_fits keys custom protmode purpose n =
    both (mode_fits keys protmode) (both (purpose_fits purpose) (both (data_fits custom n) (custom_fits custom)))
