-- The contract of each function for programs in C, as the checker reads it from the source (`Post`), is what the claims
-- say of it; and demand 1 over these contracts. If a contract cited another definition, this file would not check.
-- (`roualint_message` and `roualint_power_up`: `capi/proofs/Runs.antt`.)
use mathlib.Core.Path.{◌≡◌, refl}
use mathlib.Core.Logic.{◌⊎◌}
use mathlib.Core.Bool.{true}
use mathlib.Core.List.{[], ◌∷◌}
use Prim.Native.Nat.{◌≤◌, ◌<◌}
use lib.ListN.{length}
use Rattle.ground.specs.Clauses.{Says, Gives}
use Rattle.ground.specs.Bytes.{byte_at, flag}
use Rattle.ground.specs.Choice.{both}
use Rattle.aes.specs.AesEnc.{aes_enc}
use Rattle.aes_inverse.specs.AesDec.{aes_dec}
use Rattle.modes.specs.Cbc.{cbc_enc_aes, cbc_dec_aes}
use Rattle.modes.specs.Cmac.{cmac96}
use Rattle.modes.specs.Room.{chains, macs}
use Rattle.modes_inverse.specs.CbcInv.{cbc_enc_aes_inv, cbc_dec_aes_inv}
use Rattle.frames.specs.Fields.{custom_fits}
use Rattle.reader.specs.Own.{mode_fits}
use Rattle.reader_build.specs.Builds.{purpose_fits, iam3_fits, tam1_made, tam2_made, iam1_made, mam1_made, iam2_made}
use Rattle.reader_build.specs.Builds.{mam2_made, iam3_made}
use Rattle.image.specs.Places.{image_length}
use Rattle.capi.specs.Chain.{Chains}
use Rattle.capi.specs.Kept.{SetUp, AreasOf}
use Rattle.capi.specs.Reader.{mac_given, keys_of, size_given, bits_given, custom_of, Builds, finding_of, Finds}
use Rattle.capi.proofs.roualint_tag_bytes.Reads as tag-bytes
use Rattle.capi.proofs.roualint_tag_bytes.Kinds as tag-bytes-kinds
use Rattle.capi.proofs.roualint_aes_enc.Reads as aes-enc
use Rattle.capi.proofs.roualint_aes_enc.Kinds as aes-enc-kinds
use Rattle.capi.proofs.roualint_aes_dec.Reads as aes-dec
use Rattle.capi.proofs.roualint_aes_dec.Kinds as aes-dec-kinds
use Rattle.capi.proofs.kept.roualint_state.Reads as state
use Rattle.capi.proofs.kept.roualint_state.Kinds as state-kinds
use Rattle.capi.proofs.kept.roualint_sheet.Reads as sheet
use Rattle.capi.proofs.kept.roualint_sheet.Kinds as sheet-kinds
use Rattle.capi.proofs.kept.roualint_power_up.Reads as power-up
use Rattle.capi.proofs.kept.roualint_power_up.Kinds as power-up-kinds
use Rattle.capi.proofs.kept.roualint_areas.Reads as areas
use Rattle.capi.proofs.kept.roualint_areas.Kinds as areas-kinds
use Rattle.capi.proofs.kept.roualint_message.Reads as message
use Rattle.capi.proofs.kept.roualint_message.Kinds as message-kinds
use Rattle.capi.proofs.build.roualint_build_tam1.Reads as tam1
use Rattle.capi.proofs.build.roualint_build_tam1.Kinds as tam1-kinds
use Rattle.capi.proofs.build.roualint_build_tam2.Reads as tam2
use Rattle.capi.proofs.build.roualint_build_tam2.Kinds as tam2-kinds
use Rattle.capi.proofs.build.roualint_build_iam1.Reads as iam1
use Rattle.capi.proofs.build.roualint_build_iam1.Kinds as iam1-kinds
use Rattle.capi.proofs.build.roualint_build_iam2.Reads as iam2
use Rattle.capi.proofs.build.roualint_build_iam2.Kinds as iam2-kinds
use Rattle.capi.proofs.build.roualint_build_iam3.Reads as iam3
use Rattle.capi.proofs.build.roualint_build_iam3.Kinds as iam3-kinds
use Rattle.capi.proofs.build.roualint_build_mam1.Reads as mam1
use Rattle.capi.proofs.build.roualint_build_mam1.Kinds as mam1-kinds
use Rattle.capi.proofs.build.roualint_build_mam2.Reads as mam2
use Rattle.capi.proofs.build.roualint_build_mam2.Kinds as mam2-kinds
use Rattle.capi.proofs.judge.roualint_judge.Reads as judge
use Rattle.capi.proofs.judge.roualint_judge.Kinds as judge-kinds
use Rattle.capi.proofs.chain.roualint_cbc_enc_aes.Reads as cbc-enc-aes
use Rattle.capi.proofs.chain.roualint_cbc_enc_aes.Kinds as cbc-enc-aes-kinds
use Rattle.capi.proofs.chain.roualint_cbc_dec_aes.Reads as cbc-dec-aes
use Rattle.capi.proofs.chain.roualint_cbc_dec_aes.Kinds as cbc-dec-aes-kinds
use Rattle.capi.proofs.chain.roualint_cbc_enc_aes_inv.Reads as cbc-enc-aes-inv
use Rattle.capi.proofs.chain.roualint_cbc_enc_aes_inv.Kinds as cbc-enc-aes-inv-kinds
use Rattle.capi.proofs.chain.roualint_cbc_dec_aes_inv.Reads as cbc-dec-aes-inv
use Rattle.capi.proofs.chain.roualint_cbc_dec_aes_inv.Kinds as cbc-dec-aes-inv-kinds
use Rattle.capi.proofs.chain.roualint_cmac_96.Reads as cmac-96
use Rattle.capi.proofs.chain.roualint_cmac_96.Kinds as cmac-96-kinds
use Rattle.claims.specs.Answered.{tag_numbers, reader_numbers, sheet_numbers}
use Rattle.capi_claims.specs.Answered.{Answers, Refuses, Rejects}
use Rattle.capi_claims.proofs.Answered.{
  sheet_answers,
  power_up_answers,
  areas_answers,
  state_answers,
  message_answers,
  builder_answers,
  judge_answers,
  chain_answers,
}

-- ---- functions that refuse nothing

pub tag_bytes_said : Says 0 tag-bytes-kinds.ps tag-bytes-kinds.r tag-bytes.Post (λ κs a r e. r ≡ image_length)
tag_bytes_said κs a r e = refl

pub aes_enc_said : Says 2 aes-enc-kinds.ps aes-enc-kinds.r aes-enc.Post
    (λ κs a r e. e.1.0.now ≡ aes_enc a.0.now a.1.0.now)
aes_enc_said κs a r e = refl

pub aes_dec_said : Says 2 aes-dec-kinds.ps aes-dec-kinds.r aes-dec.Post
    (λ κs a r e. e.1.0.now ≡ aes_dec a.0.now a.1.0.now)
aes_dec_said κs a r e = refl

pub state_says : Gives 1 state-kinds.ps state-kinds.r state.Post
    (λ κs a r e. ((byte_at a.0.now 0 < 4) × (r ≡ byte_at a.0.now 0))
    ⊎ ((4 ≤ byte_at a.0.now 0) × (r ≡ 255)))
state_says κs a r e h = state_answers _ r h

-- ---- a kept tag

pub sheet_said : Says 3 sheet-kinds.ps sheet-kinds.r sheet.Post
    (λ κs a r e. SetUp a.0.now a.1.0.now r e.1.1.0.now e.1.0.now)
sheet_said κs a r e = refl

pub sheet_refuses : Gives 3 sheet-kinds.ps sheet-kinds.r sheet.Post
    (λ κs a r e. Answers sheet_numbers r (e.1.0.now ≡ a.1.0.now))
sheet_refuses κs a r e h = sheet_answers _ _ r _ _ h

pub power_up_refuses : Gives 1 power-up-kinds.ps power-up-kinds.r power-up.Post
    (λ κs a r e. Answers (7 ∷ []) r (e.0.now ≡ a.0.now))
power_up_refuses κs a r e h = power_up_answers _ r _ h

pub areas_said : Says 3 areas-kinds.ps areas-kinds.r areas.Post
    (λ κs a r e. AreasOf a.0.now r e.1.0.now e.1.1.0.now)
areas_said κs a r e = refl

pub areas_refuses : Gives 3 areas-kinds.ps areas-kinds.r areas.Post
    (λ κs a r e. Answers (7 ∷ []) r ((e.1.0.now ≡ 0) × (e.1.1.0.now ≡ 0)))
areas_refuses κs a r e h = areas_answers _ r _ _ h

pub message_refuses : Gives 8 message-kinds.ps message-kinds.r message.Post
    (λ κs a r e. 16 ≤ length a.0.now → Answers tag_numbers r
    (Refuses a.0.now a.1.1.1.0.now a.1.1.1.1.0.now a.1.1.1.1.1.0.now r
    e.1.1.1.1.1.1.0.now e.1.1.1.1.1.1.1.0.now e.0.now e.1.1.1.0.now
    e.1.1.1.1.0.now e.1.1.1.1.1.0.now))
message_refuses κs a r e h enough = message_answers _ _ _ _ _ _ r _ _ _ _ _ _ enough h

-- ---- the reader's side

pub tam1_said : Says 3 tam1-kinds.ps tam1-kinds.r tam1.Post
    (λ κs a r e. Builds true (tam1_made a.0 a.1.0.now) a.1.1.0.now r e.1.1.1.0.now
    e.1.1.0.now)
tam1_said κs a r e = refl

pub tam1_refuses : Gives 3 tam1-kinds.ps tam1-kinds.r tam1.Post
    (λ κs a r e. Answers (24 ∷ []) r ((e.1.1.1.0.now ≡ 0) × (e.1.1.0.now ≡ a.1.1.0.now)))
tam1_refuses κs a r e h = builder_answers _ _ _ r _ _ h

pub tam2_said : Says 5 tam2-kinds.ps tam2-kinds.r tam2.Post
    (λ κs a r e. Builds (both (bits_given a.1.0.now a.1.1.0 a.1.1.1.0)
    (both (mode_fits (keys_of a.0.now a.1.0.now) a.1.1.1.1.1.1.1.1.1.0)
    (custom_fits (custom_of a.1.1.0 a.1.1.1.1.1.1.0 a.1.1.1.1.1.1.1.0
    a.1.1.1.1.1.1.1.1.0)))) (tam2_made a.1.1.1.1.0 a.1.1.1.1.1.0.now (flag a.1.1.1.0)
    (custom_of a.1.1.0 a.1.1.1.1.1.1.0 a.1.1.1.1.1.1.1.0 a.1.1.1.1.1.1.1.1.0)
    a.1.1.1.1.1.1.1.1.1.0) a.1.1.1.1.1.1.1.1.1.1.0.now r
    e.1.1.1.1.1.1.1.1.1.1.1.0.now e.1.1.1.1.1.1.1.1.1.1.0.now)
tam2_said κs a r e = refl

pub tam2_refuses : Gives 5 tam2-kinds.ps tam2-kinds.r tam2.Post
    (λ κs a r e. Answers (24 ∷ []) r ((e.1.1.1.1.1.1.1.1.1.1.1.0.now ≡ 0) ×
    (e.1.1.1.1.1.1.1.1.1.1.0.now ≡ a.1.1.1.1.1.1.1.1.1.1.0.now)))
tam2_refuses κs a r e h = builder_answers _ _ _ r _ _ h

pub iam1_said : Says 2 iam1-kinds.ps iam1-kinds.r iam1.Post
    (λ κs a r e. Builds true (iam1_made a.0) a.1.0.now r e.1.1.0.now e.1.0.now)
iam1_said κs a r e = refl

pub iam1_refuses : Gives 2 iam1-kinds.ps iam1-kinds.r iam1.Post
    (λ κs a r e. Answers (24 ∷ []) r ((e.1.1.0.now ≡ 0) × (e.1.0.now ≡ a.1.0.now)))
iam1_refuses κs a r e h = builder_answers _ _ _ r _ _ h

pub iam2_said : Says 6 iam2-kinds.ps iam2-kinds.r iam2.Post
    (λ κs a r e. Builds (both (mac_given a.1.0.now) (purpose_fits a.1.1.0))
    (iam2_made (keys_of a.0.now a.1.0.now) a.1.1.0 a.1.1.1.0.now a.1.1.1.1.0.now)
    a.1.1.1.1.1.0.now r e.1.1.1.1.1.1.0.now e.1.1.1.1.1.0.now)
iam2_said κs a r e = refl

pub iam2_refuses : Gives 6 iam2-kinds.ps iam2-kinds.r iam2.Post
    (λ κs a r e. Answers (24 ∷ []) r ((e.1.1.1.1.1.1.0.now ≡ 0) ×
    (e.1.1.1.1.1.0.now ≡ a.1.1.1.1.1.0.now)))
iam2_refuses κs a r e h = builder_answers _ _ _ r _ _ h

pub iam3_said : Says 7 iam3-kinds.ps iam3-kinds.r iam3.Post
    (λ κs a r e. Builds (both (size_given a.1.0.now a.1.1.0)
    (iam3_fits (keys_of a.0.now a.1.0.now) (custom_of a.1.1.0 a.1.1.1.0 a.1.1.1.1.0
    a.1.1.1.1.1.0) a.1.1.1.1.1.1.0 a.1.1.1.1.1.1.1.0
    (length a.1.1.1.1.1.1.1.1.1.1.0.now))) (iam3_made (keys_of a.0.now a.1.0.now)
    (custom_of a.1.1.0 a.1.1.1.0 a.1.1.1.1.0 a.1.1.1.1.1.0) a.1.1.1.1.1.1.0
    a.1.1.1.1.1.1.1.0 a.1.1.1.1.1.1.1.1.0.now a.1.1.1.1.1.1.1.1.1.0.now
    a.1.1.1.1.1.1.1.1.1.1.0.now) a.1.1.1.1.1.1.1.1.1.1.1.0.now r
    e.1.1.1.1.1.1.1.1.1.1.1.1.0.now e.1.1.1.1.1.1.1.1.1.1.1.0.now)
iam3_said κs a r e = refl

pub iam3_refuses : Gives 7 iam3-kinds.ps iam3-kinds.r iam3.Post
    (λ κs a r e. Answers (24 ∷ []) r ((e.1.1.1.1.1.1.1.1.1.1.1.1.0.now ≡ 0) ×
    (e.1.1.1.1.1.1.1.1.1.1.1.0.now ≡ a.1.1.1.1.1.1.1.1.1.1.1.0.now)))
iam3_refuses κs a r e h = builder_answers _ _ _ r _ _ h

pub mam1_said : Says 3 mam1-kinds.ps mam1-kinds.r mam1.Post
    (λ κs a r e. Builds true (mam1_made a.0 a.1.0.now) a.1.1.0.now r e.1.1.1.0.now
    e.1.1.0.now)
mam1_said κs a r e = refl

pub mam1_refuses : Gives 3 mam1-kinds.ps mam1-kinds.r mam1.Post
    (λ κs a r e. Answers (24 ∷ []) r ((e.1.1.1.0.now ≡ 0) × (e.1.1.0.now ≡ a.1.1.0.now)))
mam1_refuses κs a r e h = builder_answers _ _ _ r _ _ h

pub mam2_said : Says 6 mam2-kinds.ps mam2-kinds.r mam2.Post
    (λ κs a r e. Builds (both (mac_given a.1.0.now) (purpose_fits a.1.1.0))
    (mam2_made (keys_of a.0.now a.1.0.now) a.1.1.0 a.1.1.1.0.now a.1.1.1.1.0.now)
    a.1.1.1.1.1.0.now r e.1.1.1.1.1.1.0.now e.1.1.1.1.1.0.now)
mam2_said κs a r e = refl

pub mam2_refuses : Gives 6 mam2-kinds.ps mam2-kinds.r mam2.Post
    (λ κs a r e. Answers (24 ∷ []) r ((e.1.1.1.1.1.1.0.now ≡ 0) ×
    (e.1.1.1.1.1.0.now ≡ a.1.1.1.1.1.0.now)))
mam2_refuses κs a r e h = builder_answers _ _ _ r _ _ h

pub judge_said : Says 9 judge-kinds.ps judge-kinds.r judge.Post
    (λ κs a r e. Finds (finding_of a.0.now a.1.0.now a.1.1.0.now a.1.1.1.0.now
    (length a.1.1.1.1.0.now)) a.1.1.1.1.0.now r e.1.1.1.1.1.0.now
    e.1.1.1.1.1.1.0.now e.1.1.1.1.1.1.1.0.now e.1.1.1.1.1.1.1.1.0.now
    e.1.1.1.1.0.now)
judge_said κs a r e = refl

pub judge_refuses : Gives 9 judge-kinds.ps judge-kinds.r judge.Post
    (λ κs a r e. Answers reader_numbers r (Rejects a.1.1.1.1.0.now e.1.1.1.1.1.0.now
    e.1.1.1.1.1.1.0.now e.1.1.1.1.1.1.1.0.now e.1.1.1.1.1.1.1.1.0.now
    e.1.1.1.1.0.now))
judge_refuses κs a r e h =
    judge_answers a.0.now a.1.0.now a.1.1.0.now a.1.1.1.0.now _ r _ _ _ _ _ h

-- ---- chaining and the MAC

pub cbc_enc_aes_said : Says 4 cbc-enc-aes-kinds.ps cbc-enc-aes-kinds.r cbc-enc-aes.Post
    (λ κs a r e. Chains (chains (length a.1.1.0.now) (length a.1.1.1.0.now))
    (cbc_enc_aes a.0.now a.1.0.now a.1.1.0.now) a.1.1.1.0.now r e.1.1.1.0.now)
cbc_enc_aes_said κs a r e = refl

pub cbc_enc_aes_refuses : Gives 4 cbc-enc-aes-kinds.ps cbc-enc-aes-kinds.r cbc-enc-aes.Post
    (λ κs a r e. Answers (8 ∷ []) r (e.1.1.1.0.now ≡ a.1.1.1.0.now))
cbc_enc_aes_refuses κs a r e h = chain_answers _ _ _ r _ h

pub cbc_dec_aes_said : Says 4 cbc-dec-aes-kinds.ps cbc-dec-aes-kinds.r cbc-dec-aes.Post
    (λ κs a r e. Chains (chains (length a.1.1.0.now) (length a.1.1.1.0.now))
    (cbc_dec_aes a.0.now a.1.0.now a.1.1.0.now) a.1.1.1.0.now r e.1.1.1.0.now)
cbc_dec_aes_said κs a r e = refl

pub cbc_dec_aes_refuses : Gives 4 cbc-dec-aes-kinds.ps cbc-dec-aes-kinds.r cbc-dec-aes.Post
    (λ κs a r e. Answers (8 ∷ []) r (e.1.1.1.0.now ≡ a.1.1.1.0.now))
cbc_dec_aes_refuses κs a r e h = chain_answers _ _ _ r _ h

pub cbc_enc_aes_inv_said : Says 4 cbc-enc-aes-inv-kinds.ps cbc-enc-aes-inv-kinds.r cbc-enc-aes-inv.Post
    (λ κs a r e. Chains (chains (length a.1.1.0.now) (length a.1.1.1.0.now))
    (cbc_enc_aes_inv a.0.now a.1.0.now a.1.1.0.now) a.1.1.1.0.now r e.1.1.1.0.now)
cbc_enc_aes_inv_said κs a r e = refl

pub cbc_enc_aes_inv_refuses : Gives 4 cbc-enc-aes-inv-kinds.ps cbc-enc-aes-inv-kinds.r cbc-enc-aes-inv.Post
    (λ κs a r e. Answers (8 ∷ []) r (e.1.1.1.0.now ≡ a.1.1.1.0.now))
cbc_enc_aes_inv_refuses κs a r e h = chain_answers _ _ _ r _ h

pub cbc_dec_aes_inv_said : Says 4 cbc-dec-aes-inv-kinds.ps cbc-dec-aes-inv-kinds.r cbc-dec-aes-inv.Post
    (λ κs a r e. Chains (chains (length a.1.1.0.now) (length a.1.1.1.0.now))
    (cbc_dec_aes_inv a.0.now a.1.0.now a.1.1.0.now) a.1.1.1.0.now r e.1.1.1.0.now)
cbc_dec_aes_inv_said κs a r e = refl

pub cbc_dec_aes_inv_refuses : Gives 4 cbc-dec-aes-inv-kinds.ps cbc-dec-aes-inv-kinds.r cbc-dec-aes-inv.Post
    (λ κs a r e. Answers (8 ∷ []) r (e.1.1.1.0.now ≡ a.1.1.1.0.now))
cbc_dec_aes_inv_refuses κs a r e h = chain_answers _ _ _ r _ h

pub cmac_96_said : Says 3 cmac-96-kinds.ps cmac-96-kinds.r cmac-96.Post
    (λ κs a r e. Chains (macs (length a.1.0.now) (length a.1.1.0.now))
    (cmac96 a.0.now a.1.0.now) a.1.1.0.now r e.1.1.0.now)
cmac_96_said κs a r e = refl

pub cmac_96_refuses : Gives 3 cmac-96-kinds.ps cmac-96-kinds.r cmac-96.Post
    (λ κs a r e. Answers (8 ∷ []) r (e.1.1.0.now ≡ a.1.1.0.now))
cmac_96_refuses κs a r e h = chain_answers _ _ _ r _ h
