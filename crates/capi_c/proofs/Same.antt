-- The contract of each export, as the checker reads it from the source (`Post`), is that of the function of its name in
-- crate capi: so what capi's proofs and capi_claims say of those holds of the exports. If one cited another definition,
-- this file would not check.
use mathlib.Core.Path.{refl}
use Rattle.ground.specs.Clauses.{Says}
use Rattle.capi_c.proofs.roualint_tag_bytes.Reads as tag-bytes
use Rattle.capi_c.proofs.roualint_tag_bytes.Kinds as tag-bytes-kinds
use Rattle.capi.proofs.roualint_tag_bytes.Reads as capi-tag-bytes
use Rattle.capi_c.proofs.roualint_aes_enc.Reads as aes-enc
use Rattle.capi_c.proofs.roualint_aes_enc.Kinds as aes-enc-kinds
use Rattle.capi.proofs.roualint_aes_enc.Reads as capi-aes-enc
use Rattle.capi_c.proofs.roualint_aes_dec.Reads as aes-dec
use Rattle.capi_c.proofs.roualint_aes_dec.Kinds as aes-dec-kinds
use Rattle.capi.proofs.roualint_aes_dec.Reads as capi-aes-dec
use Rattle.capi_c.proofs.kept.roualint_sheet.Reads as sheet
use Rattle.capi_c.proofs.kept.roualint_sheet.Kinds as sheet-kinds
use Rattle.capi.proofs.kept.roualint_sheet.Reads as capi-sheet
use Rattle.capi_c.proofs.kept.roualint_power_up.Reads as power-up
use Rattle.capi_c.proofs.kept.roualint_power_up.Kinds as power-up-kinds
use Rattle.capi.proofs.kept.roualint_power_up.Reads as capi-power-up
use Rattle.capi_c.proofs.kept.roualint_state.Reads as state
use Rattle.capi_c.proofs.kept.roualint_state.Kinds as state-kinds
use Rattle.capi.proofs.kept.roualint_state.Reads as capi-state
use Rattle.capi_c.proofs.kept.roualint_areas.Reads as areas
use Rattle.capi_c.proofs.kept.roualint_areas.Kinds as areas-kinds
use Rattle.capi.proofs.kept.roualint_areas.Reads as capi-areas
use Rattle.capi_c.proofs.kept.roualint_message.Reads as message
use Rattle.capi_c.proofs.kept.roualint_message.Kinds as message-kinds
use Rattle.capi.proofs.kept.roualint_message.Reads as capi-message
use Rattle.capi_c.proofs.build.roualint_build_tam1.Reads as tam1
use Rattle.capi_c.proofs.build.roualint_build_tam1.Kinds as tam1-kinds
use Rattle.capi.proofs.build.roualint_build_tam1.Reads as capi-tam1
use Rattle.capi_c.proofs.build.roualint_build_tam2.Reads as tam2
use Rattle.capi_c.proofs.build.roualint_build_tam2.Kinds as tam2-kinds
use Rattle.capi.proofs.build.roualint_build_tam2.Reads as capi-tam2
use Rattle.capi_c.proofs.build.roualint_build_iam1.Reads as iam1
use Rattle.capi_c.proofs.build.roualint_build_iam1.Kinds as iam1-kinds
use Rattle.capi.proofs.build.roualint_build_iam1.Reads as capi-iam1
use Rattle.capi_c.proofs.build.roualint_build_iam2.Reads as iam2
use Rattle.capi_c.proofs.build.roualint_build_iam2.Kinds as iam2-kinds
use Rattle.capi.proofs.build.roualint_build_iam2.Reads as capi-iam2
use Rattle.capi_c.proofs.build.roualint_build_iam3.Reads as iam3
use Rattle.capi_c.proofs.build.roualint_build_iam3.Kinds as iam3-kinds
use Rattle.capi.proofs.build.roualint_build_iam3.Reads as capi-iam3
use Rattle.capi_c.proofs.build.roualint_build_mam1.Reads as mam1
use Rattle.capi_c.proofs.build.roualint_build_mam1.Kinds as mam1-kinds
use Rattle.capi.proofs.build.roualint_build_mam1.Reads as capi-mam1
use Rattle.capi_c.proofs.build.roualint_build_mam2.Reads as mam2
use Rattle.capi_c.proofs.build.roualint_build_mam2.Kinds as mam2-kinds
use Rattle.capi.proofs.build.roualint_build_mam2.Reads as capi-mam2
use Rattle.capi_c.proofs.judge.roualint_judge.Reads as judge
use Rattle.capi_c.proofs.judge.roualint_judge.Kinds as judge-kinds
use Rattle.capi.proofs.judge.roualint_judge.Reads as capi-judge
use Rattle.capi_c.proofs.chain.roualint_cbc_enc_aes.Reads as cbc-enc-aes
use Rattle.capi_c.proofs.chain.roualint_cbc_enc_aes.Kinds as cbc-enc-aes-kinds
use Rattle.capi.proofs.chain.roualint_cbc_enc_aes.Reads as capi-cbc-enc-aes
use Rattle.capi_c.proofs.chain.roualint_cbc_dec_aes.Reads as cbc-dec-aes
use Rattle.capi_c.proofs.chain.roualint_cbc_dec_aes.Kinds as cbc-dec-aes-kinds
use Rattle.capi.proofs.chain.roualint_cbc_dec_aes.Reads as capi-cbc-dec-aes
use Rattle.capi_c.proofs.chain.roualint_cbc_enc_aes_inv.Reads as cbc-enc-aes-inv
use Rattle.capi_c.proofs.chain.roualint_cbc_enc_aes_inv.Kinds as cbc-enc-aes-inv-kinds
use Rattle.capi.proofs.chain.roualint_cbc_enc_aes_inv.Reads as capi-cbc-enc-aes-inv
use Rattle.capi_c.proofs.chain.roualint_cbc_dec_aes_inv.Reads as cbc-dec-aes-inv
use Rattle.capi_c.proofs.chain.roualint_cbc_dec_aes_inv.Kinds as cbc-dec-aes-inv-kinds
use Rattle.capi.proofs.chain.roualint_cbc_dec_aes_inv.Reads as capi-cbc-dec-aes-inv
use Rattle.capi_c.proofs.chain.roualint_cmac_96.Reads as cmac-96
use Rattle.capi_c.proofs.chain.roualint_cmac_96.Kinds as cmac-96-kinds
use Rattle.capi.proofs.chain.roualint_cmac_96.Reads as capi-cmac-96

pub tag_bytes_same : Says 0 tag-bytes-kinds.ps tag-bytes-kinds.r tag-bytes.Post capi-tag-bytes.Post
tag_bytes_same κs a x e = refl

pub aes_enc_same : Says 2 aes-enc-kinds.ps aes-enc-kinds.r aes-enc.Post capi-aes-enc.Post
aes_enc_same κs a x e = refl

pub aes_dec_same : Says 2 aes-dec-kinds.ps aes-dec-kinds.r aes-dec.Post capi-aes-dec.Post
aes_dec_same κs a x e = refl

pub sheet_same : Says 3 sheet-kinds.ps sheet-kinds.r sheet.Post capi-sheet.Post
sheet_same κs a x e = refl

pub power_up_same : Says 1 power-up-kinds.ps power-up-kinds.r power-up.Post capi-power-up.Post
power_up_same κs a x e = refl

pub state_same : Says 1 state-kinds.ps state-kinds.r state.Post capi-state.Post
state_same κs a x e = refl

pub areas_same : Says 3 areas-kinds.ps areas-kinds.r areas.Post capi-areas.Post
areas_same κs a x e = refl

pub message_same : Says 8 message-kinds.ps message-kinds.r message.Post capi-message.Post
message_same κs a x e = refl

pub tam1_same : Says 3 tam1-kinds.ps tam1-kinds.r tam1.Post capi-tam1.Post
tam1_same κs a x e = refl

pub tam2_same : Says 5 tam2-kinds.ps tam2-kinds.r tam2.Post capi-tam2.Post
tam2_same κs a x e = refl

pub iam1_same : Says 2 iam1-kinds.ps iam1-kinds.r iam1.Post capi-iam1.Post
iam1_same κs a x e = refl

pub iam2_same : Says 6 iam2-kinds.ps iam2-kinds.r iam2.Post capi-iam2.Post
iam2_same κs a x e = refl

pub iam3_same : Says 7 iam3-kinds.ps iam3-kinds.r iam3.Post capi-iam3.Post
iam3_same κs a x e = refl

pub mam1_same : Says 3 mam1-kinds.ps mam1-kinds.r mam1.Post capi-mam1.Post
mam1_same κs a x e = refl

pub mam2_same : Says 6 mam2-kinds.ps mam2-kinds.r mam2.Post capi-mam2.Post
mam2_same κs a x e = refl

pub judge_same : Says 9 judge-kinds.ps judge-kinds.r judge.Post capi-judge.Post
judge_same κs a x e = refl

pub cbc_enc_aes_same : Says 4 cbc-enc-aes-kinds.ps cbc-enc-aes-kinds.r cbc-enc-aes.Post capi-cbc-enc-aes.Post
cbc_enc_aes_same κs a x e = refl

pub cbc_dec_aes_same : Says 4 cbc-dec-aes-kinds.ps cbc-dec-aes-kinds.r cbc-dec-aes.Post capi-cbc-dec-aes.Post
cbc_dec_aes_same κs a x e = refl

pub cbc_enc_aes_inv_same : Says 4 cbc-enc-aes-inv-kinds.ps cbc-enc-aes-inv-kinds.r
    cbc-enc-aes-inv.Post capi-cbc-enc-aes-inv.Post
cbc_enc_aes_inv_same κs a x e = refl

pub cbc_dec_aes_inv_same : Says 4 cbc-dec-aes-inv-kinds.ps cbc-dec-aes-inv-kinds.r
    cbc-dec-aes-inv.Post capi-cbc-dec-aes-inv.Post
cbc_dec_aes_inv_same κs a x e = refl

pub cmac_96_same : Says 3 cmac-96-kinds.ps cmac-96-kinds.r cmac-96.Post capi-cmac-96.Post
cmac_96_same κs a x e = refl
