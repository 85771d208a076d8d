-- No second answer fits the contract of an export, as the checker reads it from the source: the contract is that of
-- capi's function of its name (Same), and so the theorem is that function's.
use Rattle.ground.specs.OneAnswer.{OneAnswer}
use Rattle.capi.proofs.Unique as capi
use Rattle.capi.proofs.UniqueReader as capi-reader
use Rattle.capi_c.proofs.roualint_aes_enc.Reads as aes-enc
use Rattle.capi_c.proofs.roualint_aes_enc.Kinds as aes-enc-kinds
use Rattle.capi_c.proofs.roualint_aes_dec.Reads as aes-dec
use Rattle.capi_c.proofs.roualint_aes_dec.Kinds as aes-dec-kinds
use Rattle.capi_c.proofs.roualint_tag_bytes.Reads as tag-bytes
use Rattle.capi_c.proofs.roualint_tag_bytes.Kinds as tag-bytes-kinds
use Rattle.capi_c.proofs.chain.roualint_cbc_enc_aes.Reads as cbc-enc-aes
use Rattle.capi_c.proofs.chain.roualint_cbc_enc_aes.Kinds as cbc-enc-aes-kinds
use Rattle.capi_c.proofs.chain.roualint_cbc_dec_aes.Reads as cbc-dec-aes
use Rattle.capi_c.proofs.chain.roualint_cbc_dec_aes.Kinds as cbc-dec-aes-kinds
use Rattle.capi_c.proofs.chain.roualint_cbc_enc_aes_inv.Reads as cbc-enc-aes-inv
use Rattle.capi_c.proofs.chain.roualint_cbc_enc_aes_inv.Kinds as cbc-enc-aes-inv-kinds
use Rattle.capi_c.proofs.chain.roualint_cbc_dec_aes_inv.Reads as cbc-dec-aes-inv
use Rattle.capi_c.proofs.chain.roualint_cbc_dec_aes_inv.Kinds as cbc-dec-aes-inv-kinds
use Rattle.capi_c.proofs.chain.roualint_cmac_96.Reads as cmac-96
use Rattle.capi_c.proofs.chain.roualint_cmac_96.Kinds as cmac-96-kinds
use Rattle.capi_c.proofs.kept.roualint_sheet.Reads as sheet
use Rattle.capi_c.proofs.kept.roualint_sheet.Kinds as sheet-kinds
use Rattle.capi_c.proofs.kept.roualint_power_up.Reads as power-up
use Rattle.capi_c.proofs.kept.roualint_power_up.Kinds as power-up-kinds
use Rattle.capi_c.proofs.kept.roualint_state.Reads as state
use Rattle.capi_c.proofs.kept.roualint_state.Kinds as state-kinds
use Rattle.capi_c.proofs.kept.roualint_areas.Reads as areas
use Rattle.capi_c.proofs.kept.roualint_areas.Kinds as areas-kinds
use Rattle.capi_c.proofs.kept.roualint_message.Reads as message
use Rattle.capi_c.proofs.kept.roualint_message.Kinds as message-kinds
use Rattle.capi_c.proofs.build.roualint_build_tam1.Reads as tam1
use Rattle.capi_c.proofs.build.roualint_build_tam1.Kinds as tam1-kinds
use Rattle.capi_c.proofs.build.roualint_build_tam2.Reads as tam2
use Rattle.capi_c.proofs.build.roualint_build_tam2.Kinds as tam2-kinds
use Rattle.capi_c.proofs.build.roualint_build_iam1.Reads as iam1
use Rattle.capi_c.proofs.build.roualint_build_iam1.Kinds as iam1-kinds
use Rattle.capi_c.proofs.build.roualint_build_iam2.Reads as iam2
use Rattle.capi_c.proofs.build.roualint_build_iam2.Kinds as iam2-kinds
use Rattle.capi_c.proofs.build.roualint_build_iam3.Reads as iam3
use Rattle.capi_c.proofs.build.roualint_build_iam3.Kinds as iam3-kinds
use Rattle.capi_c.proofs.build.roualint_build_mam1.Reads as mam1
use Rattle.capi_c.proofs.build.roualint_build_mam1.Kinds as mam1-kinds
use Rattle.capi_c.proofs.build.roualint_build_mam2.Reads as mam2
use Rattle.capi_c.proofs.build.roualint_build_mam2.Kinds as mam2-kinds
use Rattle.capi_c.proofs.judge.roualint_judge.Reads as judge
use Rattle.capi_c.proofs.judge.roualint_judge.Kinds as judge-kinds

pub aes_enc_one : OneAnswer 2 aes-enc-kinds.ps aes-enc-kinds.r aes-enc.Post
aes_enc_one = capi.aes_enc_one

pub aes_dec_one : OneAnswer 2 aes-dec-kinds.ps aes-dec-kinds.r aes-dec.Post
aes_dec_one = capi.aes_dec_one

pub tag_bytes_one : OneAnswer 0 tag-bytes-kinds.ps tag-bytes-kinds.r tag-bytes.Post
tag_bytes_one = capi.tag_bytes_one

pub cbc_enc_aes_one : OneAnswer 4 cbc-enc-aes-kinds.ps cbc-enc-aes-kinds.r cbc-enc-aes.Post
cbc_enc_aes_one = capi.cbc_enc_aes_one

pub cbc_dec_aes_one : OneAnswer 4 cbc-dec-aes-kinds.ps cbc-dec-aes-kinds.r cbc-dec-aes.Post
cbc_dec_aes_one = capi.cbc_dec_aes_one

pub cbc_enc_aes_inv_one : OneAnswer 4 cbc-enc-aes-inv-kinds.ps cbc-enc-aes-inv-kinds.r cbc-enc-aes-inv.Post
cbc_enc_aes_inv_one = capi.cbc_enc_aes_inv_one

pub cbc_dec_aes_inv_one : OneAnswer 4 cbc-dec-aes-inv-kinds.ps cbc-dec-aes-inv-kinds.r cbc-dec-aes-inv.Post
cbc_dec_aes_inv_one = capi.cbc_dec_aes_inv_one

pub cmac_96_one : OneAnswer 3 cmac-96-kinds.ps cmac-96-kinds.r cmac-96.Post
cmac_96_one = capi.cmac_96_one

pub sheet_one : OneAnswer 3 sheet-kinds.ps sheet-kinds.r sheet.Post
sheet_one = capi.sheet_one

pub power_up_one : OneAnswer 1 power-up-kinds.ps power-up-kinds.r power-up.Post
power_up_one = capi.power_up_one

pub state_one : OneAnswer 1 state-kinds.ps state-kinds.r state.Post
state_one = capi.state_one

pub areas_one : OneAnswer 3 areas-kinds.ps areas-kinds.r areas.Post
areas_one = capi.areas_one

pub message_one : OneAnswer 8 message-kinds.ps message-kinds.r message.Post
message_one = capi.message_one

pub tam1_one : OneAnswer 3 tam1-kinds.ps tam1-kinds.r tam1.Post
tam1_one = capi-reader.tam1_one

pub tam2_one : OneAnswer 5 tam2-kinds.ps tam2-kinds.r tam2.Post
tam2_one = capi-reader.tam2_one

pub iam1_one : OneAnswer 2 iam1-kinds.ps iam1-kinds.r iam1.Post
iam1_one = capi-reader.iam1_one

pub iam2_one : OneAnswer 6 iam2-kinds.ps iam2-kinds.r iam2.Post
iam2_one = capi-reader.iam2_one

pub iam3_one : OneAnswer 7 iam3-kinds.ps iam3-kinds.r iam3.Post
iam3_one = capi-reader.iam3_one

pub mam1_one : OneAnswer 3 mam1-kinds.ps mam1-kinds.r mam1.Post
mam1_one = capi-reader.mam1_one

pub mam2_one : OneAnswer 6 mam2-kinds.ps mam2-kinds.r mam2.Post
mam2_one = capi-reader.mam2_one

pub judge_one : OneAnswer 9 judge-kinds.ps judge-kinds.r judge.Post
judge_one = capi-reader.judge_one
