-- Each contract that the claims speak of, as the checker reads it from the source of its function (`Post`), is what the
-- claims say of it; and demand 1 over these contracts. If a contract cited another definition, this file would not
-- check. (Of `tag::step` it is `call_is_step`, in `tag/proofs/Played.antt`. The functions for programs in C:
-- `capi_claims`.)
use Rattle.std.specs.Prelude.{Err}
use mathlib.Core.Path.{◌≡◌, refl, subst}
use mathlib.Core.Logic.{◌⊎◌}
use mathlib.Core.Bool.{true}
use mathlib.Core.List.{List}
use Prim.Native.Nat.{ℕ, ◌≤◌}
use contract.Lifetimes.{Lfts}
use borrow.Fn.Kinds.{Dens, res_t, ended_of}
use denote.Triple.Clauses.{AtExit}
use denote.Triple.Entry.{Args, Res}
use lib.ListN.{length, take}
use Rattle.ground.specs.Bytes.{byte_at}
use Rattle.ground.specs.Choice.{both}
use Rattle.ground.specs.Clauses.{Says, Gives}
use Rattle.modes.specs.Cbc.{cbc_enc_aes, cbc_dec_aes}
use Rattle.modes.specs.Cmac.{cmac96}
use Rattle.modes.specs.Room as room
use Rattle.modes_inverse.specs.CbcInv.{cbc_enc_aes_inv, cbc_dec_aes_inv}
use Rattle.sheet.specs.declared.SheetFault.{SheetFault}
use Rattle.sheet.specs.Kinds as sheet
use Rattle.sheet.specs.Limits.{key_limit}
use Rattle.sheet.specs.Setups.{empty_terms}
use Rattle.sheet.specs.Sheet.{verdict_of, terms_read, keys_read}
use Rattle.sheet.specs.Sheet.{read_of, read_number, read_place, verdict_number, verdict_place}
use Rattle.frames.specs.Fields.{custom_fits}
use Rattle.frames.specs.Kinds.{kind_of}
use Rattle.offer.specs.declared.TagFault.{TagFault}
use Rattle.offer.specs.Outcomes.{reply_length}
use Rattle.tag.specs.declared.Stepped.{Stepped}
use Rattle.tag.specs.Answers.{answer_of}
use Rattle.tag.specs.Plays.{Brought, Left, Called}
use Rattle.tag.specs.Reactions.{lent}
use Rattle.tag.specs.States.{keyed}
use Rattle.bench.specs.Kept.{left}
use Rattle.reader.specs.declared.ReaderFault.{ReaderFault}
use Rattle.reader.specs.Numbers as reader
use Rattle.reader.specs.Own.{mode_fits, data_room}
use Rattle.reader_build.specs.Builds.{purpose_fits, iam3_fits, tam1_made, tam2_made, iam1_made, mam1_made, iam2_made}
use Rattle.reader_build.specs.Builds.{mam2_made}
use Rattle.reader_build.specs.Builds.{iam3_made}
use Rattle.reader_build.specs.Makes.{Makes}
use Rattle.reader_judge.specs.Findings.{Judges}
use Rattle.reader_judge.specs.Judged.{judgement_of}
use Rattle.tag.proofs.step.Reads as step
use Rattle.tag.proofs.step.Kinds as step-kinds
use Rattle.bench.specs.contracts.step as step-in-place
use Rattle.bench.proofs.kept.Reads as kept
use Rattle.bench.proofs.kept.Kinds as kept-kinds
use Rattle.bench.specs.OneWalked.{States}
use Rattle.bench.proofs.Unique.{Stepping, step_one}
use Rattle.sheet.proofs.read.Reads as read
use Rattle.sheet.proofs.read.Kinds as read-kinds
use Rattle.modes.proofs.cbc_enc_aes.Reads as cbc-enc-aes
use Rattle.modes.proofs.cbc_enc_aes.Kinds as cbc-enc-aes-kinds
use Rattle.modes.proofs.cbc_dec_aes.Reads as cbc-dec-aes
use Rattle.modes.proofs.cbc_dec_aes.Kinds as cbc-dec-aes-kinds
use Rattle.modes.proofs.cmac_96.Reads as cmac-96
use Rattle.modes.proofs.cmac_96.Kinds as cmac-96-kinds
use Rattle.modes_inverse.proofs.cbc_dec_aes_inv.Reads as cbc-dec-aes-inv
use Rattle.modes_inverse.proofs.cbc_dec_aes_inv.Kinds as cbc-dec-aes-inv-kinds
use Rattle.modes_inverse.proofs.cbc_enc_aes_inv.Reads as cbc-enc-aes-inv
use Rattle.modes_inverse.proofs.cbc_enc_aes_inv.Kinds as cbc-enc-aes-inv-kinds
use Rattle.reader_judge.proofs.judge.Reads as judge
use Rattle.reader_judge.proofs.judge.Kinds as judge-kinds
use Rattle.reader_build.proofs.tam1.Reads as tam1
use Rattle.reader_build.proofs.tam1.Kinds as tam1-kinds
use Rattle.reader_build.proofs.tam2.Reads as tam2
use Rattle.reader_build.proofs.tam2.Kinds as tam2-kinds
use Rattle.reader_build.proofs.iam1.Reads as iam1
use Rattle.reader_build.proofs.iam1.Kinds as iam1-kinds
use Rattle.reader_build.proofs.mam1.Reads as mam1
use Rattle.reader_build.proofs.mam1.Kinds as mam1-kinds
use Rattle.reader_build.proofs.iam2.Reads as iam2
use Rattle.reader_build.proofs.iam2.Kinds as iam2-kinds
use Rattle.reader_build.proofs.mam2.Reads as mam2
use Rattle.reader_build.proofs.mam2.Kinds as mam2-kinds
use Rattle.reader_build.proofs.iam3.Reads as iam3
use Rattle.reader_build.proofs.iam3.Kinds as iam3-kinds
use Rattle.claims.specs.Answered.{Among, sheet_numbers, TagRefused, JudgeRefused}
use Rattle.claims.specs.Recovery.{Taken, key_used, Shares, Fit, due}
use Rattle.claims.proofs.Answered.{tag_answers, sheet_answers, chain_answers}
use Rattle.claims.proofs.AnsweredReader.{judge_answers, builder_answers}
use Rattle.claims.proofs.RecoveryCode.{recovery_code}

-- ---- the tag

-- what is brought to a step, and what it leaves
abbrev brought : List ℕ → List ℕ → List ℕ → Brought
brought m d room = record { message = m; draws = d; room = room }

abbrev leaves : Stepped → List ℕ → List ℕ → List ℕ → Left
leaves s room i u = record { stepped = s; room = room; identity = i; user = u }

pub step_refuses : Gives 6 step-kinds.ps step-kinds.r step.Post
    (λ κs a r e. (f : TagFault) → r.outcome ≡ Err f
    → TagRefused a.0 a.1.1.1.1.1.0.now a.1.1.1.1.1.1.0.now
    (brought a.1.1.0.now a.1.1.1.0.now a.1.1.1.1.0.now)
    (leaves r e.1.1.1.1.0.now e.1.1.1.1.1.0.now e.1.1.1.1.1.1.0.now) f)
step_refuses κs a r e h f v = tag_answers a.1.0.now _ _ _ _ _ f h v

pub kept_said : Says 6 kept-kinds.ps kept-kinds.r kept.Post
    (λ κs a r e. Called a.1.0.now a.0 a.1.1.1.1.1.0.now a.1.1.1.1.1.1.0.now
    (brought a.1.1.0.now a.1.1.1.0.now a.1.1.1.1.0.now)
    (leaves r e.1.1.1.1.0.now e.1.1.1.1.1.0.now e.1.1.1.1.1.1.0.now))
kept_said κs a r e = refl

pub kept_refuses : Gives 6 kept-kinds.ps kept-kinds.r kept.Post
    (λ κs a r e. (f : TagFault) → r.outcome ≡ Err f
    → TagRefused a.0 a.1.1.1.1.1.0.now a.1.1.1.1.1.1.0.now
    (brought a.1.1.0.now a.1.1.1.0.now a.1.1.1.1.0.now)
    (leaves r e.1.1.1.1.0.now e.1.1.1.1.1.0.now e.1.1.1.1.1.1.0.now) f)
kept_refuses κs a r e h f v = tag_answers a.1.0.now _ _ _ _ _ f h v

-- the contract of `bench::step` says `Stepping`, by its own clauses
pub step_in_place_said : States step-in-place.ended (λ M 𝓤. step-in-place.clauses {M = M} {𝓤 = 𝓤}) Stepping
step_in_place_said = step_one.0

pub step_in_place_refuses : (κs : Lfts 7) (a : Args (step-in-place.ended).signature κs)
    (r : Res (step-in-place.ended).signature κs) (e : AtExit step-in-place.ended κs) → Stepping κs a r e
    → (f : TagFault) → r ≡ Err f
    → TagRefused a.0.now a.1.1.1.1.1.0.now a.1.1.1.1.1.1.0.now
    (brought a.1.1.0.now a.1.1.1.0.now a.1.1.1.1.0.now)
    (leaves (left r e.0.now) e.1.1.1.1.0.now e.1.1.1.1.1.0.now
    e.1.1.1.1.1.1.0.now) f
step_in_place_refuses κs a r e h f v = tag_answers a.1.0.now _ _ _ _ _ f h v

-- ---- the sheet

pub read_said : Says 1 read-kinds.ps read-kinds.r read.Post
    (λ κs a r e. ((r ≡ read_of key_limit a.0.now) × ((verdict_number (verdict_of r) ≡ read_number key_limit
    a.0.now) × (verdict_place (verdict_of r) ≡ read_place key_limit a.0.now))))
read_said κs a r e = refl

pub read_refuses : Gives 1 read-kinds.ps read-kinds.r read.Post
    (λ κs a r e. (f : SheetFault) (at : ℕ) → verdict_of r ≡ Err (record { fault = f; at = at })
    → Among sheet_numbers (sheet.number_of f) × (terms_read r ≡ empty_terms) × (keys_read r ≡ 0))
read_refuses κs a r e h f at v = rw h.0 (sheet_answers a.0.now f at (rw h.0 at v))

-- ---- chaining and MAC

pub cbc_enc_aes_said : Says 2 cbc-enc-aes-kinds.ps cbc-enc-aes-kinds.r cbc-enc-aes.Post
    (λ κs a r e. room.Into (room.chains (length a.1.1.0.now) (length a.1.1.1.0.now))
    (cbc_enc_aes a.0 a.1.0 a.1.1.0.now) a.1.1.1.0.now r e.1.1.1.0.now)
cbc_enc_aes_said κs a r e = refl

pub cbc_enc_aes_refuses : Gives 2 cbc-enc-aes-kinds.ps cbc-enc-aes-kinds.r cbc-enc-aes.Post
    (λ κs a r e. (room.number_of r ≡ 0) ⊎ ((room.number_of r ≡ 8) × (e.1.1.1.0.now ≡ a.1.1.1.0.now)))
cbc_enc_aes_refuses κs a r e h = chain_answers _ _ _ r _ h

pub cbc_dec_aes_said : Says 2 cbc-dec-aes-kinds.ps cbc-dec-aes-kinds.r cbc-dec-aes.Post
    (λ κs a r e. room.Into (room.chains (length a.1.1.0.now) (length a.1.1.1.0.now))
    (cbc_dec_aes a.0 a.1.0 a.1.1.0.now) a.1.1.1.0.now r e.1.1.1.0.now)
cbc_dec_aes_said κs a r e = refl

pub cbc_dec_aes_refuses : Gives 2 cbc-dec-aes-kinds.ps cbc-dec-aes-kinds.r cbc-dec-aes.Post
    (λ κs a r e. (room.number_of r ≡ 0) ⊎ ((room.number_of r ≡ 8) × (e.1.1.1.0.now ≡ a.1.1.1.0.now)))
cbc_dec_aes_refuses κs a r e h = chain_answers _ _ _ r _ h

pub cbc_enc_aes_inv_said : Says 2 cbc-enc-aes-inv-kinds.ps cbc-enc-aes-inv-kinds.r cbc-enc-aes-inv.Post
    (λ κs a r e. room.Into (room.chains (length a.1.1.0.now) (length a.1.1.1.0.now))
    (cbc_enc_aes_inv a.0 a.1.0 a.1.1.0.now) a.1.1.1.0.now r e.1.1.1.0.now)
cbc_enc_aes_inv_said κs a r e = refl

pub cbc_enc_aes_inv_refuses : Gives 2 cbc-enc-aes-inv-kinds.ps cbc-enc-aes-inv-kinds.r cbc-enc-aes-inv.Post
    (λ κs a r e. (room.number_of r ≡ 0) ⊎ ((room.number_of r ≡ 8) × (e.1.1.1.0.now ≡ a.1.1.1.0.now)))
cbc_enc_aes_inv_refuses κs a r e h = chain_answers _ _ _ r _ h

pub cbc_dec_aes_inv_said : Says 2 cbc-dec-aes-inv-kinds.ps cbc-dec-aes-inv-kinds.r cbc-dec-aes-inv.Post
    (λ κs a r e. room.Into (room.chains (length a.1.1.0.now) (length a.1.1.1.0.now))
    (cbc_dec_aes_inv a.0 a.1.0 a.1.1.0.now) a.1.1.1.0.now r e.1.1.1.0.now)
cbc_dec_aes_inv_said κs a r e = refl

pub cbc_dec_aes_inv_refuses : Gives 2 cbc-dec-aes-inv-kinds.ps cbc-dec-aes-inv-kinds.r cbc-dec-aes-inv.Post
    (λ κs a r e. (room.number_of r ≡ 0) ⊎ ((room.number_of r ≡ 8) × (e.1.1.1.0.now ≡ a.1.1.1.0.now)))
cbc_dec_aes_inv_refuses κs a r e h = chain_answers _ _ _ r _ h

pub cmac_96_said : Says 2 cmac-96-kinds.ps cmac-96-kinds.r cmac-96.Post
    (λ κs a r e. room.Into (room.macs (length a.1.0.now) (length a.1.1.0.now))
    (cmac96 a.0 a.1.0.now) a.1.1.0.now r e.1.1.0.now)
cmac_96_said κs a r e = refl

pub cmac_96_refuses : Gives 2 cmac-96-kinds.ps cmac-96-kinds.r cmac-96.Post
    (λ κs a r e. (room.number_of r ≡ 0) ⊎ ((room.number_of r ≡ 8) × (e.1.1.0.now ≡ a.1.1.0.now)))
cmac_96_refuses κs a r e h = chain_answers _ _ _ r _ h

-- ---- the judge

pub judge_said : Says 3 judge-kinds.ps judge-kinds.r judge.Post
    (λ κs a r e. Judges (judgement_of a.0 a.1.0.now a.1.1.0.now (length a.1.1.1.0.now))
    a.1.1.1.0.now r e.1.1.1.0.now)
judge_said κs a r e = refl

pub judge_refuses : Gives 3 judge-kinds.ps judge-kinds.r judge.Post
    (λ κs a r e. (f : ReaderFault) → r ≡ Err f
    → JudgeRefused (judgement_of a.0 a.1.0.now a.1.1.0.now (length a.1.1.1.0.now)) a.1.1.1.0.now e.1.1.1.0.now f)
judge_refuses κs a r e h f v = judge_answers a.0 a.1.0.now a.1.1.0.now a.1.1.1.0.now r
    e.1.1.1.0.now f h v

-- ---- the seven builders

pub tam1_said : Says 1 tam1-kinds.ps tam1-kinds.r tam1.Post
    (λ κs a r e. Makes true (tam1_made a.0 a.1.0) a.1.1.0.now r e.1.1.0.now)
tam1_said κs a r e = refl

pub tam1_refuses : Gives 1 tam1-kinds.ps tam1-kinds.r tam1.Post
    (λ κs a r e. (f : ReaderFault) → r ≡ Err f → (reader.number_of f ≡ 24) × (e.1.1.0.now ≡ a.1.1.0.now))
tam1_refuses κs a r e h f v = builder_answers _ _ _ r _ f h v

pub tam2_said : Says 1 tam2-kinds.ps tam2-kinds.r tam2.Post
    (λ κs a r e. Makes (both (mode_fits a.0 a.1.1.1.1.1.0) (custom_fits a.1.1.1.1.0))
    (tam2_made a.1.0 a.1.1.0 a.1.1.1.0 a.1.1.1.1.0 a.1.1.1.1.1.0)
    a.1.1.1.1.1.1.0.now r e.1.1.1.1.1.1.0.now)
tam2_said κs a r e = refl

pub tam2_refuses : Gives 1 tam2-kinds.ps tam2-kinds.r tam2.Post
    (λ κs a r e. (f : ReaderFault) → r ≡ Err f → (reader.number_of f ≡ 24) ×
    (e.1.1.1.1.1.1.0.now ≡ a.1.1.1.1.1.1.0.now))
tam2_refuses κs a r e h f v = builder_answers _ _ _ r _ f h v

pub iam1_said : Says 1 iam1-kinds.ps iam1-kinds.r iam1.Post
    (λ κs a r e. Makes true (iam1_made a.0) a.1.0.now r e.1.0.now)
iam1_said κs a r e = refl

pub iam1_refuses : Gives 1 iam1-kinds.ps iam1-kinds.r iam1.Post
    (λ κs a r e. (f : ReaderFault) → r ≡ Err f → (reader.number_of f ≡ 24) × (e.1.0.now ≡ a.1.0.now))
iam1_refuses κs a r e h f v = builder_answers _ _ _ r _ f h v

pub mam1_said : Says 1 mam1-kinds.ps mam1-kinds.r mam1.Post
    (λ κs a r e. Makes true (mam1_made a.0 a.1.0) a.1.1.0.now r e.1.1.0.now)
mam1_said κs a r e = refl

pub mam1_refuses : Gives 1 mam1-kinds.ps mam1-kinds.r mam1.Post
    (λ κs a r e. (f : ReaderFault) → r ≡ Err f → (reader.number_of f ≡ 24) × (e.1.1.0.now ≡ a.1.1.0.now))
mam1_refuses κs a r e h f v = builder_answers _ _ _ r _ f h v

pub iam2_said : Says 1 iam2-kinds.ps iam2-kinds.r iam2.Post
    (λ κs a r e. Makes (purpose_fits a.1.0) (iam2_made a.0 a.1.0 a.1.1.0 a.1.1.1.0)
    a.1.1.1.1.0.now r e.1.1.1.1.0.now)
iam2_said κs a r e = refl

pub iam2_refuses : Gives 1 iam2-kinds.ps iam2-kinds.r iam2.Post
    (λ κs a r e. (f : ReaderFault) → r ≡ Err f → (reader.number_of f ≡ 24) ×
    (e.1.1.1.1.0.now ≡ a.1.1.1.1.0.now))
iam2_refuses κs a r e h f v = builder_answers _ _ _ r _ f h v

pub mam2_said : Says 1 mam2-kinds.ps mam2-kinds.r mam2.Post
    (λ κs a r e. Makes (purpose_fits a.1.0) (mam2_made a.0 a.1.0 a.1.1.0 a.1.1.1.0)
    a.1.1.1.1.0.now r e.1.1.1.1.0.now)
mam2_said κs a r e = refl

pub mam2_refuses : Gives 1 mam2-kinds.ps mam2-kinds.r mam2.Post
    (λ κs a r e. (f : ReaderFault) → r ≡ Err f → (reader.number_of f ≡ 24) ×
    (e.1.1.1.1.0.now ≡ a.1.1.1.1.0.now))
mam2_refuses κs a r e h f v = builder_answers _ _ _ r _ f h v

pub iam3_said : Says 2 iam3-kinds.ps iam3-kinds.r iam3.Post
    (λ κs a r e. Makes (iam3_fits a.0 a.1.0 a.1.1.0 a.1.1.1.0
    (length a.1.1.1.1.1.1.0.now)) (iam3_made a.0 a.1.0 a.1.1.0 a.1.1.1.0
    a.1.1.1.1.0 a.1.1.1.1.1.0 a.1.1.1.1.1.1.0.now) a.1.1.1.1.1.1.1.0.now r
    e.1.1.1.1.1.1.1.0.now)
iam3_said κs a r e = refl

pub iam3_refuses : Gives 2 iam3-kinds.ps iam3-kinds.r iam3.Post
    (λ κs a r e. (f : ReaderFault) → r ≡ Err f → (reader.number_of f ≡ 24) ×
    (e.1.1.1.1.1.1.1.0.now ≡ a.1.1.1.1.1.1.1.0.now))
iam3_refuses κs a r e h f v = builder_answers _ _ _ r _ f h v

-- ---- recovery: the judge's call on what a step left

pub recovery_said : (κs : Lfts 6) (a : Dens κs step-kinds.ps) (s : (res_t step-kinds.r κs).Denot)
    (e : AtExit (ended_of 6 step-kinds.ps step-kinds.r) κs)
    (μs : Lfts 3) (b : Dens μs judge-kinds.ps) (r : (res_t judge-kinds.r μs).Denot)
    (f : AtExit (ended_of 3 judge-kinds.ps judge-kinds.r) μs)
    → step.Post κs a s e
    → judge.Post μs b r f
    → b.1.0.now ≡ a.1.1.0.now
    → b.1.1.0.now ≡ take (reply_length s.outcome) e.1.1.1.1.0.now
    → (let c = lent a.1.1.0.now a.1.1.1.0.now a.1.1.1.1.0.now a.1.1.1.1.1.0.now
    a.1.1.1.1.1.1.0.now in
    let tag = keyed a.0 a.1.0.now in
    Fit c tag b.0
    → Shares b.0 (key_used tag c.message)
    → data_room ≤ length b.1.1.1.0.now
    → Taken s.outcome
    → Judges (due c tag (answer_of c tag) (kind_of (byte_at c.message 0))) b.1.1.1.0.now r
    f.1.1.1.0.now)
recovery_said κs a s e μs b r f h g own reply fit share enough taken =
    recovery_code a.1.0.now a.0 _ _
    (brought a.1.1.0.now a.1.1.1.0.now a.1.1.1.1.0.now)
    (leaves s e.1.1.1.1.0.now e.1.1.1.1.1.0.now e.1.1.1.1.1.1.0.now)
    b.0 b.1.1.1.0.now r f.1.1.1.0.now h fit share enough taken
    (subst (λ (l : List ℕ). Judges (judgement_of b.0 a.1.1.0.now l (length b.1.1.1.0.now))
    b.1.1.1.0.now r f.1.1.1.0.now) reply
    (subst (λ (l : List ℕ). Judges (judgement_of b.0 l b.1.1.0.now (length b.1.1.1.0.now))
    b.1.1.1.0.now r f.1.1.1.0.now) own g))
