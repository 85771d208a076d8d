-- Openings: a TAM1, TAM2, IAM1 or MAM1 that the reader's side builds, for a record that is there, with fields that the
-- tag supports, in a state that takes it, is answered as its clause says. With `Entry` that is each of the seven.
use Rattle.std.specs.Prelude.{◌≡◌, Bool, true, false, List, ℕ, length, drop, replicate}
use Rattle.memory.specs.Address.{overruns}
use Rattle.memory.specs.Areas.{window_of}
use Rattle.memory.specs.Rights.{permitted}
use Rattle.sheet.specs.declared.Key.{Key}
use Rattle.sheet.specs.Setups.{Setup}
use Rattle.keytable.specs.Named.{has_key, key_with}
use Rattle.frames.specs.declared.Custom.{Custom}
use Rattle.frames.specs.declared.Kind.TheVariants.{Tam1, Tam2, Iam1, Mam1}
use Rattle.frames.specs.Fields.{custom_fits}
use Rattle.offer.specs.Records.{size_offered, rev_offered, mode_supported, slot_named, block_asked}
use Rattle.tam.specs.Replies.{tam1_reply, tam2_reply}
use Rattle.entry.specs.declared.State.TheVariants.{IamInit, MamInit}
use Rattle.entry.specs.Sessions.{cleared}
use Rattle.entry.specs.Replies.{mam1_reply}
use Rattle.tag.specs.States.{KeyedTag}
use Rattle.tag.specs.Answers.{Call, replied, answer_with, answer_of}
use Rattle.reader_build.specs.Builds.{tam1_made, tam2_made, iam1_made, mam1_made}
use Rattle.claims.specs.Entry.{Waits}

-- 9.4.2, 9.4.3: TAM1.
abbrev pub Tam1Answered : Type 0
Tam1Answered =
    (c : Call) (tag : KeyedTag) (keyid : ℕ) (ichallenge : List ℕ)
    → Waits c tag Tam1
    → has_key keyid tag.setup.keys ≡ true
    → length ichallenge ≡ 10
    → c.message ≡ tam1_made keyid ichallenge
    → answer_of c tag
    ≡ answer_with tag.setup (replied c (tam1_reply (key_with keyid tag.setup.keys)
    (record { rfu = 0; keyid = keyid; ichallenge = ichallenge }) c.draws) cleared)

-- The tag supports what a TAM2 asks for, and may show it (9.4.5).
pub record Readable (setup : Setup) (key : Key) (rev : Bool) (custom : Custom) (protmode : ℕ) : Type 0 where
  pub size : size_offered setup.features custom.blocksize ≡ true
  pub revision : rev_offered setup.features rev ≡ true
  pub present : (slot_named setup.profiles custom.profile).present ≡ true
  pub right : permitted key.mpi custom.profile ≡ true
  pub inside : overruns (slot_named setup.profiles custom.profile).profile (block_asked setup.profiles custom) ≡
      false
  pub mode : mode_supported setup.features key protmode ≡ true

-- 9.4.5, 9.4.6: TAM2, in each Rev and ProtMode, with the words of the block that it names.
abbrev pub Tam2Answered : Type 0
Tam2Answered =
    (c : Call) (tag : KeyedTag) (keyid : ℕ) (ichallenge : List ℕ) (rev : Bool) (custom : Custom) (protmode : ℕ)
    → Waits c tag Tam2
    → has_key keyid tag.setup.keys ≡ true
    → length ichallenge ≡ 10
    → custom_fits custom ≡ true
    → Readable tag.setup (key_with keyid tag.setup.keys) rev custom protmode
    → c.message ≡ tam2_made keyid ichallenge rev custom protmode
    → answer_of c tag
    ≡ answer_with tag.setup (replied c (tam2_reply (key_with keyid tag.setup.keys) (record {
      rev = rev;
      rfu = 0;
      keyid = keyid;
      ichallenge = ichallenge;
      custom = custom;
      protmode = protmode;
    }) (window_of c.identity c.user (block_asked tag.setup.profiles custom)) c.draws) cleared)

-- 9.5.2, 9.5.3: IAM1; the challenge is the draws, and the tag waits for its answer.
abbrev pub Iam1Answered : Type 0
Iam1Answered =
    (c : Call) (tag : KeyedTag) (keyid : ℕ)
    → Waits c tag Iam1
    → has_key keyid tag.setup.keys ≡ true
    → c.message ≡ iam1_made keyid
    → answer_of c tag
    ≡ answer_with tag.setup (replied c c.draws
    (record { state = IamInit; keyid = keyid; tchallenge = c.draws; ichallenge = replicate 4 0 }))

-- 9.6.2, 9.6.3: MAM1; the end of the reader's own challenge is held too.
abbrev pub Mam1Answered : Type 0
Mam1Answered =
    (c : Call) (tag : KeyedTag) (keyid : ℕ) (ichallenge : List ℕ)
    → Waits c tag Mam1
    → has_key keyid tag.setup.keys ≡ true
    → length ichallenge ≡ 10
    → c.message ≡ mam1_made keyid ichallenge
    → answer_of c tag
    ≡ answer_with tag.setup (replied c (mam1_reply (key_with keyid tag.setup.keys)
    (record { rfu = 0; keyid = keyid; ichallenge = ichallenge }) c.draws)
    (record { state = MamInit; keyid = keyid; tchallenge = c.draws; ichallenge = drop 6 ichallenge }))
