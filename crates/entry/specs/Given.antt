-- What each message of IAM and MAM comes to: what is judged of it, and what follows where nothing is refused.
use Rattle.std.specs.Prelude.{ℕ, ◌≡◌, List, drop, replicate, Result, Ok, Err}
use Rattle.offer.specs.declared.Answer.TheVariants.{Entered}
use Rattle.offer.specs.declared.TagFault.{TagFault}
use Rattle.aes.specs.AesEnc.{aes_enc}
use Rattle.memory.specs.declared.Area.{Area}
use Rattle.memory.specs.declared.Area.TheVariants.{Identity, User}
use Rattle.memory.specs.Areas.{stored_in}
use Rattle.sheet.specs.declared.Key.{Key}
use Rattle.sheet.specs.Setups.{Setup}
use Rattle.frames.specs.declared.Kind.TheVariants.{Iam1, Mam1}
use Rattle.frames.specs.Messages.{iam1_of, iam2_of, iam3_of, mam1_of, mam2_of}
use Rattle.offer.specs.Outcomes.{settled}
use Rattle.offer.specs.Checks.{judged}
use Rattle.offer.specs.Judged.{opening_checks}
use Rattle.keytable.specs.Named.{key_with}
use Rattle.offer.specs.Records.{block_asked}
use Rattle.entry.specs.declared.State.TheVariants.{IamInit, MamInit}
use Rattle.entry.specs.declared.Session.{Session}
use Rattle.entry.specs.declared.Reacted.{Reacted}
use Rattle.entry.specs.Sessions.{cleared, entered}
use Rattle.entry.specs.Replies.{mam1_reply}
use Rattle.entry.specs.Opened.{purpose_in, opened_data, words_in, sent_block}
use Rattle.entry.specs.Judged.{iam2_checks, iam3_checks, mam2_checks}

-- 9.5.2, 9.5.3: the challenge is the ten draws, and is kept with the KeyID.
abbrev pub iam1_checked : List Key → List ℕ → Result Unit TagFault
iam1_checked keys m = let f = iam1_of m in judged (opening_checks Iam1 f.rfu f.keyid keys m)

abbrev pub iam1_held : List ℕ → List ℕ → Session
iam1_held m draws = record {
  state = IamInit;
  keyid = (iam1_of m).keyid;
  tchallenge = draws;
  ichallenge = replicate 4 0;
}

-- 9.6.2, 9.6.3: also the last 32 bits of the reader's challenge are kept.
abbrev pub mam1_checked : List Key → List ℕ → Result Unit TagFault
mam1_checked keys m = let f = mam1_of m in judged (opening_checks Mam1 f.rfu f.keyid keys m)

abbrev pub mam1_sent : List Key → List ℕ → List ℕ → List ℕ
mam1_sent keys m draws = let f = mam1_of m in mam1_reply (key_with f.keyid keys) f draws

abbrev pub mam1_held : List ℕ → List ℕ → Session
mam1_held m draws = record {
  state = MamInit;
  keyid = (mam1_of m).keyid;
  tchallenge = draws;
  ichallenge = drop 6 (mam1_of m).ichallenge;
}

module _ (keys : List Key) (held : Session) (m : List ℕ) where
  -- 9.5.5, 9.5.6
  abbrev pub iam2_checked : Result Unit TagFault
  iam2_checked = judged (iam2_checks keys held m)

  abbrev pub iam2_purpose : ℕ
  iam2_purpose = purpose_in (aes_enc (key_with held.keyid keys).enc (iam2_of m).iresponse)

  -- 9.6.5, 9.6.6
  abbrev pub mam2_checked : Result Unit TagFault
  mam2_checked = judged (mam2_checks keys held m)

  abbrev pub mam2_purpose : ℕ
  mam2_purpose = purpose_in (aes_enc (key_with held.keyid keys).enc (mam2_of m).iresponse)

module _ (setup : Setup) (held : Session) (m : List ℕ) where
  -- 9.5.8, 9.5.9: after everything was judged the words of the block are written, and no others.
  abbrev pub iam3_checked : Result Unit TagFault
  iam3_checked = judged (iam3_checks setup held m)

  abbrev pub iam3_purpose : ℕ
  iam3_purpose = purpose_in (aes_enc (key_with held.keyid setup.keys).enc (sent_block m))

  abbrev pub iam3_stored : Area → List ℕ → List ℕ
  iam3_stored area s =
      let f = iam3_of m in
      let words = words_in f.custom (opened_data (key_with held.keyid setup.keys) f m) in
      stored_in area (block_asked setup.profiles f.custom) words s

-- What is given to a message that asks for a challenge: numbers 1 to 6 end in Initial, and send nothing.
pub record Challenges (v : Result Unit TagFault) (bytes : List ℕ) (next : Session) (sent : Result (List ℕ) TagFault)
    (held : Session) : Type 0
  where
    pub reply : sent ≡ settled v (Ok bytes) Err
    pub session : held ≡ settled v next (λ f. cleared)

-- What is given to a message that ends an authentication: the reader is let in, with its Purpose for the host.
pub record LetsIn (v : Result Unit TagFault) (purpose : ℕ) (r : Reacted) : Type 0 where
  pub outcome : r.outcome ≡ settled v (Ok (Entered purpose)) Err
  pub session : r.session ≡ settled v entered (λ f. cleared)

-- The same, and what the areas hold afterwards: a refusal writes no word.
pub record Writes (v : Result Unit TagFault) (purpose : ℕ) (stored : Area → List ℕ → List ℕ) (identity user : List ℕ)
    (r : Reacted) (i u : List ℕ) : Type 0
  where
    pub lets_in : LetsIn v purpose r
    pub in_identity : i ≡ settled v (stored Identity identity) (λ f. identity)
    pub in_user : u ≡ settled v (stored User user) (λ f. user)
