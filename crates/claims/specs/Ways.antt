-- Clause 5: a tag has encryption alone. It lets a reader in only where the block that AES-ENC makes of what the reader
-- sent proves it, and reads the Purpose from that block.
use Rattle.std.specs.Prelude.{ℕ, ◌≡◌, Bool, true, false, List, [], Ok}
use Rattle.offer.specs.declared.Answer.TheVariants.{Entered}
use Rattle.ground.specs.Bytes.{byte_at}
use Rattle.aes.specs.AesEnc.{aes_enc}
use Rattle.frames.specs.declared.Kind.{Kind}
use Rattle.frames.specs.declared.Kind.TheVariants.{Tam1, Tam2, Iam1, Iam2, Iam3, Mam1, Mam2, Unsupported}
use Rattle.frames.specs.declared.ProtMode.{ProtMode}
use Rattle.frames.specs.Constants.{c_iam2, iam3_constant}
use Rattle.frames.specs.Kinds.{kind_of}
use Rattle.frames.specs.Messages.{iam2_of, iam3_of, mam2_of}
use Rattle.frames.specs.Modes.{in_mode, prot_mode_of}
use Rattle.keytable.specs.Named.{key_with}
use Rattle.entry.specs.declared.Session.{Session}
use Rattle.entry.specs.Opened.{purpose_in, iam_proof, mam_proof, sent_block}
use Rattle.tag.specs.Answers.{Call, answer_of}
use Rattle.tag.specs.States.{KeyedTag}

-- The block that the reader sent as its answer, by the message's kind: IResponse, of an IAM3 its first block.
abbrev pub response_of : Kind → List ℕ → List ℕ
response_of Tam1 m = []
response_of Tam2 m = []
response_of Iam1 m = []
response_of Iam2 m = (iam2_of m).iresponse
response_of Iam3 m = sent_block m
response_of Mam1 m = []
response_of Mam2 m = (mam2_of m).iresponse
response_of Unsupported m = []

-- What the opened block b has to say to a tag that holds this: 9.5.5, 9.5.8, 9.6.5. No other kind proves anything.
abbrev pub proves : Kind → List ℕ → Session → List ℕ → Bool
proves Tam1 m held b = false
proves Tam2 m held b = false
proves Iam1 m held b = false
proves Iam2 m held b = iam_proof c_iam2 held b
proves Iam3 m held b =
    in_mode (prot_mode_of (iam3_of m).protmode) (λ (mode : ProtMode). iam_proof (iam3_constant mode) held b) false
proves Mam1 m held b = false
proves Mam2 m held b = mam_proof held b
proves Unsupported m held b = false

pub record LetInBy (kind : Kind) (m : List ℕ) (tag : KeyedTag) (purpose : ℕ) : Type 0 where
  pub opened : List ℕ
  pub by : opened ≡ aes_enc (key_with tag.session.keyid tag.setup.keys).enc (response_of kind m)
  pub proved : proves kind m tag.session opened ≡ true
  pub said : purpose_in opened ≡ purpose

abbrev pub TagEncrypts : Type 0
TagEncrypts =
    (c : Call) (tag : KeyedTag) (purpose : ℕ)
    → (answer_of c tag).outcome ≡ Ok (Entered purpose)
    → LetInBy (kind_of (byte_at c.message 0)) c.message tag purpose
