-- What is left of an IAM3 once its fields were judged: the proof alone decides.
use Rattle.std.specs.Prelude.{ℕ, ◌≡◌, List, Ok, Err}
use Rattle.offer.specs.declared.Answer.TheVariants.{Entered}
use Rattle.ground.specs.Choice.{pick}
use Rattle.aes.specs.AesEnc.{aes_enc}
use Rattle.memory.specs.declared.Area.{Area}
use Rattle.memory.specs.declared.Area.TheVariants.{Identity, User}
use Rattle.memory.specs.declared.Block.{Block}
use Rattle.memory.specs.Areas.{stored_in}
use Rattle.sheet.specs.declared.Key.{Key}
use Rattle.frames.specs.declared.Iam3.{Iam3}
use Rattle.offer.specs.declared.TagFault.TheVariants.{ProofWrong}
use Rattle.entry.specs.declared.Session.{Session}
use Rattle.entry.specs.declared.Reacted.{Reacted}
use Rattle.entry.specs.Sessions.{cleared, entered}
use Rattle.entry.specs.Opened.{purpose_in, sent_block, opened_data, words_in, iam3_proof}

module _ (key : Key) (held : Session) (f : Iam3) (block : Block) (m : List ℕ) where
  abbrev pub decided : {A : Type 0} → A → A → A
  decided a b = pick (iam3_proof key held f m) a b

  abbrev pub stored_words : Area → List ℕ → List ℕ
  stored_words area s = stored_in area block (words_in f.custom (opened_data key f m)) s

  pub record ProofDecides (identity user : List ℕ) (r : Reacted) (i u : List ℕ) : Type 0 where
    pub outcome : r.outcome ≡ decided (Ok (Entered (purpose_in (aes_enc key.enc (sent_block m))))) (Err ProofWrong)
    pub session : r.session ≡ decided entered cleared
    pub in_identity : i ≡ decided (stored_words Identity identity) identity
    pub in_user : u ≡ decided (stored_words User user) user
