-- The tag opens by AES-ENC: whoever is let in came through the checks of an IAM2, an IAM3 or a MAM2.
use Rattle.std.specs.Prelude.{Result, Ok, Err, Option, Some, None}
use Rattle.offer.specs.Outcomes.{Outcome}
use Rattle.offer.specs.declared.Answer.TheVariants.{Replied, Entered}
use Prim.Native.Nat.{ℕ}
use mathlib.Core.Path.{◌≡◌, refl, ap}
use mathlib.Core.Bool.{Bool, true, false}
use mathlib.Core.List.{List, [], ◌∷◌}
use lib.ListN.{length}
use Rattle.ground.specs.Bytes.{byte_at}
use Rattle.ground.specs.Choice.{pick}
use Rattle.aes.specs.AesEnc.{aes_enc}
use Rattle.sheet.specs.declared.Key.{Key}
use Rattle.frames.specs.declared.Iam3.{Iam3 as Iam3Fields}
use Rattle.frames.specs.declared.Kind.{Kind}
use Rattle.frames.specs.declared.Kind.TheVariants.{Tam1, Tam2, Iam1, Iam2, Iam3, Mam1, Mam2, Unsupported}
use Rattle.frames.specs.declared.ProtMode.{ProtMode}
use Rattle.frames.specs.Constants.{iam3_constant}
use Rattle.frames.specs.Kinds.{kind_of}
use Rattle.frames.specs.Messages.{iam3_of}
use Rattle.frames.specs.Modes.{in_mode, prot_mode_of}
use Rattle.frames.proofs.Range.{both_left}
use Rattle.offer.specs.declared.TagFault.{TagFault}
use Rattle.offer.specs.declared.TagFault.TheVariants.{NotSupported, OutOfTurn}
use Rattle.offer.specs.Checks.{judged}
use Rattle.offer.specs.Judged.{lending_checks}
use Rattle.offer.specs.Records.{offered}
use Rattle.offer.proofs.Lines.{first_holds, others_hold}
use Rattle.entry.specs.declared.Session.{Session}
use Rattle.entry.specs.Judged.{iam2_checks, iam3_checks, mam2_checks}
use Rattle.entry.specs.Sessions.{cleared}
use Rattle.entry.specs.Opened.{iam_proof, sent_block, proved_in, iam3_proof}
use Rattle.tag.specs.Answers.{
  Effect,
  Call,
  refused,
  replied,
  let_in,
  if_fine,
  tam1_answer,
  tam2_answer,
  iam1_answer,
  iam2_answer,
  iam3_answer,
  mam1_answer,
  mam2_answer,
  by_kind,
  in_order,
  of_message,
  of_lending,
  effect_of,
}
use Rattle.tag.specs.States.{KeyedTag, in_turn}
use Rattle.claims.specs.Ways.{LetInBy, TagEncrypts}

-- the proof of an IAM3 starts with that of its first block, in its mode
first_proved : (key : Key) (held : Session) (f : Iam3Fields) (m : List ℕ) → iam3_proof key held f m ≡ true
    → in_mode (prot_mode_of f.protmode)
    (λ (mode : ProtMode). iam_proof (iam3_constant mode) held (aes_enc key.enc (sent_block m))) false ≡ true
unfolding iam3_proof proved_in
first_proved key held f m h = by (prot_mode_of f.protmode) h
  where
    by : (x : Option ProtMode) → in_mode x (λ (mode : ProtMode). proved_in key held mode f m) false ≡ true
        → in_mode x (λ (mode : ProtMode). iam_proof (iam3_constant mode) held (aes_enc key.enc (sent_block m))) false
        ≡ true
    by (Some mode) e = both_left _ _ e
    by None e = e

-- an outcome that lets in is neither a reply nor a refusal
not_replied : {A : Type 0} (n purpose : ℕ) → ◌≡◌ {A = Outcome} (Ok (Replied n)) (Ok (Entered purpose)) → A
not_replied n purpose e = absurd cc

purpose_of : Outcome → ℕ
purpose_of (Ok (Replied n)) = 0
purpose_of (Ok (Entered purpose)) = purpose
purpose_of (Err f) = 0

module _ (c : Call) (tag : KeyedTag) (purpose : ℕ) where
  abbrev LetsIn : Effect → Type 0
  LetsIn e = e.outcome ≡ Ok (Entered purpose)

  not_refused : {A : Type 0} (e : Effect) → LetsIn e → (f : TagFault) (s : Session) → e ≡ refused c f s → A
  unfolding refused
  not_refused e h f s q =
      let g = ap (λ (x : Effect). x.outcome) q in
      absurd cc

  -- past its checks
  through : (v : Result Unit TagFault) (e : Effect) → LetsIn (if_fine c v e) → (v ≡ Ok tt) × LetsIn e
  unfolding if_fine
  through (Ok tt) e h = (refl, h)
  through (Err f) e h = not_refused _ h f _ refl

  by_kind_lem : (kind : Kind) → LetsIn (by_kind c tag.setup tag.session kind)
      → LetInBy kind c.message tag purpose
  unfolding by_kind tam1_answer tam2_answer iam1_answer iam2_answer iam3_answer mam1_answer mam2_answer replied let_in
      iam2_checks iam3_checks mam2_checks purpose_of
  by_kind_lem Tam1 h = not_replied _ purpose (through _ _ h).1
  by_kind_lem Tam2 h = not_replied _ purpose (through _ _ h).1
  by_kind_lem Iam1 h = not_replied _ purpose (through _ _ h).1
  by_kind_lem Mam1 h = not_replied _ purpose (through _ _ h).1
  by_kind_lem Unsupported h = not_refused _ h _ _ refl
  by_kind_lem Iam2 h =
      let k = through _ _ h in
      record {
        opened = _;
        by = refl;
        proved = first_holds _ _ (others_hold _ _ (others_hold _ _ k.0));
        said = ap purpose_of k.1;
      }
  by_kind_lem Mam2 h =
      let k = through _ _ h in
      record {
        opened = _;
        by = refl;
        proved = first_holds _ _ (others_hold _ _ (others_hold _ _ k.0));
        said = ap purpose_of k.1;
      }
  by_kind_lem Iam3 h =
      let k = through _ _ h in
      record {
        opened = _;
        by = refl;
        proved = first_proved _ tag.session (iam3_of c.message) c.message
            (first_holds _ _ (others_hold _ _ (others_hold _ _ (others_hold _ _ (others_hold _ _
            (others_hold _ _ (others_hold _ _ (others_hold _ _ k.0))))))));
        said = ap purpose_of k.1;
      }

  in_order_lem : (kind : Kind) → LetsIn (in_order c tag.setup tag.session kind) → LetInBy kind c.message tag purpose
  unfolding in_order
  in_order_lem kind = by_tests (offered tag.setup.features kind) (in_turn tag.session.state kind)
    where
      by_tests : (there turn : Bool) → LetsIn (pick there (pick turn (by_kind c tag.setup tag.session kind)
          (refused c OutOfTurn cleared)) (refused c NotSupported cleared)) → LetInBy kind c.message tag purpose
      by_tests true true h = by_kind_lem kind h
      by_tests true false h = not_refused _ h _ _ refl
      by_tests false turn h = not_refused _ h _ _ refl

  of_message_lem : (m : List ℕ) → LetsIn (of_message c tag.setup tag.session m)
      → LetInBy (kind_of (byte_at m 0)) c.message tag purpose
  unfolding of_message
  of_message_lem [] h = not_refused _ h _ _ refl
  of_message_lem (first ∷ rest) h = in_order_lem (kind_of first) h

  of_lending_lem : (v : Result Unit TagFault) → LetsIn (of_lending c tag.setup tag.session v)
      → LetInBy (kind_of (byte_at c.message 0)) c.message tag purpose
  of_lending_lem (Ok tt) h = of_message_lem c.message h
  of_lending_lem (Err f) h = not_refused _ h f _ refl

pub tag_encrypts : TagEncrypts
unfolding effect_of
tag_encrypts c tag purpose h =
    of_lending_lem c tag purpose
    (judged (lending_checks tag.setup.sizes (length c.draws) c.room (length c.identity) (length c.user)))
    h
