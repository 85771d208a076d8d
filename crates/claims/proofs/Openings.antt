-- Openings are answered: what the reader's side builds is taken apart again, and each check holds.
use Rattle.std.specs.Prelude.{Ok}
use mathlib.Core.Path.{◌≡◌, refl, ap, sym, ◌∙◌}
use mathlib.Core.Bool.{true, not}
use mathlib.Core.List.{List}
use Prim.Native.Nat.{ℕ, ◌<◌}
use native.Mathlib.Omega.{arith}
use borrow.Author.Tests.{eq-eqb}
use lib.ListN.{length, drop, replicate}
use Rattle.ground.specs.Bytes.{byte_at}
use Rattle.memory.specs.Areas.{window_of}
use Rattle.sheet.specs.declared.Key.{Key}
use Rattle.keytable.specs.Named.{has_key, key_with}
use Rattle.frames.specs.declared.Kind.{Kind}
use Rattle.frames.specs.declared.Kind.TheVariants.{Tam1, Tam2, Iam1, Mam1}
use Rattle.frames.specs.declared.Tam1.{Tam1 as Tam1Fields}
use Rattle.frames.specs.declared.Tam2.{Tam2 as Tam2Fields}
use Rattle.frames.specs.declared.Iam1.{Iam1 as Iam1Fields}
use Rattle.frames.specs.declared.Mam1.{Mam1 as Mam1Fields}
use Rattle.frames.specs.Kinds.{kind_of}
use Rattle.frames.specs.Lengths.{length_fits}
use Rattle.frames.specs.Messages.{tam1_of, tam2_of, iam1_of, mam1_of}
use Rattle.frames.proofs.ProtModes.{mode_below}
use Rattle.frames.proofs.Shape.{tam1_shape, tam2_shape, iam1_shape, mam1_shape}
use Rattle.frames.proofs.Taken.{tam1_taken, tam2_taken, iam1_taken, mam1_taken}
use Rattle.offer.specs.Checks.{judged}
use Rattle.offer.specs.Judged.{opening_checks}
use Rattle.offer.specs.Records.{block_asked}
use Rattle.offer.proofs.Lines.{passes, ends}
use Rattle.offer.proofs.Passed.{mode_named}
use Rattle.tam.specs.Judged.{tam2_checks}
use Rattle.tam.specs.Replies.{tam1_reply, tam2_reply}
use Rattle.entry.specs.declared.State.TheVariants.{IamInit, MamInit}
use Rattle.entry.specs.Sessions.{cleared}
use Rattle.entry.specs.Replies.{mam1_reply}
use Rattle.tag.specs.Answers.{if_fine, replied, answer_with, tam1_answer, tam2_answer, iam1_answer, mam1_answer}
use Rattle.tag.specs.Answers.{by_kind}
use Rattle.reader_build.specs.Builds.{tam1_made, tam2_made, iam1_made, mam1_made}
use Rattle.claims.specs.Openings.{Tam1Answered, Tam2Answered, Iam1Answered, Mam1Answered}
use Rattle.claims.proofs.InTurn.{in_turn_lem}

-- the line that TAM1, IAM1 and MAM1 share
opening_fine : (kind : Kind) (rfu keyid : ℕ) (keys : List Key) (m : List ℕ) → length_fits kind m ≡ true → rfu ≡ 0
    → has_key keyid keys ≡ true → judged (opening_checks kind rfu keyid keys m) ≡ Ok tt
unfolding opening_checks
opening_fine kind rfu keyid keys m long none there =
    sym (passes _ _ long (passes _ _ (eq-eqb _ _ none) (passes _ _ there ends)))

pub tam1_answered_lem : Tam1Answered
unfolding by_kind tam1_made tam1_answer length_fits if_fine
tam1_answered_lem c tag keyid ichallenge w there ten e =
    let keys = tag.setup.keys in
    let f : Tam1Fields = record { rfu = 0; keyid = keyid; ichallenge = ichallenge } in
    let shape = tam1_shape f ten (omega arith) in
    let long : length c.message ≡ 12 = ap length e ∙ shape.0 in
    let taken : tam1_of c.message ≡ f = ap tam1_of e ∙ tam1_taken f ten (omega arith) in
    let fine = opening_fine Tam1 _ _ keys c.message (eq-eqb _ _ long) (λ i. (taken i).rfu)
    ((λ i. has_key (taken i).keyid keys) ∙ there) in
    ap (answer_with tag.setup)
    (in_turn_lem c tag Tam1 w (omega (arith, long)) (ap (λ (l : List ℕ). kind_of (byte_at l 0)) e ∙ shape.1)
    ∙ (λ i. if_fine c (fine i) (replied c (tam1_reply (key_with (taken i).keyid keys) (taken i) c.draws) cleared)))

pub iam1_answered : Iam1Answered
unfolding by_kind iam1_made iam1_answer length_fits if_fine
iam1_answered c tag keyid w there e =
    let keys = tag.setup.keys in
    let f : Iam1Fields = record { rfu = 0; keyid = keyid } in
    let shape = iam1_shape f (omega arith) in
    let long : length c.message ≡ 2 = ap length e ∙ shape.0 in
    let taken : iam1_of c.message ≡ f = ap iam1_of e ∙ iam1_taken f (omega arith) in
    let fine = opening_fine Iam1 _ _ keys c.message (eq-eqb _ _ long) (λ i. (taken i).rfu)
    ((λ i. has_key (taken i).keyid keys) ∙ there) in
    ap (answer_with tag.setup)
    (in_turn_lem c tag Iam1 w (omega (arith, long)) (ap (λ (l : List ℕ). kind_of (byte_at l 0)) e ∙ shape.1)
    ∙ (λ i. if_fine c (fine i) (replied c c.draws (record {
      state = IamInit;
      keyid = (taken i).keyid;
      tchallenge = c.draws;
      ichallenge = replicate 4 0;
    }))))

pub mam1_answered : Mam1Answered
unfolding by_kind mam1_made mam1_answer length_fits if_fine
mam1_answered c tag keyid ichallenge w there ten e =
    let keys = tag.setup.keys in
    let f : Mam1Fields = record { rfu = 0; keyid = keyid; ichallenge = ichallenge } in
    let shape = mam1_shape f ten (omega arith) in
    let long : length c.message ≡ 12 = ap length e ∙ shape.0 in
    let taken : mam1_of c.message ≡ f = ap mam1_of e ∙ mam1_taken f ten (omega arith) in
    let fine = opening_fine Mam1 _ _ keys c.message (eq-eqb _ _ long) (λ i. (taken i).rfu)
    ((λ i. has_key (taken i).keyid keys) ∙ there) in
    ap (answer_with tag.setup)
    (in_turn_lem c tag Mam1 w (omega (arith, long)) (ap (λ (l : List ℕ). kind_of (byte_at l 0)) e ∙ shape.1)
    ∙ (λ i. if_fine c (fine i) (replied c (mam1_reply (key_with (taken i).keyid keys) (taken i) c.draws) (record {
      state = MamInit;
      keyid = (taken i).keyid;
      tchallenge = c.draws;
      ichallenge = drop 6 (taken i).ichallenge;
    }))))

pub tam2_answered : Tam2Answered
unfolding by_kind tam2_made tam2_answer tam2_checks length_fits if_fine
tam2_answered c tag keyid ichallenge rev custom protmode w there ten fit may e =
    let keys = tag.setup.keys in
    let key = key_with keyid keys in
    let f : Tam2Fields = record {
      rev = rev;
      rfu = 0;
      keyid = keyid;
      ichallenge = ichallenge;
      custom = custom;
      protmode = protmode;
    } in
    let m = mode_named tag.setup.features key protmode may.mode in
    let small : protmode < 16 = omega (arith, mode_below protmode m.mode m.named) in
    let shape = tam2_shape f ten (omega arith) in
    let long : length c.message ≡ 15 = ap length e ∙ shape.0 in
    let taken : tam2_of c.message ≡ f = ap tam2_of e ∙ tam2_taken f ten (omega arith) fit small in
    let words = window_of c.identity c.user (block_asked tag.setup.profiles custom) in
    let fine =
    passes _ _ (eq-eqb _ _ long) (passes _ _ may.size (passes _ _ may.revision (passes _ _ refl
    (passes _ _ there (passes _ _ may.present (passes _ _ may.right
    (passes _ _ (ap not may.inside) (passes _ _ may.mode ends)))))))) in
    ap (answer_with tag.setup)
    (in_turn_lem c tag Tam2 w (omega (arith, long)) (ap (λ (l : List ℕ). kind_of (byte_at l 0)) e ∙ shape.1)
    ∙ rw taken (λ i. if_fine c (sym fine i) (replied c (tam2_reply key f words c.draws) cleared)))
