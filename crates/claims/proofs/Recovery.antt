-- Recovery is proved: kind by kind, the checks that the tag made pass the reader's own, and what the tag closed the
-- reader opens.
use Rattle.std.specs.Prelude.{Result, Ok, Err, Option}
use Rattle.frames.specs.declared.ProtMode.{ProtMode}
use Rattle.offer.specs.declared.TagFault.{TagFault}
use mathlib.Core.Path.{◌≡◌, refl, sym, ap, ap₂, ◌∙◌, subst}
use mathlib.Core.Bool.{Bool, true, false}
use mathlib.Core.List.{List, [], ◌∷◌}
use Prim.Native.Nat.{ℕ, ◌≤◌}
use native.Mathlib.Omega.{arith}
use borrow.Author.Tests.{eq-eqb, le-leb}
use lib.Dec.{eqb}
use lib.ListN.{length}
use Rattle.ground.specs.Bytes.{byte_at}
use Rattle.ground.specs.Choice.{pick, both, implies}
use Rattle.ground.proofs.Checked.{passes, ends}
use Rattle.memory.specs.Areas.{window_of}
use Rattle.sheet.specs.declared.Key.{Key}
use Rattle.sheet.specs.Setups.{Setup}
use Rattle.frames.specs.declared.Kind.{Kind}
use Rattle.frames.specs.declared.Kind.TheVariants.{Tam1, Tam2, Iam1, Iam2, Iam3, Mam1, Mam2, Unsupported}
use Rattle.frames.specs.Kinds.{kind_of}
use Rattle.frames.specs.Lengths.{length_fits}
use Rattle.frames.specs.Modes.{has_mac, in_mode}
use Rattle.frames.specs.Messages.{tam1_of, tam2_of, iam1_of, iam3_of, mam1_of}
use Rattle.frames.proofs.Range.{both_right}
use Rattle.tag.specs.States.{KeyedTag}
use Rattle.offer.specs.declared.TagFault.TheVariants.{NotSupported, OutOfTurn}
use Rattle.entry.specs.Sessions.{cleared}
use Rattle.tag.specs.States.{in_turn}
use Rattle.offer.specs.Checks.{judged}
use Rattle.keytable.specs.Named.{key_with}
use Rattle.offer.specs.Records.{offered, mode_offered, mode_served, mode_supported, slot_named, block_asked}
use Rattle.offer.specs.Judged.{lending_checks, opening_checks}
use Rattle.tam.specs.Judged.{tam2_checks}
use Rattle.entry.specs.Judged.{iam2_checks, iam3_checks, mam2_checks}
use Rattle.tag.specs.Answers.{
  Effect,
  Call,
  refused,
  replied,
  let_in,
  if_fine,
  tam1_answer,
  tam2_answer,
  iam1_answer,
  iam2_answer,
  iam3_answer,
  mam1_answer,
  mam2_answer,
  by_kind,
  in_order,
  of_message,
  of_lending,
  effect_of,
  answer_with,
}
use Rattle.offer.proofs.Lines.{first_holds, others_hold}
use Rattle.offer.proofs.Passed.{mode_named, lending_draws}
use Rattle.tam.proofs.Passed.{tam2_mode, tam2_inside}
use Rattle.offer.proofs.Bytes.{Ten}
use Rattle.tam.proofs.Tam2Asked.{tam1_challenge, tam2_challenge, tam2_custom_fits, words_bytes}
use Rattle.entry.proofs.Mam1Reply.{mam1_challenge}
use Rattle.reader.specs.declared.Keys.{Keys}
use Rattle.reader_judge.specs.Findings.{Finding, nothing_more, issues}
use Rattle.reader_judge.specs.Judged.{iam1_finding, empty_finding, judgement_of, by_kind as finding_of}
use Rattle.reader.specs.Own.{data_room, mode_served as reader_serves, mode_fits, fields_fit, own_fits}
use Rattle.reader_judge.proofs.Judging.{first_there, own_told}
use Rattle.claims.specs.Recovery.{Taken, keyid_used, Shares, Fit, due, Recovery}
use Rattle.claims.proofs.Opens.{tam1_found, mam1_found}
use Rattle.claims.proofs.Data.{tam2_found}
use Rattle.claims.proofs.Windows.{words_all}

-- a ProtMode that the tag supports with a record is one that the reader can judge with its keys
mode_own : (setup : Setup) (keys : Keys) (key : Key) (p : ℕ) → Shares keys key
    → mode_supported setup.features key p ≡ true → mode_fits keys p ≡ true
unfolding mode_fits reader_serves mode_served
mode_own setup keys key p s h =
    let m = mode_named setup.features key p h in
    ap (λ (x : Option ProtMode). in_mode x (reader_serves keys) false) m.named
    ∙ ap (implies (has_mac m.mode)) s.mac
    ∙ both_right (mode_offered setup.features m.mode) (implies (has_mac m.mode) key.mac) m.holds

iam1_found : (reply : List ℕ) → length reply ≡ 10 → iam1_finding reply ≡ issues reply
unfolding iam1_finding
iam1_found reply e = sym (passes _ _ _ _ (eq-eqb _ _ e) (ends _ _))

empty_found : empty_finding [] ≡ nothing_more
unfolding empty_finding
empty_found = sym (passes _ _ _ _ refl (ends _ _))

module _ (c : Call) (tag : KeyedTag) (keys : Keys) (room : ℕ) (fit : Fit c tag keys) (enough : data_room ≤ room) where
  -- what is claimed of what a message of kind k does
  abbrev Claim : Kind → Effect → Type 0
  Claim k a = Taken a.outcome
      → judgement_of keys c.message a.reply room ≡ due c tag (answer_with tag.setup a) k

  refusal : (k : Kind) (a : Effect) → (Taken a.outcome → ⊥) → Claim k a
  refusal k a h t = absurd (h t)

  fine : (k : Kind) (v : Result Unit TagFault) (a : Effect) → (v ≡ Ok tt → Claim k a) → Claim k (if_fine c v a)
  unfolding if_fine refused
  fine k (Ok tt) a h = h refl
  fine k (Err f) a h = refusal k (refused c f cleared) (λ t. t)

  picked : (k : Kind) (b : Bool) (x y : Effect) → Claim k x → Claim k y → Claim k (pick b x y)
  picked k true x y h g = h
  picked k false x y h g = g

  module _ (bench : judged (lending_checks tag.setup.sizes (length c.draws) c.room (length c.identity)
      (length c.user)) ≡ Ok tt) (some : length c.message ≡ 0 → ⊥) where
    ten : Ten c.draws
    ten = record {
      ten = lending_draws tag.setup.sizes (length c.draws) c.room (length c.identity)
          (length c.user) bench;
      bytes = fit.draws;
    }

    module _ (k : Kind) (e : k ≡ kind_of (byte_at c.message 0))
        (s : Shares keys (key_with (keyid_used tag c.message k) tag.setup.keys)) where
      judges : (reply : List ℕ) (found : Finding) → length_fits k c.message ≡ true
          → fields_fit keys k c.message ≡ true → finding_of keys c.message reply k ≡ found
          → judgement_of keys c.message reply room ≡ found
      unfolding own_fits
      judges reply found l h q = own_told keys c.message reply room _ k (first_there c.message some) e
          (ap₂ both (le-leb data_room room enough) (ap₂ both l h)) ∙ q

      opens_with : (rfu keyid : ℕ) (reply : List ℕ) (found : Finding) → fields_fit keys k c.message ≡ eqb rfu 0
          → finding_of keys c.message reply k ≡ found
          → judged (opening_checks k rfu keyid tag.setup.keys c.message) ≡ Ok tt
          → judgement_of keys c.message reply room ≡ found
      unfolding opening_checks
      opens_with rfu keyid reply found r q h = judges reply found (first_holds _ _ h)
          (r ∙ first_holds _ _ (others_hold _ _ h)) q

    -- ---- kind by kind

    abbrev Keyed : Kind → Type 0
    Keyed k = Shares keys (key_with (keyid_used tag c.message k) tag.setup.keys)

    tam1_claim : Tam1 ≡ kind_of (byte_at c.message 0) → Keyed Tam1 → Claim Tam1 (tam1_answer c tag.setup.keys)
    unfolding tam1_answer replied due finding_of fields_fit keyid_used
    tam1_claim e s =
        let f = tam1_of c.message in
        fine Tam1 _ _
        (λ h t. opens_with Tam1 e s f.rfu f.keyid _ nothing_more refl
        (tam1_found keys (key_with f.keyid tag.setup.keys) s.has.enc fit.enc c.draws ten f
        (tam1_challenge c.message fit.message)) h)

    iam1_claim : Iam1 ≡ kind_of (byte_at c.message 0) → Keyed Iam1 → Claim Iam1 (iam1_answer c tag.setup.keys)
    unfolding iam1_answer replied due finding_of fields_fit keyid_used
    iam1_claim e s =
        let f = iam1_of c.message in
        fine Iam1 _ _ (λ h t. opens_with Iam1 e s f.rfu f.keyid c.draws (issues c.draws) refl
        (iam1_found c.draws ten.ten) h)

    mam1_claim : Mam1 ≡ kind_of (byte_at c.message 0) → Keyed Mam1 → Claim Mam1 (mam1_answer c tag.setup.keys)
    unfolding mam1_answer replied due finding_of fields_fit keyid_used
    mam1_claim e s =
        let f = mam1_of c.message in
        fine Mam1 _ _
        (λ h t. opens_with Mam1 e s f.rfu f.keyid _ (issues c.draws) refl
        (mam1_found keys (key_with f.keyid tag.setup.keys) s.has.enc fit.enc c.draws ten f
        (mam1_challenge c.message fit.message)) h)

    iam2_claim : Iam2 ≡ kind_of (byte_at c.message 0) → Keyed Iam2
        → Claim Iam2 (iam2_answer c tag.setup.keys tag.session)
    unfolding iam2_answer iam2_checks let_in due finding_of fields_fit
    iam2_claim e s = fine Iam2 _ _ (λ h t. judges Iam2 e s [] nothing_more (first_holds _ _ h)
        (first_holds _ _ (others_hold _ _ h)) empty_found)

    mam2_claim : Mam2 ≡ kind_of (byte_at c.message 0) → Keyed Mam2
        → Claim Mam2 (mam2_answer c tag.setup.keys tag.session)
    unfolding mam2_answer mam2_checks let_in due finding_of fields_fit
    mam2_claim e s = fine Mam2 _ _ (λ h t. judges Mam2 e s [] nothing_more (first_holds _ _ h)
        (first_holds _ _ (others_hold _ _ h)) empty_found)

    iam3_claim : Iam3 ≡ kind_of (byte_at c.message 0) → Keyed Iam3
        → Claim Iam3 (iam3_answer c tag.setup tag.session)
    unfolding iam3_answer iam3_checks let_in due finding_of fields_fit keyid_used
    iam3_claim e s =
        fine Iam3 _ _
        (λ h t. judges Iam3 e s [] nothing_more (first_holds _ _ h)
        (ap₂ both (first_holds _ _ (others_hold _ _ (others_hold _ _ h)))
        (mode_own tag.setup keys (key_with tag.session.keyid tag.setup.keys) (iam3_of c.message).protmode s
        (first_holds _ _ (others_hold _ _ h)))) empty_found)

    module _ (h : judged (tam2_checks tag.setup c.message) ≡ Ok tt) (s : Keyed Tam2) where
      tam2_lengths : length_fits Tam2 c.message ≡ true
      unfolding tam2_checks
      tam2_lengths = first_holds _ _ h

      tam2_fields : fields_fit keys Tam2 c.message ≡ true
      unfolding tam2_checks fields_fit keyid_used
      tam2_fields =
          let f = tam2_of c.message in
          ap₂ both (first_holds _ _ (others_hold _ _ (others_hold _ _ (others_hold _ _ h))))
          (mode_own tag.setup keys (key_with f.keyid tag.setup.keys) f.protmode s
          (tam2_mode tag.setup c.message h))

      tam2_slot : (slot_named tag.setup.profiles (tam2_of c.message).custom.profile).present ≡ true
      unfolding tam2_checks
      tam2_slot = first_holds _ _ (others_hold _ _ (others_hold _ _
          (others_hold _ _ (others_hold _ _ (others_hold _ _ h)))))

    tam2_claim : Tam2 ≡ kind_of (byte_at c.message 0) → Keyed Tam2 → Claim Tam2 (tam2_answer c tag.setup)
    unfolding tam2_answer replied due finding_of keyid_used
    tam2_claim e s =
        let f = tam2_of c.message in
        let block = block_asked tag.setup.profiles f.custom in
        let words = window_of c.identity c.user block in
        let key = key_with f.keyid tag.setup.keys in
        fine Tam2 _ _
        (λ h t. let m = mode_named tag.setup.features key f.protmode (tam2_mode tag.setup c.message h) in
        judges Tam2 e s _ _ (tam2_lengths h s) (tam2_fields h s)
        (tam2_found keys key s fit.enc c.draws ten f m.mode
        (tam2_challenge c.message fit.message) (tam2_custom_fits c.message fit.message) words
        (words_all tag.setup c.identity c.user (length c.draws) c.room bench f.custom fit.setup
        (tam2_slot h s) (tam2_inside tag.setup c.message h))
        (words_bytes block c.identity c.user fit.identity fit.user) m.named))

    -- ---- every kind, in its order

    kinds : (k : Kind) → k ≡ kind_of (byte_at c.message 0) → Keyed k → Claim k (by_kind c tag.setup tag.session k)
    unfolding by_kind refused
    kinds Tam1 e s = tam1_claim e s
    kinds Tam2 e s = tam2_claim e s
    kinds Iam1 e s = iam1_claim e s
    kinds Iam2 e s = iam2_claim e s
    kinds Iam3 e s = iam3_claim e s
    kinds Mam1 e s = mam1_claim e s
    kinds Mam2 e s = mam2_claim e s
    kinds Unsupported e s = λ t. absurd t

    in_order_lem : (k : Kind) → k ≡ kind_of (byte_at c.message 0) → Keyed k
        → Claim k (in_order c tag.setup tag.session k)
    unfolding in_order refused
    in_order_lem k e s =
        picked k (offered tag.setup.features k) _ (refused c NotSupported cleared)
        (picked k (in_turn tag.session.state k) (by_kind c tag.setup tag.session k)
        (refused c OutOfTurn cleared) (kinds k e s) (λ t. absurd t)) (λ t. absurd t)

  abbrev kind : Kind
  kind = kind_of (byte_at c.message 0)

  module _ (s : Shares keys (key_with (keyid_used tag c.message kind) tag.setup.keys)) where
    of_message_lem : judged (lending_checks tag.setup.sizes (length c.draws) c.room (length c.identity)
        (length c.user)) ≡ Ok tt → (m : List ℕ) → c.message ≡ m
        → Claim kind (of_message c tag.setup tag.session m)
    unfolding of_message refused
    of_message_lem bench [] e = λ t. absurd t
    of_message_lem bench (x ∷ l) e =
        let first : kind ≡ kind_of x = ap (λ (m : List ℕ). kind_of (byte_at m 0)) e in
        let some : length c.message ≡ 0 → ⊥ = λ z. (let n = sym (ap length e) ∙ z in omega arith) in
        subst (λ (k : Kind). Claim kind (in_order c tag.setup tag.session k)) first
        (in_order_lem bench some kind refl s)

    of_bench : (v : Result Unit TagFault) → judged (lending_checks tag.setup.sizes (length c.draws) c.room
        (length c.identity) (length c.user)) ≡ v
        → Claim kind (of_lending c tag.setup tag.session v)
    unfolding refused
    of_bench (Ok tt) e = of_message_lem e c.message refl
    of_bench (Err f) e = λ t. absurd t

pub recovery : Recovery
unfolding effect_of
recovery c tag keys room fit s enough = of_bench c tag keys room fit enough s _ refl
