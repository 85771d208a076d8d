-- A TAM exchange is done after two turns: the opening is taken, and the reader's side recovers what the tag put in.
use Rattle.std.specs.Prelude.{Ok}
use Rattle.offer.specs.declared.Answer.TheVariants.{Replied}
use mathlib.Core.Path.{◌≡◌, refl, sym, ap, ◌∙◌, subst}
use mathlib.Core.Bool.{true}
use mathlib.Core.List.{List}
use Prim.Native.Nat.{ℕ, ◌≤◌, ◌<◌}
use native.Mathlib.Omega.{arith}
use native.Mathlib.Nat.{le_refl}
use lib.ListN.{length}
use Rattle.ground.specs.Bytes.{byte_at}
use Rattle.ground.specs.Choice.{both}
use Rattle.modes.specs.Room.{over}
use Rattle.frames.specs.declared.Kind.{Kind}
use Rattle.frames.specs.declared.Kind.TheVariants.{Tam1, Tam2}
use Rattle.frames.specs.declared.Tam2.{Tam2 as Tam2Fields}
use Rattle.frames.specs.Kinds.{kind_of}
use Rattle.frames.specs.Messages.{tam2_of}
use Rattle.frames.proofs.ProtModes.{mode_below}
use Rattle.frames.proofs.Shape.{tam1_shape, tam2_shape}
use Rattle.frames.proofs.Taken.{tam2_taken}
use Rattle.memory.specs.Areas.{window_of}
use Rattle.keytable.specs.Named.{key_with}
use Rattle.offer.specs.Records.{block_asked}
use Rattle.offer.proofs.Passed.{mode_named}
use Rattle.entry.specs.Sessions.{cleared}
use Rattle.tag.specs.declared.Tag.{Tag}
use Rattle.tag.specs.Answers.{Answer, replied, answer_with}
use Rattle.tag.specs.States.{keyed, keyless}
use Rattle.reader_build.specs.Builds.{tam1_made, tam2_made}
use Rattle.reader_judge.specs.Findings.{Finding, carries}
use Rattle.plan.specs.declared.Method.{Method}
use Rattle.turns.specs.declared.Found.{Found}
use Rattle.turns.specs.Standings.{data_zeros, has_two, verdict_next}
use Rattle.plan.specs.Drafts.{opening}
use Rattle.turns.specs.Turns.{Table, Setting}
use Rattle.claims.specs.Recovery.{Taken, worth_asked, due}
use Rattle.claims.proofs.Openings.{tam1_answered_lem, tam2_answered}
use Rattle.claims.proofs.Recovery.{recovery}
use Rattle.exchange_claims.specs.Done.{opening_of, first_call, Fitted, DoneAfterTwo, Tam1Done, Tam2Done}
use Rattle.exchange_claims.proofs.TwoTurns.{start, answer, finding, after_one, after_two}

-- an opening that is answered by r, of which the reader's side finds f
module _ (x : Setting) (limit : ℕ) (tag : Tag) (identity user : List ℕ) (enough : 2 ≤ limit)
    (two : has_two x.plan.method ≡ true) (fit : (opening x.plan x.plan.method).fit ≡ true) (r : List ℕ)
    (e : answer x limit tag identity user
    ≡ answer_with (keyed tag x.keys).setup (replied (first_call x identity user) r cleared)) where
  pub taken : (answer x limit tag identity user).outcome
      ≡ Ok (Replied (length (answer x limit tag identity user).reply))
  unfolding replied
  taken = ap (λ (z : Answer). z.outcome) e ∙ sym (ap (λ (z : Answer). Ok (Replied (length z.reply))) e)

  pub done : (f : Finding) → f.verdict ≡ Ok tt → finding x limit tag identity user ≡ f
      → DoneAfterTwo x (start x limit tag identity user) tag identity user f.bytes f.worth
  unfolding replied verdict_next
  done f good found = record {
    not_after_one = ap (λ (t : Table). t.standing.next) (after_one x limit tag identity user enough two fit taken);
    after_two = λ n.
        let p = after_two x limit tag identity user enough two fit taken n in
        record {
          next = ap (λ (t : Table). t.standing.next) p
              ∙ ap (λ (g : Finding). verdict_next g.verdict) found
              ∙ ap verdict_next good;
          found = ap (λ (t : Table). t.standing.found) p
              ∙ ap (λ (g : Finding). found_of g) found;
          holds = ap (λ (t : Table). t.tag) p ∙ ap (λ (z : Answer). keyless z.tag) e;
          identity_kept = ap (λ (t : Table). t.identity) p ∙ ap (λ (z : Answer). z.identity) e;
          user_kept = ap (λ (t : Table). t.user) p ∙ ap (λ (z : Answer). z.user) e;
        };
  }
    where
      found_of : Finding → Found
      found_of g = record { bytes = over g.bytes data_zeros; count = length g.bytes; worth = g.worth }

  -- what is found is what is due
  pub recovered : (kind : Kind) → kind_of (byte_at (opening_of x) 0) ≡ kind → Fitted kind x tag identity user
      → finding x limit tag identity user
      ≡ due (first_call x identity user) (keyed tag x.keys) (answer x limit tag identity user) kind
  recovered kind k h =
      recovery (first_call x identity user) (keyed tag x.keys) x.plan.keys (length data_zeros) h.bytes h.keys
      (le_refl 144) (subst Taken (sym taken) tt)
      ∙ ap (due (first_call x identity user) (keyed tag x.keys) (answer x limit tag identity user)) k

pub tam1_done : Tam1Done
unfolding opening has_two due tam1_made
tam1_done x limit tag identity user picks enough h =
    let p = x.plan in
    let is : opening_of x ≡ tam1_made p.keyid p.ichallenge = ap (λ (m : Method). (opening p m).message) picks in
    let e = tam1_answered_lem (first_call x identity user) (keyed tag x.keys) p.keyid p.ichallenge h.waits
    h.there h.ten is in
    let shape = tam1_shape (record { rfu = 0; keyid = p.keyid; ichallenge = p.ichallenge }) h.ten (omega arith) in
    let two = ap has_two picks in
    let fit = ap (λ (m : Method). (opening p m).fit) picks in
    done x limit tag identity user enough two fit _ e _ refl
    (recovered x limit tag identity user enough two fit _ e Tam1
    (ap (λ (l : List ℕ). kind_of (byte_at l 0)) is ∙ shape.1) h)

pub tam2_done : Tam2Done
unfolding opening has_two due tam2_made
tam2_done x limit tag identity user picks enough h mode custom may =
    let p = x.plan in
    let is : opening_of x ≡ tam2_made p.keyid p.ichallenge p.rev p.custom p.protmode
    = ap (λ (m : Method). (opening p m).message) picks in
    let e = tam2_answered (first_call x identity user) (keyed tag x.keys) p.keyid p.ichallenge p.rev
    p.custom p.protmode h.waits h.there h.ten custom may is in
    let fields : Tam2Fields = record {
      rev = p.rev;
      rfu = 0;
      keyid = p.keyid;
      ichallenge = p.ichallenge;
      custom = p.custom;
      protmode = p.protmode;
    } in
    let shape = tam2_shape fields h.ten (omega arith) in
    let setup = (keyed tag x.keys).setup in
    let m = mode_named setup.features (key_with p.keyid setup.keys) p.protmode may.mode in
    let small : p.protmode < 16 = omega (arith, mode_below p.protmode m.mode m.named) in
    let back : tam2_of (opening_of x) ≡ fields = ap tam2_of is ∙ tam2_taken fields h.ten (omega arith) custom small in
    let two = ap has_two picks in
    let fit = ap (λ (m : Method). (opening p m).fit) picks ∙ (λ j. both (mode j) (custom j)) in
    done x limit tag identity user enough two fit _ e
    (carries (worth_asked p.protmode) (window_of identity user (block_asked setup.profiles p.custom))) refl
    (recovered x limit tag identity user enough two fit _ e Tam2
    (ap (λ (l : List ℕ). kind_of (byte_at l 0)) is ∙ shape.1) h
    ∙ ap (λ (g : Tam2Fields). carries (worth_asked g.protmode) (window_of identity user
    (block_asked setup.profiles g.custom))) back)
