-- An exchange of IAM or MAM is done after four turns: the opening is taken, its challenge is found, and a reader that
-- has the keys is let in.
use mathlib.Core.Path.{◌≡◌, refl, sym, ap, ◌∙◌, subst}
use mathlib.Core.Bool.{true, false}
use mathlib.Core.List.{List, []}
use Prim.Native.Nat.{ℕ, ◌+◌, ◌*◌, ◌≤◌}
use native.Mathlib.Omega.{arith}
use native.Mathlib.Nat.{le_refl}
use lib.ListN.{length, take, drop, replicate}
use Rattle.ground.specs.Bytes.{byte_at}
use Rattle.frames.specs.declared.Kind.{Kind}
use Rattle.frames.specs.declared.Kind.TheVariants.{Iam1, Iam2, Iam3, Mam1, Mam2}
use Rattle.frames.specs.Kinds.{kind_of, iam_kind, mam_kind}
use Rattle.frames.specs.Messages.{iam1_message, iam2_message, mam2_message}
use Rattle.frames.proofs.Shape.{mam1_shape}
use Rattle.reader_build.specs.Builds.{iam3_in_mode}
use Rattle.reader_build.specs.Builds.{iam3_whole}
use Rattle.frames.specs.Messages.{iam3_head}
use Rattle.frames.proofs.Range.{size_bit_lt}
use Rattle.frames.proofs.FirstByte.{iam3_kind}
use Rattle.frames.specs.Fields.{select_bytes}
use Rattle.frames.specs.Fields.{size_bit}
use Rattle.offer.proofs.Passed.{mode_named}
use Rattle.sheet.specs.declared.Key.{Key}
use Rattle.sheet.specs.Setups.{Setup}
use Rattle.keytable.specs.Named.{key_with}
use Rattle.offer.specs.Records.{mode_supported}
use Rattle.entry.specs.declared.Session.{Session}
use Rattle.entry.specs.declared.State.TheVariants.{IamInit, MamInit}
use Rattle.tag.specs.declared.Tag.{Tag}
use Rattle.tag.specs.Answers.{Answer, replied, let_in, answer_with}
use Rattle.tag.specs.States.{keyed, keyless}
use Rattle.reader_build.specs.Builds.{iam1_made, mam1_made, iam2_made, mam2_made, iam3_made}
use Rattle.reader_judge.specs.Findings.{Finding, nothing_more, issues}
use Rattle.reader_judge.specs.Judged.{judgement_of}
use Rattle.plan.specs.declared.Method.{Method}
use Rattle.turns.specs.Standings.{data_zeros, has_two, verdict_next}
use Rattle.plan.specs.Drafts.{opening, closing}
use Rattle.turns.specs.Turns.{Table, Setting}
use Rattle.claims.specs.Recovery.{Taken, due}
use Rattle.claims.proofs.Openings.{iam1_answered, mam1_answered}
use Rattle.claims.proofs.Entry.{iam2_enters, mam2_enters}
use Rattle.claims.proofs.EntryIam3.{iam3_enters}
use Rattle.claims.proofs.Recovery.{recovery}
use Rattle.exchange_claims.specs.Done.{opening_of, first_call, closing_of, second_call, with_session, held_after}
use Rattle.exchange_claims.specs.Done.{FittedTwice, DoneAfterFour, Iam2Done, MamDone, Iam3Done}
use Rattle.exchange_claims.proofs.TwoTurns.{start, answer}
use Rattle.exchange_claims.proofs.FourTurns.{second, after_three, after_four}

module _ (x : Setting) (limit : ℕ) (tag : Tag) (identity user : List ℕ) (opening-kind closing-kind : Kind)
    (held : Session) (h : FittedTwice opening-kind closing-kind x tag identity user held) (r : List ℕ)
    (e : answer x limit tag identity user
    ≡ answer_with (keyed tag x.keys).setup (replied (first_call x identity user) r held)) where
  abbrev challenge : List ℕ
  challenge = take 10 x.draws

  -- the challenge that the tag holds is found in its reply
  pub issued : kind_of (byte_at (opening_of x) 0) ≡ opening-kind
      → due (first_call x identity user) (keyed tag x.keys) (answer x limit tag identity user) opening-kind
      ≡ issues challenge
      → judgement_of x.plan.keys (opening_of x) r (length data_zeros) ≡ issues challenge
  unfolding replied
  issued k d =
      sym (ap (λ (z : Answer). judgement_of x.plan.keys (opening_of x) z.reply (length data_zeros)) e)
      ∙ recovery (first_call x identity user) (keyed tag x.keys) x.plan.keys (length data_zeros) h.opens.bytes
      h.opens.keys (le_refl 144) (subst Taken (sym (ap (λ (z : Answer). z.outcome) e)) tt)
      ∙ ap (due (first_call x identity user) (keyed tag x.keys) (answer x limit tag identity user)) k
      ∙ d

  module _ (purpose : ℕ) (i u : List ℕ)
      (lets : second x limit tag identity user r challenge held
      ≡ answer_with (keyed (with_session tag held) x.keys).setup
      (let_in (second_call x challenge identity user) purpose i u)) where
    pub accepted : kind_of (byte_at (closing_of x challenge) 0) ≡ closing-kind
        → due (second_call x challenge identity user) (keyed (with_session tag held) x.keys)
        (second x limit tag identity user r challenge held) closing-kind ≡ nothing_more
        → judgement_of x.plan.keys (closing_of x challenge) [] (length data_zeros) ≡ nothing_more
    unfolding let_in
    accepted k d =
        sym (ap (λ (z : Answer). judgement_of x.plan.keys (closing_of x challenge) z.reply (length data_zeros))
        lets)
        ∙ recovery (second_call x challenge identity user) (keyed (with_session tag held) x.keys) x.plan.keys
        (length data_zeros) h.bytes h.keys (le_refl 144)
        (subst Taken (sym (ap (λ (z : Answer). z.outcome) lets)) tt)
        ∙ ap (due (second_call x challenge identity user) (keyed (with_session tag held) x.keys)
        (second x limit tag identity user r challenge held)) k
        ∙ d

    pub done : 4 ≤ limit → has_two x.plan.method ≡ false → (opening x.plan x.plan.method).fit ≡ true
        → judgement_of x.plan.keys (opening_of x) r (length data_zeros) ≡ issues challenge
        → (closing x.plan x.words challenge x.plan.method).fit ≡ true
        → judgement_of x.plan.keys (closing_of x challenge) [] (length data_zeros) ≡ nothing_more
        → DoneAfterFour x (start x limit tag identity user) tag i u
    unfolding let_in verdict_next
    done enough four fit came fit' found = record {
      not_after_three = ap (λ (t : Table). t.standing.next)
          (after_three x limit tag identity user r challenge held purpose i u lets enough four fit e came fit');
      after_four = λ n.
          let p = after_four x limit tag identity user r challenge held purpose i u lets enough four fit e came fit' n
          in
          record {
            next = ap (λ (t : Table). t.standing.next) p
                ∙ ap (λ (g : Finding). verdict_next g.verdict) found;
            holds = ap (λ (t : Table). t.tag) p ∙ ap (λ (z : Answer). keyless z.tag) lets;
            identity_is = ap (λ (t : Table). t.identity) p;
            user_is = ap (λ (t : Table). t.user) p;
          };
    }

pub iam2_done : Iam2Done
unfolding opening closing has_two due replied iam1_made iam2_made iam1_message iam2_message kind_of iam_kind
iam2_done x limit tag identity user picks enough h irnd purpose =
    let p = x.plan in
    let held = held_after IamInit (replicate 4 0) x in
    let c = take 10 x.draws in
    let is : opening_of x ≡ iam1_made p.keyid = ap (λ (m : Method). (opening p m).message) picks in
    let is' : closing_of x c ≡ iam2_made p.keys p.purpose p.irnd c
    = ap (λ (m : Method). (closing p x.words c m).message) picks in
    let e = iam1_answered (first_call x identity user) (keyed tag x.keys) p.keyid h.opens.waits
    h.opens.there is in
    let lets = iam2_enters (second_call x c identity user) (keyed (with_session tag held) x.keys) p.keys
    p.purpose
    p.irnd h.waits h.knows h.drawn irnd purpose is' in
    done x limit tag identity user Iam1 Iam2 held h c e p.purpose identity user lets enough (ap has_two picks)
    (ap (λ (m : Method). (opening p m).fit) picks)
    (issued x limit tag identity user Iam1 Iam2 held h c e (ap (λ (l : List ℕ). kind_of (byte_at l 0)) is)
    (ap (λ (z : Answer). issues z.tag.session.tchallenge) e))
    (ap (λ (m : Method). (closing p x.words c m).fit) picks ∙ purpose)
    (accepted x limit tag identity user Iam1 Iam2 held h c e p.purpose identity user lets
    (ap (λ (l : List ℕ). kind_of (byte_at l 0)) is') refl)

pub mam_done : MamDone
unfolding opening closing has_two due replied mam1_made mam2_made mam2_message kind_of mam_kind
mam_done x limit tag identity user picks enough h ten purpose =
    let p = x.plan in
    let held = held_after MamInit (drop 6 p.ichallenge) x in
    let c = take 10 x.draws in
    let is : opening_of x ≡ mam1_made p.keyid p.ichallenge = ap (λ (m : Method). (opening p m).message) picks in
    let is' : closing_of x c ≡ mam2_made p.keys p.purpose p.ichallenge c
    = ap (λ (m : Method). (closing p x.words c m).message) picks in
    let e = mam1_answered (first_call x identity user) (keyed tag x.keys) p.keyid p.ichallenge h.opens.waits
    h.opens.there h.opens.ten is in
    let shape = mam1_shape (record { rfu = 0; keyid = p.keyid; ichallenge = p.ichallenge }) h.opens.ten
    (omega arith) in
    let lets = mam2_enters (second_call x c identity user) (keyed (with_session tag held) x.keys) p.keys
    p.purpose
    p.ichallenge h.waits h.knows h.drawn ten refl purpose is' in
    done x limit tag identity user Mam1 Mam2 held h _ e p.purpose identity user lets enough (ap has_two picks)
    (ap (λ (m : Method). (opening p m).fit) picks)
    (issued x limit tag identity user Mam1 Mam2 held h _ e (ap (λ (l : List ℕ). kind_of (byte_at l 0)) is ∙ shape.1)
    (ap (λ (z : Answer). issues z.tag.session.tchallenge) e))
    (ap (λ (m : Method). (closing p x.words c m).fit) picks ∙ purpose)
    (accepted x limit tag identity user Mam1 Mam2 held h _ e p.purpose identity user lets
    (ap (λ (l : List ℕ). kind_of (byte_at l 0)) is') refl)

-- the first byte of an IAM3, in the ProtMode that it says
iam3_begins : (x : Setting) (setup : Setup) (key : Key) (c : List ℕ)
    → mode_supported setup.features key x.plan.protmode ≡ true
    → kind_of (byte_at (iam3_made x.plan.keys x.plan.custom x.plan.protmode x.plan.purpose
    x.plan.irnd c
    x.words) 0) ≡ Iam3
unfolding iam3_made iam3_in_mode iam3_whole iam3_head select_bytes
iam3_begins x setup key c mode =
    let m = mode_named setup.features key x.plan.protmode mode in
    let b = size_bit_lt x.plan.custom.blocksize in
    rw m.named (iam3_kind (0x58 + size_bit x.plan.custom.blocksize * 4 + 0) (omega arith) (omega (arith, b)))

pub iam3_done : Iam3Done
unfolding opening closing has_two due replied iam1_made iam1_message kind_of iam_kind
iam3_done x limit tag identity user picks enough h irnd bytes fits may =
    let p = x.plan in
    let setup = (keyed tag x.keys).setup in
    let held = held_after IamInit (replicate 4 0) x in
    let c = take 10 x.draws in
    let is : opening_of x ≡ iam1_made p.keyid = ap (λ (m : Method). (opening p m).message) picks in
    let is' : closing_of x c ≡ iam3_made p.keys p.custom p.protmode p.purpose p.irnd c x.words
    = ap (λ (m : Method). (closing p x.words c m).message) picks in
    let e = iam1_answered (first_call x identity user) (keyed tag x.keys) p.keyid h.opens.waits
    h.opens.there is in
    let lets = iam3_enters (second_call x c identity user) (keyed (with_session tag held) x.keys) p.keys p.custom
    p.protmode p.purpose p.irnd x.words h.waits h.knows h.drawn irnd bytes fits may is' in
    done x limit tag identity user Iam1 Iam3 held h c e p.purpose _ _ lets enough (ap has_two picks)
    (ap (λ (m : Method). (opening p m).fit) picks)
    (issued x limit tag identity user Iam1 Iam3 held h c e (ap (λ (l : List ℕ). kind_of (byte_at l 0)) is)
    (ap (λ (z : Answer). issues z.tag.session.tchallenge) e))
    (ap (λ (m : Method). (closing p x.words c m).fit) picks ∙ fits)
    (accepted x limit tag identity user Iam1 Iam3 held h c e p.purpose _ _ lets
    (ap (λ (l : List ℕ). kind_of (byte_at l 0)) is'
    ∙ iam3_begins x setup (key_with p.keyid setup.keys) c may.mode) refl)
