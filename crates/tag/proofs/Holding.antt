-- While a challenge waits for its answer, a record has the KeyID that is held: from power-up on no key of zeros stands
-- in for one that is missing.
use mathlib.Core.Path.{◌≡◌, refl}
use mathlib.Core.Bool.{true}
use mathlib.Core.List.{List}
use Prim.Native.Nat.{ℕ}
use native.Mathlib.Omega.{arith}
use Rattle.frames.specs.declared.Kind.{Kind}
use Rattle.frames.specs.declared.Kind.TheVariants.{Tam1, Tam2, Iam1, Iam2, Iam3, Mam1, Mam2, Unsupported}
use Rattle.frames.specs.Kinds.{kind_of}
use Rattle.frames.specs.Messages.{iam1_of, mam1_of}
use Rattle.sheet.specs.declared.Key.{Key}
use Rattle.sheet.specs.Setups.{Setup}
use Rattle.offer.specs.declared.TagFault.{TagFault}
use Rattle.offer.specs.declared.TagFault.TheVariants.{NotSupported}
use Rattle.entry.specs.declared.Session.{Session}
use Rattle.entry.specs.declared.State.{State}
use Rattle.entry.specs.declared.State.TheVariants.{Initial, IamInit, MamInit, IaOk}
use Rattle.entry.specs.Sessions.{cleared, entered}
use Rattle.keytable.specs.Named.{has_key}
use Rattle.tag.specs.States.{KeyedTag, powered_up, key_fits}
use Rattle.tag.specs.Answers.{Effect, Call, refused, replied, let_in, tam1_answer, tam2_answer, iam1_answer}
use Rattle.tag.specs.Answers.{iam2_answer, iam3_answer, mam1_answer, mam2_answer, by_kind, answer_of}
use Rattle.tag.proofs.Cases.{fine_case, fine_known, effect_case}
use Rattle.offer.proofs.Passed.{opening_key}

pub record Holds (keys : List Key) (s : Session) : Type 0 where
  pub iam_init : s.state ≡ IamInit → has_key s.keyid keys ≡ true
  pub mam_init : s.state ≡ MamInit → has_key s.keyid keys ≡ true

-- the same as a test
pub holds_fits : (keys : List Key) (s : Session) → Holds keys s → key_fits keys s.state s.keyid ≡ true
unfolding key_fits
holds_fits keys s h = by_state s.state refl
  where
    by_state : (t : State) → s.state ≡ t → key_fits keys t s.keyid ≡ true
    by_state Initial e = refl
    by_state IamInit e = h.iam_init e
    by_state MamInit e = h.mam_init e
    by_state IaOk e = refl

module _ (setup : Setup) where
  cleared_holds : Holds setup.keys cleared
  unfolding cleared
  cleared_holds = record {
    iam_init = λ e. (let z : ◌≡◌ {A = ℕ} 0 1 = cc in absurd (omega arith));
    mam_init = λ e. (let z : ◌≡◌ {A = ℕ} 0 1 = cc in absurd (omega arith));
  }

  entered_holds : Holds setup.keys entered
  unfolding entered
  entered_holds = record {
    iam_init = λ e. (let z : ◌≡◌ {A = ℕ} 0 1 = cc in absurd (omega arith));
    mam_init = λ e. (let z : ◌≡◌ {A = ℕ} 0 1 = cc in absurd (omega arith));
  }

  pub powered_up_holds : Holds setup.keys (powered_up setup).session
  unfolding powered_up
  powered_up_holds = cleared_holds

  module _ (c : Call) where
    abbrev Of : Effect → Type 0
    Of e = Holds setup.keys e.session

    refused_holds : (f : TagFault) → Of (refused c f cleared)
    unfolding refused
    refused_holds f = cleared_holds

    kind_holds : (held : Session) (k : Kind) → Of (by_kind c setup held k)
    unfolding by_kind tam1_answer tam2_answer iam1_answer iam2_answer iam3_answer mam1_answer mam2_answer replied let_in
    kind_holds held Tam1 = fine_case c Of refused_holds _ _ cleared_holds
    kind_holds held Tam2 = fine_case c Of refused_holds _ _ cleared_holds
    kind_holds held Iam1 =
        fine_known c Of refused_holds _ _
        (λ v.
        (let f = iam1_of c.message in
        let k = opening_key Iam1 f.rfu f.keyid setup.keys c.message v in
        record { iam_init = λ e. k; mam_init = λ e. k }))
    kind_holds held Iam2 = fine_case c Of refused_holds _ _ entered_holds
    kind_holds held Iam3 = fine_case c Of refused_holds _ _ entered_holds
    kind_holds held Mam1 =
        fine_known c Of refused_holds _ _
        (λ v.
        (let f = mam1_of c.message in
        let k = opening_key Mam1 f.rfu f.keyid setup.keys c.message v in
        record { iam_init = λ e. k; mam_init = λ e. k }))
    kind_holds held Mam2 = fine_case c Of refused_holds _ _ entered_holds
    kind_holds held Unsupported = refused_holds NotSupported

-- a call keeps it so
pub answer_holds : (c : Call) (tag : KeyedTag) → Holds tag.setup.keys tag.session
    → Holds (answer_of c tag).tag.setup.keys (answer_of c tag).tag.session
unfolding refused
answer_holds c tag h =
    effect_case c (Of tag.setup c) (refused_holds tag.setup c) tag (λ f. h)
    (λ first rest e o t. kind_holds tag.setup c tag.session (kind_of first))
