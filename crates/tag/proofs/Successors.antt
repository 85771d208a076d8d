-- Annex A: a message that is accepted was in its turn, and each leads to the state that Table A.1 names. And what is
-- held there: nothing in Initial and in IA-OK.
use Rattle.std.specs.Prelude.{Err}
use Rattle.offer.specs.Outcomes.{Outcome}
use mathlib.Core.Path.{◌≡◌, refl, sym, ap, ◌∙◌}
use mathlib.Core.Bool.{Bool, true, false, false≢true}
use mathlib.Core.List.{List, [], ◌∷◌}
use Prim.Native.Nat.{ℕ}
use native.Mathlib.Omega.{arith}
use Rattle.frames.specs.declared.Kind.{Kind}
use Rattle.frames.specs.declared.Kind.TheVariants.{Tam1, Tam2, Iam1, Iam2, Iam3, Mam1, Mam2, Unsupported}
use Rattle.frames.specs.Kinds.{kind_of}
use Rattle.sheet.specs.Setups.{Setup}
use Rattle.entry.specs.declared.State.{State}
use Rattle.entry.specs.declared.State.TheVariants.{Initial, IamInit, MamInit, IaOk}
use Rattle.offer.specs.declared.TagFault.{TagFault}
use Rattle.offer.specs.declared.TagFault.TheVariants.{NotSupported}
use Rattle.entry.specs.declared.Session.{Session}
use Rattle.tag.specs.States.{KeyedTag}
use Rattle.entry.specs.Sessions.{cleared, entered}
use Rattle.tag.specs.States.{powered_up, at_rest, in_turn, table_a1}
use Rattle.tag.specs.Runs.{Event, Message, PowerUp, call_of, answer_to, run}
use Rattle.offer.specs.Records.{offered}
use Rattle.tag.specs.Answers.{Answer, Effect, Call, refused, replied, let_in, tam1_answer, tam2_answer, iam1_answer}
use Rattle.tag.specs.Answers.{iam2_answer, iam3_answer, mam1_answer, mam2_answer, by_kind, answer_with, answer_of}
use Rattle.tag.proofs.Cases.{fine_case, effect_case}

-- Table A.1, the last column.
abbrev next_state : Kind → State
next_state Tam1 = Initial
next_state Tam2 = Initial
next_state Iam1 = IamInit
next_state Iam2 = IaOk
next_state Iam3 = IaOk
next_state Mam1 = MamInit
next_state Mam2 = IaOk
next_state Unsupported = Initial

-- A message is in its turn exactly if Table A.1 has a row for it.
abbrev listed : List State → Bool
listed [] = false
listed (s ∷ ss) = true

pub turn_listed : (s : State) (k : Kind) → in_turn s k ≡ listed (table_a1 s k)
unfolding in_turn at_rest
turn_listed Initial Tam1 = refl
turn_listed IamInit Tam1 = refl
turn_listed MamInit Tam1 = refl
turn_listed IaOk Tam1 = refl
turn_listed Initial Tam2 = refl
turn_listed IamInit Tam2 = refl
turn_listed MamInit Tam2 = refl
turn_listed IaOk Tam2 = refl
turn_listed Initial Iam1 = refl
turn_listed IamInit Iam1 = refl
turn_listed MamInit Iam1 = refl
turn_listed IaOk Iam1 = refl
turn_listed Initial Iam2 = refl
turn_listed IamInit Iam2 = refl
turn_listed MamInit Iam2 = refl
turn_listed IaOk Iam2 = refl
turn_listed Initial Iam3 = refl
turn_listed IamInit Iam3 = refl
turn_listed MamInit Iam3 = refl
turn_listed IaOk Iam3 = refl
turn_listed Initial Mam1 = refl
turn_listed IamInit Mam1 = refl
turn_listed MamInit Mam1 = refl
turn_listed IaOk Mam1 = refl
turn_listed Initial Mam2 = refl
turn_listed IamInit Mam2 = refl
turn_listed MamInit Mam2 = refl
turn_listed IaOk Mam2 = refl
turn_listed Initial Unsupported = refl
turn_listed IamInit Unsupported = refl
turn_listed MamInit Unsupported = refl
turn_listed IaOk Unsupported = refl

row : (s : State) (k : Kind) → in_turn s k ≡ true → table_a1 s k ≡ next_state k ∷ []
unfolding in_turn at_rest
row Initial Tam1 e = refl
row IamInit Tam1 e = refl
row MamInit Tam1 e = refl
row IaOk Tam1 e = refl
row Initial Tam2 e = refl
row IamInit Tam2 e = refl
row MamInit Tam2 e = refl
row IaOk Tam2 e = refl
row Initial Iam1 e = refl
row IamInit Iam1 e = absurd (false≢true e)
row MamInit Iam1 e = absurd (false≢true e)
row IaOk Iam1 e = refl
row Initial Iam2 e = absurd (false≢true e)
row IamInit Iam2 e = refl
row MamInit Iam2 e = absurd (false≢true e)
row IaOk Iam2 e = absurd (false≢true e)
row Initial Iam3 e = absurd (false≢true e)
row IamInit Iam3 e = refl
row MamInit Iam3 e = absurd (false≢true e)
row IaOk Iam3 e = absurd (false≢true e)
row Initial Mam1 e = refl
row IamInit Mam1 e = absurd (false≢true e)
row MamInit Mam1 e = absurd (false≢true e)
row IaOk Mam1 e = refl
row Initial Mam2 e = absurd (false≢true e)
row IamInit Mam2 e = absurd (false≢true e)
row MamInit Mam2 e = refl
row IaOk Mam2 e = absurd (false≢true e)
row Initial Unsupported e = absurd (false≢true e)
row IamInit Unsupported e = absurd (false≢true e)
row MamInit Unsupported e = absurd (false≢true e)
row IaOk Unsupported e = absurd (false≢true e)

abbrev pub Accepted : Outcome → Type 0
Accepted o = (f : TagFault) → o ≡ Err f → ⊥

-- What is known of an accepted message: the tag offers it, and Table A.1 has a row for it, whose next state is the
-- tag's.
pub record Successor (c : Call) (tag : KeyedTag) (a : Answer) : Type 0 where
  pub first : ℕ
  pub rest : List ℕ
  pub message : c.message ≡ first ∷ rest
  pub offer : offered tag.setup.features (kind_of first) ≡ true
  pub row : table_a1 tag.session.state (kind_of first) ≡ a.tag.session.state ∷ []

module _ (c : Call) where
  refusal_not : (P : Effect → Type 0) (f : TagFault) (s : Session) → Accepted (refused c f s).outcome
      → P (refused c f s)
  unfolding refused
  refusal_not P f s h = absurd (h f refl)

  abbrev In : Kind → Effect → Type 0
  In k e = e.session.state ≡ next_state k

  abbrev Leads : Kind → Effect → Type 0
  Leads k e = Accepted e.outcome → In k e

  kind_leads : (setup : Setup) (held : Session) (k : Kind) → Leads k (by_kind c setup held k)
  unfolding by_kind tam1_answer tam2_answer iam1_answer iam2_answer iam3_answer mam1_answer mam2_answer replied let_in
      cleared entered
  kind_leads setup held Tam1 = fine_case c (Leads Tam1) (λ f. refusal_not (In Tam1) f cleared) _ _ (λ h. refl)
  kind_leads setup held Tam2 = fine_case c (Leads Tam2) (λ f. refusal_not (In Tam2) f cleared) _ _ (λ h. refl)
  kind_leads setup held Iam1 = fine_case c (Leads Iam1) (λ f. refusal_not (In Iam1) f cleared) _ _ (λ h. refl)
  kind_leads setup held Iam2 = fine_case c (Leads Iam2) (λ f. refusal_not (In Iam2) f cleared) _ _ (λ h. refl)
  kind_leads setup held Iam3 = fine_case c (Leads Iam3) (λ f. refusal_not (In Iam3) f cleared) _ _ (λ h. refl)
  kind_leads setup held Mam1 = fine_case c (Leads Mam1) (λ f. refusal_not (In Mam1) f cleared) _ _ (λ h. refl)
  kind_leads setup held Mam2 = fine_case c (Leads Mam2) (λ f. refusal_not (In Mam2) f cleared) _ _ (λ h. refl)
  kind_leads setup held Unsupported = refusal_not (In Unsupported) NotSupported cleared

  abbrev Follows : KeyedTag → Effect → Type 0
  Follows tag e = Successor c tag (answer_with tag.setup e)

  pub successor : (tag : KeyedTag) → Accepted (answer_of c tag).outcome → Successor c tag (answer_of c tag)
  successor tag =
      effect_case c (λ e. Accepted e.outcome → Follows tag e) (λ f. refusal_not (Follows tag) f cleared) tag
      (λ f. refusal_not (Follows tag) f tag.session)
      (λ first rest e o t h. record {
        first = first;
        rest = rest;
        message = e;
        offer = o;
        row =
            row tag.session.state (kind_of first) t
            ∙ ap (λ (x : State). x ∷ []) (sym (kind_leads tag.setup tag.session (kind_of first) h));
      })

-- ---- what is held

-- In Initial and in IA-OK nothing is held: so any two tags in Initial with the same setup are equal.
pub record Rested (s : Session) : Type 0 where
  pub initial : s.state ≡ Initial → s ≡ cleared
  pub ia_ok : s.state ≡ IaOk → s ≡ entered

cleared_rests : Rested cleared
unfolding cleared
cleared_rests = record { initial = λ e. refl; ia_ok = λ e. (let z : ◌≡◌ {A = ℕ} 0 1 = cc in absurd (omega arith)) }

entered_rests : Rested entered
unfolding entered
entered_rests = record { initial = λ e. (let z : ◌≡◌ {A = ℕ} 0 1 = cc in absurd (omega arith)); ia_ok = λ e. refl }

waiting_rests : (s : Session) → (s.state ≡ Initial → ⊥) → (s.state ≡ IaOk → ⊥) → Rested s
waiting_rests s h k = record { initial = λ e. absurd (h e); ia_ok = λ e. absurd (k e) }

pub powered_up_rests : (setup : Setup) → Rested (powered_up setup).session
unfolding powered_up
powered_up_rests setup = cleared_rests

module _ (c : Call) where
  refused_rests : (f : TagFault) → Rested (refused c f cleared).session
  unfolding refused
  refused_rests f = cleared_rests

  kind_rests : (setup : Setup) (held : Session) (k : Kind) → Rested (by_kind c setup held k).session
  unfolding by_kind tam1_answer tam2_answer iam1_answer iam2_answer iam3_answer mam1_answer mam2_answer replied let_in
  kind_rests setup held Tam1 = fine_case c (λ e. Rested e.session) (λ f. refused_rests f) _ _ cleared_rests
  kind_rests setup held Tam2 = fine_case c (λ e. Rested e.session) (λ f. refused_rests f) _ _ cleared_rests
  kind_rests setup held Iam1 =
      fine_case c (λ e. Rested e.session) (λ f. refused_rests f) _ _
      (waiting_rests _ (λ e. (let z : ◌≡◌ {A = ℕ} 0 1 = cc in omega arith))
      (λ e. (let z : ◌≡◌ {A = ℕ} 0 1 = cc in omega arith)))
  kind_rests setup held Iam2 = fine_case c (λ e. Rested e.session) (λ f. refused_rests f) _ _ entered_rests
  kind_rests setup held Iam3 = fine_case c (λ e. Rested e.session) (λ f. refused_rests f) _ _ entered_rests
  kind_rests setup held Mam1 =
      fine_case c (λ e. Rested e.session) (λ f. refused_rests f) _ _
      (waiting_rests _ (λ e. (let z : ◌≡◌ {A = ℕ} 0 1 = cc in omega arith))
      (λ e. (let z : ◌≡◌ {A = ℕ} 0 1 = cc in omega arith)))
  kind_rests setup held Mam2 = fine_case c (λ e. Rested e.session) (λ f. refused_rests f) _ _ entered_rests
  kind_rests setup held Unsupported = refused_rests NotSupported

  -- a call keeps it so
  pub answer_rests : (tag : KeyedTag) → Rested tag.session → Rested (answer_of c tag).tag.session
  unfolding refused
  answer_rests tag h =
      effect_case c (λ e. Rested e.session) (λ f. cleared_rests) tag (λ f. h)
      (λ first rest e o t. kind_rests tag.setup tag.session (kind_of first))

-- Any two tags in Initial with the same setup are equal, and so in IA-OK.
pub initial_equal : (s t : Session) → Rested s → Rested t → s.state ≡ Initial → t.state ≡ Initial → s ≡ t
initial_equal s t a b e f = a.initial e ∙ sym (b.initial f)

-- From power-up on: every session of a run.
unfoldable pub AllRested : List Answer → Type 0
AllRested [] = Unit
AllRested (a ∷ answers) = Rested a.tag.session × AllRested answers

pub run_rests : (es : List Event) (tag : KeyedTag) (identity user : List ℕ) → Rested tag.session
    → AllRested (run tag identity user es)
unfolding run answer_to AllRested
run_rests [] tag identity user h = tt
run_rests (Message s ∷ es) tag identity user h =
    let k = answer_rests (call_of s identity user) tag h in
    (k, run_rests es (answer_of (call_of s identity user) tag).tag _ _ k)
run_rests (PowerUp ∷ es) tag identity user h =
    let k = powered_up_rests tag.setup in
    (k, run_rests es (powered_up tag.setup) identity user k)
