-- From what a kind comes to, to what a message and a call come to.
use Rattle.std.specs.Prelude.{Result, Ok, Err}
use mathlib.Core.Path.{◌≡◌, refl, sym, ap, ◌∙◌, subst}
use mathlib.Core.Bool.{Bool, true, false}
use mathlib.Core.List.{List, [], ◌∷◌}
use Prim.Native.Nat.{ℕ}
use native.Mathlib.Omega.{arith}
use lib.ListN.{length}
use Rattle.ground.specs.Choice.{pick}
use Rattle.sheet.specs.Setups.{Setup, setup_of}
use Rattle.frames.specs.declared.Kind.{Kind}
use Rattle.frames.specs.declared.Kind.TheVariants.{Tam1, Tam2, Iam1, Iam2, Iam3, Mam1, Mam2, Unsupported}
use Rattle.frames.specs.Kinds.{kind_of}
use Rattle.offer.specs.declared.TagFault.{TagFault}
use Rattle.offer.specs.declared.TagFault.TheVariants.{NotSupported, OutOfTurn}
use Rattle.entry.specs.declared.Reacted.{Reacted}
use Rattle.entry.specs.declared.Session.{Session}
use Rattle.tag.specs.declared.Tag.{Tag}
use Rattle.tag.specs.States.{keyed}
use Rattle.entry.specs.Sessions.{cleared}
use Rattle.tag.specs.States.{in_turn, kind_taken}
use Rattle.offer.specs.Outcomes.{number_given}
use Rattle.offer.specs.Checks.{judged}
use Rattle.offer.specs.Records.{offered}
use Rattle.offer.specs.Judged.{lending_checks}
use Rattle.tag.specs.Answers.{Effect, Call, refused, tam1_answer, tam2_answer, iam1_answer, iam2_answer, iam3_answer}
use Rattle.tag.specs.Answers.{mam1_answer, mam2_answer, by_kind, in_order, of_message, of_lending, effect_of}
use Rattle.tag.specs.Answers.{answer_with, answer_of}
use Rattle.entry.specs.Given.{LetsIn, Writes, iam2_checked, iam2_purpose, iam3_checked, iam3_purpose, iam3_stored}
use Rattle.entry.specs.Given.{mam2_checked, mam2_purpose}
use Rattle.entry.proofs.Giving.{Turned}
use Rattle.tag.specs.Reactions.{lent, Reacts, ReactsIn, Steps}
use Rattle.tag.proofs.Areas.{kind_still}
use Rattle.tag.proofs.Reacting.{in_refused, reacts_let_in, in_written}

module _ (c : Call) (setup : Setup) (held : Session) (room : List ℕ) (r : Reacted) where
  -- what the answer to a kind leaves, with both areas
  abbrev pub OfKind : Kind → List ℕ → Type 0
  OfKind k after = ReactsIn (by_kind c setup held k) room r after c.identity c.user

  -- a kind that is no IAM3 keeps both areas
  apart : (k l : Kind) (after : List ℕ) → (l ≡ Iam3 → ⊥) → k ≡ l → Reacts (by_kind c setup held l) room r after
      → OfKind k after
  apart k l after n e h =
      let s = kind_still c setup held l n in
      subst (λ (x : Kind). OfKind x after) (sym e)
      (record { reacts = h; identity = sym s.identity; user = sym s.user })

  module _ (k : Kind) (after : List ℕ) where
    pub is_tam1 : k ≡ Tam1 → Reacts (tam1_answer c setup.keys) room r after → OfKind k after
    unfolding by_kind
    is_tam1 = apart k Tam1 after (λ e. (let z : ◌≡◌ {A = ℕ} 0 1 = cc in omega arith))

    pub is_tam2 : k ≡ Tam2 → Reacts (tam2_answer c setup) room r after → OfKind k after
    unfolding by_kind
    is_tam2 = apart k Tam2 after (λ e. (let z : ◌≡◌ {A = ℕ} 0 1 = cc in omega arith))

    pub is_iam1 : k ≡ Iam1 → Reacts (iam1_answer c setup.keys) room r after → OfKind k after
    unfolding by_kind
    is_iam1 = apart k Iam1 after (λ e. (let z : ◌≡◌ {A = ℕ} 0 1 = cc in omega arith))

    pub is_iam2 : k ≡ Iam2 → LetsIn (iam2_checked setup.keys held c.message)
        (iam2_purpose setup.keys held c.message) r
        → OfKind k room
    unfolding by_kind iam2_answer
    is_iam2 e h =
        apart k Iam2 room (λ x. (let z : ◌≡◌ {A = ℕ} 0 1 = cc in omega arith)) e (reacts_let_in c room r _ _ h)

    pub is_mam1 : k ≡ Mam1 → Reacts (mam1_answer c setup.keys) room r after → OfKind k after
    unfolding by_kind
    is_mam1 = apart k Mam1 after (λ e. (let z : ◌≡◌ {A = ℕ} 0 1 = cc in omega arith))

    pub is_mam2 : k ≡ Mam2 → LetsIn (mam2_checked setup.keys held c.message)
        (mam2_purpose setup.keys held c.message) r
        → OfKind k room
    unfolding by_kind mam2_answer
    is_mam2 e h =
        apart k Mam2 room (λ x. (let z : ◌≡◌ {A = ℕ} 0 1 = cc in omega arith)) e (reacts_let_in c room r _ _ h)

    pub is_iam3 : (i u : List ℕ) → k ≡ Iam3
        → Writes (iam3_checked setup held c.message) (iam3_purpose setup held c.message)
        (iam3_stored setup held c.message) c.identity c.user r i u
        → ReactsIn (by_kind c setup held k) room r room i u
    unfolding by_kind iam3_answer
    is_iam3 i u e h =
        subst (λ (x : Kind). ReactsIn (by_kind c setup held x) room r room i u) (sym e)
        (in_written c room r _ _ (iam3_stored setup held c.message) i u h)

  pub is_none : (k : Kind) → k ≡ Unsupported → Turned r NotSupported → OfKind k room
  unfolding by_kind
  is_none k e t = subst (λ (x : Kind). OfKind x room) (sym e) (in_refused c room r NotSupported t)

  -- there, offered, and in its turn
  abbrev of_taken : Result Kind TagFault → Effect
  of_taken (Ok k) = by_kind c setup held k
  of_taken (Err f) = refused c f cleared

  chosen : (b d : Bool) (k : Kind) → pick b (pick d (by_kind c setup held k) (refused c OutOfTurn cleared))
      (refused c NotSupported cleared) ≡ of_taken (pick b (pick d (Ok k) (Err OutOfTurn)) (Err NotSupported))
  chosen true true k = refl
  chosen true false k = refl
  chosen false d k = refl

  taken : (m : List ℕ) → of_message c setup held m ≡ of_taken (kind_taken setup.features held.state m)
  unfolding of_message in_order kind_taken
  taken [] = refl
  taken (x ∷ m) = chosen (offered setup.features (kind_of x)) (in_turn held.state (kind_of x)) (kind_of x)

  pub some_taken : (m : List ℕ) (k : Kind) (after i u : List ℕ) → kind_taken setup.features held.state m ≡ Ok k
      → ReactsIn (by_kind c setup held k) room r after i u → ReactsIn (of_message c setup held m) room r after i u
  some_taken m k after i u e =
      subst (λ (x : Effect). ReactsIn x room r after i u) (sym (taken m ∙ ap of_taken e))

  pub none_taken : (m : List ℕ) (f : TagFault) → kind_taken setup.features held.state m ≡ Err f → Turned r f
      → ReactsIn (of_message c setup held m) room r room c.identity c.user
  none_taken m f e t =
      subst (λ (x : Effect). ReactsIn x room r room c.identity c.user) (sym (taken m ∙ ap of_taken e))
      (in_refused c room r f t)

-- The whole call.
module _ (tag : Tag) (keys m draws room i u : List ℕ) (v : Result Unit TagFault)
    (w : v ≡ judged (lending_checks tag.terms.sizes (length draws) (length room) (length i) (length u))) where
  abbrev call : Call
  call = lent m draws room i u

  abbrev setup : Setup
  setup = setup_of tag.terms keys

  pub bench_wrong : (f : TagFault) → v ≡ Err f
      → Steps (answer_of call (keyed tag keys)) room (record { outcome = Err f; tag = tag }) room i u
  unfolding effect_of refused
  bench_wrong f x =
      subst (λ (y : Result Unit TagFault). Steps (answer_with setup (of_lending call setup tag.session y)) room
      (record { outcome = Err f; tag = tag }) room i u) (sym x ∙ w)
      (record { outcome = refl; number = refl; next = refl; reply = refl; identity = refl; user = refl })

  pub bench_fine : (q : Reacted) (d after i' u' : List ℕ) → v ≡ Ok tt → d ≡ draws
      → ReactsIn (of_message (lent m d room i u) setup tag.session m) room q after i' u'
      → Steps (answer_of call (keyed tag keys)) room
      (record { outcome = q.outcome; tag = record { terms = tag.terms; session = q.session } }) after i' u'
  unfolding effect_of
  bench_fine q d after i' u' x e h =
      let k = subst (λ (l : List ℕ). ReactsIn (of_message (lent m l room i u) setup tag.session m) room q after
      i' u') e h in
      subst (λ (y : Result Unit TagFault). Steps (answer_with setup (of_lending call setup tag.session y)) room
      (record { outcome = q.outcome; tag = record { terms = tag.terms; session = q.session } }) after i' u')
      (sym x ∙ w)
      (record {
        outcome = k.reacts.outcome;
        number = ap number_given k.reacts.outcome;
        next = λ j. record { terms = tag.terms; session = k.reacts.session j };
        reply = k.reacts.reply;
        identity = k.identity;
        user = k.user;
      })
