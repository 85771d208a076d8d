-- Every refusal keeps everything: it sends nothing, changes no byte of either area and nothing of the setup, and leaves
-- the tag in Initial with nothing held (1 to 6) or as it was (7).
use Rattle.std.specs.Prelude.{Result, Ok, Err}
use mathlib.Core.Path.{◌≡◌, refl, sym, ap, ◌∙◌, subst}
use mathlib.Core.Bool.{Bool, true, false}
use mathlib.Core.List.{List, [], ◌∷◌}
use Prim.Native.Nat.{ℕ}
use native.Mathlib.Omega.{arith}
use Rattle.ground.specs.Choice.{pick}
use Rattle.sheet.specs.Setups.{Setup}
use Rattle.frames.specs.declared.Kind.{Kind}
use Rattle.frames.specs.declared.Kind.TheVariants.{Tam1, Tam2, Iam1, Iam2, Iam3, Mam1, Mam2, Unsupported}
use Rattle.frames.specs.Kinds.{kind_of}
use Rattle.offer.specs.declared.TagFault.{TagFault}
use Rattle.offer.specs.declared.TagFault.TheVariants.{OtherError, NotSupported, OutOfTurn}
use Rattle.entry.specs.declared.Session.{Session}
use Rattle.tag.specs.States.{KeyedTag, holding}
use Rattle.entry.specs.Sessions.{cleared}
use Rattle.tag.specs.States.{in_turn, session_after}
use Rattle.ground.specs.Checks.{Check, judged_to}
use Rattle.offer.specs.Checks.{judged}
use Rattle.offer.specs.Records.{offered}
use Rattle.offer.specs.Judged.{lending_checks, opening_checks}
use Rattle.tam.specs.Judged.{tam2_checks}
use Rattle.entry.specs.Judged.{iam2_checks, iam3_checks, mam2_checks}
use Rattle.tag.specs.Answers.{Answer, Effect, Call, refused, replied, let_in, if_fine, tam1_answer, tam2_answer}
use Rattle.tag.specs.Answers.{iam1_answer, iam2_answer, iam3_answer, mam1_answer, mam2_answer, by_kind, in_order}
use Rattle.tag.specs.Answers.{of_message, of_lending, effect_of, answer_with, answer_of}

-- Nothing was sent and no byte of an area changed; the tag is `t`.
pub record Unchanged (c : Call) (t : KeyedTag) (a : Answer) : Type 0 where
  pub silent : a.reply ≡ []
  pub identity : a.identity ≡ c.identity
  pub user : a.user ≡ c.user
  pub tag : a.tag ≡ t

-- ---- a line of checks refuses by one of its own numbers

module _ (P : TagFault → Type 0) where
  abbrev Each : List (Check TagFault) → Type 0
  Each [] = Unit
  Each (k ∷ ks) = P k.otherwise × Each ks

  after_fault : (b : Bool) (g f : TagFault) (v : Result Unit TagFault) → P g → (v ≡ Err f → P f)
      → pick b v (Err g) ≡ Err f → P f
  after_fault true g f v p h e = h e
  after_fault false g f v p h e = let q : g ≡ f = cc in subst (λ (x : TagFault). P x) q p

  fault_of : (ks : List (Check TagFault)) → Each ks → (f : TagFault) → judged ks ≡ Err f → P f
  unfolding judged_to
  fault_of [] h f e = let z : ◌≡◌ {A = ℕ} 0 1 = cc in absurd (omega arith)
  fault_of (k ∷ ks) (p, h) f e = after_fault k.holds k.otherwise f (judged ks) p (fault_of ks h f) e

-- ---- the refusals of a message

-- one that ends in Initial
abbrev ToInitial : TagFault → Type 0
ToInitial f = (held : Session) → session_after f held ≡ cleared

module _ (c : Call) (setup : Setup) where
  abbrev UnchangedInitial : Effect → Type 0
  UnchangedInitial e = (f : TagFault) → e.outcome ≡ Err f → Unchanged c (holding setup cleared)
      (answer_with setup e)
      × ToInitial f

  refusal_keeps : (g : TagFault) → ToInitial g → UnchangedInitial (refused c g cleared)
  unfolding refused
  refusal_keeps g h f e = (
    record { silent = refl; identity = refl; user = refl; tag = refl },
    (let q : g ≡ f = cc in
        subst (λ (x : TagFault). ToInitial x) q h),
  )

  reply_keeps : (reply : List ℕ) (s : Session) → UnchangedInitial (replied c reply s)
  unfolding replied
  reply_keeps reply s f e = let z : ◌≡◌ {A = ℕ} 0 1 = cc in absurd (omega arith)

  entry_keeps : (purpose : ℕ) (identity user : List ℕ) → UnchangedInitial (let_in c purpose identity user)
  unfolding let_in
  entry_keeps purpose identity user f e = let z : ◌≡◌ {A = ℕ} 0 1 = cc in absurd (omega arith)

  verdict_keeps : (v : Result Unit TagFault) (e : Effect) → ((f : TagFault) → v ≡ Err f → ToInitial f)
      → UnchangedInitial e → UnchangedInitial (if_fine c v e)
  unfolding if_fine
  verdict_keeps (Ok tt) e g k = k
  verdict_keeps (Err f) e g k = refusal_keeps f (g f refl)

  fine_keeps : (ks : List (Check TagFault)) (e : Effect) → Each ToInitial ks → UnchangedInitial e
      → UnchangedInitial (if_fine c (judged ks) e)
  fine_keeps ks e h k = verdict_keeps (judged ks) e (fault_of ToInitial ks h) k

  picked_keeps : (b : Bool) (x y : Effect) → UnchangedInitial x → UnchangedInitial y → UnchangedInitial (pick b x y)
  picked_keeps true x y hx hy = hx
  picked_keeps false x y hx hy = hy

  module _ (held : Session) where
    kind_keeps : (k : Kind) → UnchangedInitial (by_kind c setup held k)
    unfolding by_kind tam1_answer tam2_answer iam1_answer iam2_answer iam3_answer mam1_answer mam2_answer opening_checks
        tam2_checks iam2_checks iam3_checks mam2_checks
    kind_keeps Tam1 = fine_keeps _ _ ((λ h. refl), ((λ h. refl), ((λ h. refl), tt))) (reply_keeps _ _)
    kind_keeps Tam2 =
        fine_keeps _ _ (
          (λ h. refl),
          (
            (λ h. refl),
            ((λ h. refl), ((λ h. refl), ((λ h. refl), ((λ h. refl), ((λ h. refl), ((λ h. refl), ((λ h. refl), tt))))))),
          ),
        )
        (reply_keeps _ _)
    kind_keeps Iam1 = fine_keeps _ _ ((λ h. refl), ((λ h. refl), ((λ h. refl), tt))) (reply_keeps _ _)
    kind_keeps Iam2 = fine_keeps _ _ ((λ h. refl), ((λ h. refl), ((λ h. refl), tt))) (entry_keeps _ _ _)
    kind_keeps Iam3 =
        fine_keeps _ _ (
          (λ h. refl),
          ((λ h. refl), ((λ h. refl), ((λ h. refl), ((λ h. refl), ((λ h. refl), ((λ h. refl), ((λ h. refl), tt))))))),
        )
        (entry_keeps _ _ _)
    kind_keeps Mam1 = fine_keeps _ _ ((λ h. refl), ((λ h. refl), ((λ h. refl), tt))) (reply_keeps _ _)
    kind_keeps Mam2 = fine_keeps _ _ ((λ h. refl), ((λ h. refl), ((λ h. refl), tt))) (entry_keeps _ _ _)
    kind_keeps Unsupported = refusal_keeps NotSupported (λ h. refl)

    order_keeps : (k : Kind) → UnchangedInitial (in_order c setup held k)
    unfolding in_order
    order_keeps k =
        picked_keeps (offered setup.features k) _ (refused c NotSupported cleared)
        (picked_keeps (in_turn held.state k) (by_kind c setup held k) (refused c OutOfTurn cleared) (kind_keeps k)
        (refusal_keeps OutOfTurn (λ h. refl)))
        (refusal_keeps NotSupported (λ h. refl))

    message_keeps : (m : List ℕ) → UnchangedInitial (of_message c setup held m)
    unfolding of_message
    message_keeps [] = refusal_keeps OtherError (λ h. refl)
    message_keeps (b ∷ m) = order_keeps (kind_of b)

    bench_keeps : (v : Result Unit TagFault) → ((f : TagFault) → v ≡ Err f → session_after f held ≡ held)
        → (f : TagFault) → (of_lending c setup held v).outcome ≡ Err f
        → Unchanged c (holding setup (session_after f held)) (answer_with setup (of_lending c setup held v))
    unfolding refused
    bench_keeps (Ok tt) h f e =
        let k = message_keeps c.message f e in
        record {
          silent = k.0.silent;
          identity = k.0.identity;
          user = k.0.user;
          tag = k.0.tag ∙ ap (holding setup) (sym (k.1 held));
        }
    bench_keeps (Err g) h f e =
        let q : g ≡ f = cc in
        record {
          silent = refl;
          identity = refl;
          user = refl;
          tag = ap (holding setup) (sym (subst (λ (x : TagFault). session_after x held ≡ held) q (h g refl)));
        }

-- Every refusal keeps everything.
pub refusal_unchanged : (c : Call) (tag : KeyedTag) (f : TagFault) → (answer_of c tag).outcome ≡ Err f
    → Unchanged c (holding tag.setup (session_after f tag.session)) (answer_of c tag)
unfolding effect_of lending_checks
refusal_unchanged c tag f e =
    bench_keeps c tag.setup tag.session _
    (fault_of (λ x. session_after x tag.session ≡ tag.session) _ (refl, (refl, (refl, (refl, tt))))) f e
