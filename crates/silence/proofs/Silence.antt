-- Demand 3, by induction over the messages: two tags that are alike stay alike.
use mathlib.Core.Path.{◌≡◌, refl, sym, ap, ◌∙◌, subst}
use mathlib.Core.Logic.{◌⊎◌, ⊎_elim, inl, inr}
use mathlib.Core.Bool.{Bool, true, false}
use mathlib.Core.List.{List, [], ◌∷◌}
use Prim.Native.Nat.{ℕ}
use lib.Dec.{eqb}
use borrow.Author.Tests.{eqb-true, eqb-false}
use Rattle.ground.specs.Choice.{either}
use Rattle.modes.specs.Room.{over}
use Rattle.sheet.specs.Setups.{Setup}
use Rattle.entry.specs.declared.Session.{Session}
use Rattle.entry.specs.Sessions.{cleared}
use Rattle.tag.specs.States.{holding, keyed, awake, powered_up}
use Rattle.tag.specs.Answers.{Answer, answer_of}
use Rattle.tag.specs.Runs.{Event, Message, PowerUp, call_of, answer_to, run}
use Rattle.tag.specs.Reactions.{stepped_of}
use Rattle.tag.specs.Plays.{Doing, Left, events_of, room_of, left_all}
use Rattle.tag.proofs.Played.{played}
use Rattle.silence.specs.Names.{named_by, named_in}
use Rattle.silence.specs.Silence.{
  SetupsAlike,
  Memory,
  MemoriesAlike,
  SameChange,
  SameAnswers,
  SameLefts,
  word_of,
  Silent,
  SilentCode,
  ChangeAlike,
}
use Rattle.silence.proofs.SilenceStores.{unchanged, one_after_another}
use Rattle.silence.proofs.SilenceWords.{still_alike}
use Rattle.silence.proofs.SilenceSteps.{HeldNamed, cleared_named, step_alike}

either_left : (b d : Bool) → b ≡ true → either b d ≡ true
either_left b d h = rw h refl

either_right : (b d : Bool) → d ≡ true → either b d ≡ true
either_right true d h = refl
either_right false d h = h

module _ (named : ℕ → Bool) (s t : Setup) (alike : SetupsAlike named s t) (x y : Memory)
    (mem : MemoriesAlike named s x y) where
  -- from any moment on
  silent_from : (es : List Event) → ((keyid : ℕ) → named_in es keyid ≡ true → named keyid ≡ true) → (held : Session)
      → HeldNamed named held
      → (i u j v : List ℕ) → SameChange x.identity y.identity i j → SameChange x.user y.user u v
      → SameAnswers x y (run (holding s held) i u es) (run (holding t held) j v es)
  unfolding SameAnswers run answer_to powered_up named_in
  silent_from [] all held h i u j v f g = tt
  silent_from (PowerUp ∷ es) all held h i u j v f g = (
    record { outcome = refl; reply = refl; session = refl; identity = f; user = g },
    silent_from es all cleared (cleared_named named) i u j v f g,
  )
  silent_from (Message sent ∷ es) all held h i u j v f g =
      let now = still_alike named s x y mem i j u v f g in
      let step = step_alike named s t alike (record { identity = i; user = u }) (record { identity = j; user = v }) now
      sent (λ k n. all k (either_left _ _ n)) held h in
      let a = answer_of (call_of sent i u) (holding s held) in
      let b = answer_of (call_of sent j v) (holding t held) in
      let f' = one_after_another x.identity y.identity i j a.identity b.identity f step.same.identity in
      let g' = one_after_another x.user y.user u v a.user b.user g step.same.user in (
        record {
          outcome = step.same.outcome;
          reply = step.same.reply;
          session = step.same.session;
          identity =
              f';
          user = g';
        },
        subst (λ (z : Session). SameAnswers x y (run (holding s a.tag.session) a.identity a.user es)
            (run (holding t z) b.identity b.user es)) step.same.session
            (silent_from es (λ k n. all k (either_right (named_by sent.message k) _ n)) a.tag.session
            step.holds a.identity a.user b.identity b.user f' g'),
      )

-- Demand 3.
pub silent : Silent
unfolding powered_up
silent es s t x y alike mem =
    silent_from (named_in es) s t alike x y mem es (λ k n. n) cleared (cleared_named (named_in es)) x.identity
    x.user y.identity y.user
    (unchanged x.identity y.identity) (unchanged x.user y.user)

-- ---- the code

lefts : (x y : Memory) (ds : List Doing) (as' bs' : List Answer) → SameAnswers x y as' bs'
    → SameLefts x y (left_all stepped_of ds as') (left_all stepped_of ds bs')
unfolding SameAnswers SameLefts left_all
lefts x y [] as' bs' h = tt
lefts x y (d ∷ ds) [] [] h = tt
lefts x y (d ∷ ds) [] (c ∷ cs) h = absurd h
lefts x y (d ∷ ds) (a ∷ more) [] h = absurd h
lefts x y (d ∷ ds) (a ∷ more) (c ∷ cs) (e, h) = (
  record {
    outcome = e.outcome;
    session = e.session;
    room =
        ap (λ (r : List ℕ). over r (room_of d)) e.reply;
    identity = e.identity;
    user = e.user;
  },
  lefts x y ds more cs h,
)

pub silent_code : SilentCode
unfolding powered_up
silent_code ds p q k l x y ls rs alike mem u v =
    let e = played ds ls k (awake p) x.identity x.user u in
    let f = played ds rs l (awake q) y.identity y.user v in
    let h = lefts x y ds _ _ (silent (events_of ds) _ _ x y alike mem) in
    let right = left_all stepped_of ds (run (keyed (awake q) l) y.identity y.user (events_of ds)) in
    subst (λ (z : List Left). SameLefts x y ls z) (sym f) (subst (λ (z : List Left). SameLefts x y z right) (sym e) h)

-- ---- from one moment to another

-- two words are the same or not
same_pair : (a b c d : ℕ) (p q : Bool) → eqb a c ≡ p → eqb b d ≡ q
    → (◌≡◌ {A = ℕ × ℕ} (a, b) (c, d)) ⊎ (◌≡◌ {A = ℕ × ℕ} (a, b) (c, d) → ⊥)
same_pair a b c d true true h k = inl (λ j. (eqb-true a c h j, eqb-true b d k j))
same_pair a b c d true false h k = inr (λ e. eqb-false b d k (λ j. (e j).1))
same_pair a b c d false q h k = inr (λ e. eqb-false a c h (λ j. (e j).0))

same_word : (s t : List ℕ) (w : ℕ) → (word_of s w ≡ word_of t w) ⊎ (word_of s w ≡ word_of t w → ⊥)
same_word s t w = same_pair (word_of s w).0 (word_of s w).1 (word_of t w).0 (word_of t w).1 _ _ refl refl

pub change_alike : ChangeAlike
change_alike s t m n k l f g w =
    ⊎_elim
    (λ e.
    let p = f.agreed w e in
    let q = g.agreed w e in
    (((λ z. sym p ∙ z ∙ q), (λ z. p ∙ z ∙ sym q)), (λ h. q)))
    (λ h.
    let p = f.differed w h in
    let q = g.differed w h in
    (((λ z. p.1 ∙ sym q.1), (λ z. p.0 ∙ sym q.0)), (λ z. absurd (z (p.0 ∙ sym q.0)))))
    (same_word s t w)
