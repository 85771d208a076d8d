-- The code's run is the definition's: over any sequence of calls, what is returned, every room and both areas are those
-- of the fold.
use mathlib.Core.Path.{◌≡◌, refl, ap, ◌∙◌, subst}
use mathlib.Core.List.{List, [], ◌∷◌}
use Prim.Native.Nat.{ℕ}
use Rattle.ground.specs.Clauses.{Says}
use Rattle.tag.specs.declared.Tag.{Tag}
use Rattle.tag.specs.States.{KeyedTag, keyed, keyless, awake, powered_up}
use Rattle.tag.specs.Answers.{Answer}
use Rattle.tag.specs.Reactions.{stepped_of}
use Rattle.tag.specs.Runs.{answer_to, run}
use Rattle.tag.specs.Plays.{Doing, Step, Wake, Left, OneByOne, event_of, events_of, left_of, left_all}
use Rattle.tag.specs.Plays.{Called, Does, Plays}
use Rattle.tag.proofs.power_up.Reads as power-up
use Rattle.tag.proofs.power_up.Kinds as power-up-kinds
use Rattle.tag.proofs.step.Reads as step
use Rattle.tag.proofs.step.Kinds as step-kinds

-- A call, as the run has it, is the contract that the checker reads from the source of `step`.
pub call_is_step : Says 6 step-kinds.ps step-kinds.r step.Post
    (λ κs a r e. Called a.1.0.now a.0 a.1.1.1.1.1.0.now a.1.1.1.1.1.1.0.now
    (record { message = a.1.1.0.now; draws = a.1.1.1.0.now; room = a.1.1.1.1.0.now })
    (record {
      stepped = r;
      room = e.1.1.1.1.0.now;
      identity = e.1.1.1.1.1.0.now;
      user = e.1.1.1.1.1.1.0.now;
    }))
call_is_step κs a r e = refl

-- A power-up, as the run has it, leaves the tag that the contract of `power_up` gives.
pub wake_is_power_up : Says 0 power-up-kinds.ps power-up-kinds.r power-up.Post (λ κs a r e. r ≡ awake a.0)
wake_is_power_up κs a r e = refl

module _ (keys identity user : List ℕ) (tag : Tag) where
  abbrev answer : Doing → Answer
  answer d = answer_to (keyed tag keys) identity user (event_of d)

  -- what one call leaves
  done : (d : Doing) (x : Left) → Does keys tag identity user d x → x ≡ left_of stepped_of d (answer d)
  unfolding answer_to powered_up
  done (Step b) x h =
      λ j. record {
        stepped = record { outcome = h.outcome j; tag = h.next j };
        room = h.reply j;
        identity = h.identity j;
        user = h.user j;
      }
  done Wake x h = h

  -- no call changes the key table: lent to the next one, it is that of the answer's tag
  lent_again : (d : Doing) → keyed (keyless (answer d).tag) keys ≡ (answer d).tag
  unfolding answer_to powered_up
  lent_again (Step b) = refl
  lent_again Wake = refl

-- what a run leaves
pub played : (ds : List Doing) (xs : List Left) (keys : List ℕ) (tag : Tag) (identity user : List ℕ)
    → Plays keys tag identity user ds xs
    → xs ≡ left_all stepped_of ds (run (keyed tag keys) identity user (events_of ds))
unfolding OneByOne left_all run events_of
played [] [] keys tag identity user h = refl
played [] (x ∷ xs) keys tag identity user h = absurd h
played (d ∷ ds) [] keys tag identity user h = absurd h
played (d ∷ ds) (x ∷ xs) keys tag identity user (h, hs) =
    let e = done keys identity user tag d x h in
    let k = subst (λ (y : Left). Plays keys y.stepped.tag y.identity y.user ds xs) e hs in
    let a = answer keys identity user tag d in
    let f = ap (λ (t : KeyedTag). left_all stepped_of ds (run t a.identity a.user (events_of ds)))
    (lent_again keys identity user tag d) in
    λ j. e j ∷ (played ds xs keys _ _ _ k ∙ f) j
