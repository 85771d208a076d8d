-- A line of checks: one that holds is passed over, the first that does not hold decides, and where all hold the end is
-- given.
use mathlib.Core.Path.{◌≡◌, refl, ap}
use mathlib.Core.Bool.{Bool, true, false}
use mathlib.Core.List.{List, [], ◌∷◌, ◌++◌}
use Rattle.ground.specs.Choice.{pick}
use Rattle.ground.specs.Checks.{Check, ◌else◌, judged_to}

module _ {Fault Verdict : Type 0} (refused : Fault → Verdict) (end : Verdict) where
  module _ {b : Bool} (f : Fault) (cs : List (Check Fault)) where
    pub passes : b ≡ true → {v : Verdict} → v ≡ judged_to refused cs end → v ≡ judged_to refused ((b else f) ∷ cs) end
    unfolding judged_to
    passes h e = rw h e

    pub fails : b ≡ false → refused f ≡ judged_to refused ((b else f) ∷ cs) end
    unfolding judged_to
    fails h = rw h refl

  pub ends : end ≡ judged_to refused [] end
  unfolding judged_to
  ends = refl

  -- Two lines are one behind the other.
  pub joined : (xs ys : List (Check Fault)) → judged_to refused (xs ++ ys) end ≡ judged_to refused xs
      (judged_to refused ys end)
  unfolding judged_to
  joined [] ys = refl
  joined (c ∷ xs) ys = ap (λ (v : Verdict). pick c.holds v (refused c.otherwise)) (joined xs ys)

  module _ (P : Verdict → Type 0) where
    chosen : {v w : Verdict} (b : Bool) → P v → P w → P (pick b v w)
    chosen true h k = h
    chosen false h k = k

    -- What holds of each refusal and of the end holds of what a line comes to.
    pub keeps : ((f : Fault) → P (refused f)) → P end → (cs : List (Check Fault)) → P (judged_to refused cs end)
    unfolding judged_to
    keeps r e [] = e
    keeps r e (c ∷ cs) = chosen c.holds (keeps r e cs) (r c.otherwise)

    -- Where a line comes to what no refusal is, each of its checks holds.
    module _ (never : (f : Fault) → P (refused f) → ⊥) (c : Check Fault) (cs : List (Check Fault)) where
      held : (b : Bool) → P (pick b (judged_to refused cs end) (refused c.otherwise)) → (b ≡ true)
          × P (judged_to refused cs end)
      held true h = (refl, h)
      held false h = absurd (never c.otherwise h)

      pub first_holds : P (judged_to refused (c ∷ cs) end) → c.holds ≡ true
      unfolding judged_to
      first_holds h = (held c.holds h).0

      pub others_hold : P (judged_to refused (c ∷ cs) end) → P (judged_to refused cs end)
      unfolding judged_to
      others_hold h = (held c.holds h).1
