-- Checks one after the other: the first that does not hold decides. This is how the clauses, and the scope paper's
-- "Order", are written.
use Rattle.std.specs.Prelude.{Bool, List, [], ◌∷◌}
use Rattle.ground.specs.Choice.{pick}

-- What must hold, and the refusal where it does not.
pub record Check (Fault : Type 0) : Type 0 where
  pub holds : Bool
  pub otherwise : Fault

infixl 20 ◌else◌
abbrev pub ◌else◌ : {Fault : Type 0} → Bool → Fault → Check Fault
b else f = record { holds = b; otherwise = f }

-- What a line of checks comes to: the refusal of the first that does not hold, or what stands at its end.
unfoldable pub judged_to : {Fault Verdict : Type 0} → (Fault → Verdict) → List (Check Fault) → Verdict → Verdict
judged_to refused [] end = end
judged_to refused (c ∷ cs) end = pick c.holds (judged_to refused cs end) (refused c.otherwise)
