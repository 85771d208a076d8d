-- A line of checks with the tag's refusals, Ok at its end: what ground says of any line. And what is settled by one.
use Rattle.std.specs.Prelude.{Result, Ok, Err}
use mathlib.Core.Path.{◌≡◌, refl, ap, ◌∙◌}
use mathlib.Core.Bool.{Bool, true, false}
use mathlib.Core.List.{List, [], ◌∷◌, ◌++◌}
use Rattle.ground.specs.Choice.{pick}
use Rattle.ground.specs.Checks.{Check, ◌else◌, judged_to}
use Rattle.ground.proofs.Checked as Checked
use Rattle.offer.specs.declared.TagFault.{TagFault}
use Rattle.offer.specs.Checks.{judged}
use Rattle.offer.specs.Outcomes.{settled}

module _ {b : Bool} (f : TagFault) (cs : List (Check TagFault)) where
  pub passes : b ≡ true → {v : Result Unit TagFault} → v ≡ judged cs → v ≡ judged ((b else f) ∷ cs)
  passes = Checked.passes Err (Ok tt) f cs

  pub fails : b ≡ false → Err f ≡ judged ((b else f) ∷ cs)
  fails = Checked.fails Err (Ok tt) f cs

pub ends : Ok tt ≡ judged []
ends = Checked.ends Err (Ok tt)

-- Where all hold, each holds.
never : (f : TagFault) → ◌≡◌ {A = Result Unit TagFault} (Err f) (Ok tt) → ⊥
never f h = cc

module _ (c : Check TagFault) (cs : List (Check TagFault)) where
  pub first_holds : judged (c ∷ cs) ≡ Ok tt → c.holds ≡ true
  first_holds = Checked.first_holds Err (Ok tt) (λ v. v ≡ Ok tt) never c cs

  pub others_hold : judged (c ∷ cs) ≡ Ok tt → judged cs ≡ Ok tt
  others_hold = Checked.others_hold Err (Ok tt) (λ v. v ≡ Ok tt) never c cs

-- What stands at the end of a line is given where the line is Ok.
module _ {A : Type 0} (end : Result A TagFault) where
  picked : (b : Bool) (f : TagFault) (v : Result Unit TagFault) {x : Result A TagFault} → x ≡ settled v end Err
      → pick b x (Err f) ≡ settled (pick b v (Err f)) end Err
  picked true f v h = h
  picked false f v h = refl

  pub settled_to : (cs : List (Check TagFault)) → judged_to Err cs end ≡ settled (judged cs) end Err
  unfolding judged_to
  settled_to [] = refl
  settled_to (c ∷ cs) = picked c.holds c.otherwise (judged cs) (settled_to cs)

-- Two lines, one after the other.
module _ (ys : List (Check TagFault)) where
  pub then_settled : (xs : List (Check TagFault)) → judged (xs ++ ys) ≡ settled (judged xs) (judged ys) Err
  then_settled xs = Checked.joined Err (Ok tt) xs ys ∙ settled_to (judged ys) xs

  pub then_fine : (xs : List (Check TagFault)) → judged xs ≡ Ok tt → judged (xs ++ ys) ≡ judged ys
  then_fine xs h = then_settled xs ∙ ap (λ (v : Result Unit TagFault). settled v (judged ys) Err) h

  pub then_wrong : (f : TagFault) (xs : List (Check TagFault)) → judged xs ≡ Err f → judged (xs ++ ys) ≡ Err f
  then_wrong f xs h = then_settled xs ∙ ap (λ (v : Result Unit TagFault). settled v (judged ys) Err) h
