-- What holds of every refusal, and of what each kind of message comes to where it is offered and in its turn, holds of
-- what any message does.
use Rattle.std.specs.Prelude.{Result, Ok, Err}
use mathlib.Core.Path.{◌≡◌, refl}
use mathlib.Core.Bool.{Bool, true, false}
use mathlib.Core.List.{List, [], ◌∷◌}
use Prim.Native.Nat.{ℕ}
use lib.ListN.{length}
use Rattle.ground.specs.Choice.{pick}
use Rattle.frames.specs.Kinds.{kind_of}
use Rattle.offer.specs.declared.TagFault.{TagFault}
use Rattle.offer.specs.declared.TagFault.TheVariants.{OtherError, NotSupported, OutOfTurn}
use Rattle.tag.specs.States.{KeyedTag}
use Rattle.entry.specs.Sessions.{cleared}
use Rattle.tag.specs.States.{in_turn}
use Rattle.offer.specs.Checks.{judged}
use Rattle.offer.specs.Records.{offered}
use Rattle.offer.specs.Judged.{lending_checks}
use Rattle.tag.specs.Answers.{Effect, Call, refused, if_fine, by_kind, in_order, of_message, of_lending, effect_of}

module _ (c : Call) (P : Effect → Type 0) (initial : (f : TagFault) → P (refused c f cleared)) where
  pub fine_case : (v : Result Unit TagFault) (e : Effect) → P e → P (if_fine c v e)
  unfolding if_fine
  fine_case (Ok tt) e h = h
  fine_case (Err f) e h = initial f

  pub fine_known : (v : Result Unit TagFault) (e : Effect) → (v ≡ Ok tt → P e) → P (if_fine c v e)
  unfolding if_fine
  fine_known (Ok tt) e h = h refl
  fine_known (Err f) e h = initial f

  picked : (b : Bool) (x y : Effect) → (b ≡ true → P x) → P y → P (pick b x y)
  picked true x y h k = h refl
  picked false x y h k = k

  module _ (tag : KeyedTag) (as_it_was : (f : TagFault) → P (refused c f tag.session))
      (kinds : (first : ℕ) (rest : List ℕ)
      → c.message ≡ first ∷ rest → offered tag.setup.features (kind_of first) ≡ true
      → in_turn tag.session.state (kind_of first) ≡ true → P (by_kind c tag.setup tag.session (kind_of first)))
    where
      of_message_lem : (m : List ℕ) → c.message ≡ m → P (of_message c tag.setup tag.session m)
      unfolding of_message in_order
      of_message_lem [] e = initial OtherError
      of_message_lem (first ∷ rest) e =
          picked (offered tag.setup.features (kind_of first)) _ (refused c NotSupported cleared)
          (λ o.
          picked (in_turn tag.session.state (kind_of first)) (by_kind c tag.setup tag.session (kind_of first))
          (refused c OutOfTurn cleared) (λ t. kinds first rest e o t) (initial OutOfTurn))
          (initial NotSupported)

      of_bench : (v : Result Unit TagFault) → P (of_lending c tag.setup tag.session v)
      of_bench (Ok tt) = of_message_lem c.message refl
      of_bench (Err f) = as_it_was f

      pub effect_case : P (effect_of c tag)
      unfolding effect_of
      effect_case =
          of_bench (judged
          (lending_checks tag.setup.sizes (length c.draws) c.room (length c.identity) (length c.user)))
