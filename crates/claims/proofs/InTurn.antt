-- A message that the tag offers and waits for comes to what its kind comes to.
use mathlib.Core.Path.{◌≡◌, ap, ap₂, ◌∙◌}
use mathlib.Core.Bool.{Bool}
use mathlib.Core.List.{List, [], ◌∷◌}
use Prim.Native.Nat.{ℕ, ◌≤◌}
use native.Mathlib.Omega.{arith}
use lib.ListN.{length}
use Rattle.ground.specs.Bytes.{byte_at}
use Rattle.ground.specs.Choice.{pick}
use Rattle.frames.specs.declared.Kind.{Kind}
use Rattle.frames.specs.Kinds.{kind_of}
use Rattle.offer.specs.declared.TagFault.TheVariants.{NotSupported, OutOfTurn}
use Rattle.tag.specs.States.{KeyedTag}
use Rattle.entry.specs.Sessions.{cleared}
use Rattle.tag.specs.Answers.{Effect, Call, refused, by_kind, in_order, of_message, of_lending, effect_of}
use Rattle.claims.specs.Entry.{Waits}

module _ (c : Call) (tag : KeyedTag) (kind : Kind) (w : Waits c tag kind) where
  ordered : in_order c tag.setup tag.session kind ≡ by_kind c tag.setup tag.session kind
  unfolding in_order
  ordered =
      ap₂ {C = Effect} (λ (x y : Bool). pick x (pick y (by_kind c tag.setup tag.session kind)
      (refused c OutOfTurn cleared)) (refused c NotSupported cleared)) w.there w.turn

  of_kind_lem : (m : List ℕ) → 1 ≤ length m → kind_of (byte_at m 0) ≡ kind
      → of_message c tag.setup tag.session m ≡ by_kind c tag.setup tag.session kind
  unfolding of_message
  of_kind_lem [] h e = absurd (let z : ⊥ = omega arith in z)
  of_kind_lem (first ∷ rest) h e = ap (in_order c tag.setup tag.session) e ∙ ordered

  pub in_turn_lem : 1 ≤ length c.message → kind_of (byte_at c.message 0) ≡ kind
      → effect_of c tag ≡ by_kind c tag.setup tag.session kind
  unfolding effect_of
  in_turn_lem h e = ap (of_lending c tag.setup tag.session) w.bench ∙ of_kind_lem c.message h e
