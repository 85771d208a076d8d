-- Number 7 leaves the image as it was.
use Rattle.std.specs.Prelude.{Err}
use mathlib.Core.Path.{◌≡◌, refl, sym, ap, ◌∙◌}
use mathlib.Core.Bool.{Bool, true, false}
use mathlib.Core.List.{List}
use Prim.Native.Nat.{ℕ, ◌≤◌}
use lib.ListN.{length}
use Rattle.ground.specs.Choice.{pick}
use Rattle.offer.specs.declared.TagFault.TheVariants.{BenchFault}
use Rattle.tag.specs.States.{KeyedTag}
use Rattle.tag.specs.Answers.{Answer, Call}
use Rattle.tag.proofs.Unchanged.{refusal_unchanged}
use Rattle.image.specs.Image.{kept, keyed_in, is_tag}
use Rattle.image.proofs.Stays.{kept_same}
use Rattle.capi.specs.Kept.{answer_in}
use Rattle.capi.proofs.Keeps.{answer_of_lem}

module _ (image : List ℕ) (long : 16 ≤ length image) where
  -- what `roualint_message` leaves in the image
  pub stays : (c : Call) → (answer_in image c).outcome ≡ Err BenchFault
      → pick (is_tag image) (kept (answer_in image c).tag.session image) image ≡ image
  stays c h = by_tag_lem (is_tag image) refl
    where
      by_tag_lem : (b : Bool) → is_tag image ≡ b → pick b (kept (answer_in image c).tag.session image) image ≡ image
      by_tag_lem true e =
          let g = answer_of_lem image e (keyed_in image) refl c in
          let o = sym (ap (λ (a : Answer). a.outcome) g) ∙ h in
          ap (λ (t : KeyedTag). kept t.session image)
          (ap (λ (a : Answer). a.tag) g ∙ (refusal_unchanged c (keyed_in image) BenchFault o).tag)
          ∙ kept_same image long e
      by_tag_lem false e = refl
