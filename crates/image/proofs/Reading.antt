-- What the functions of `read` find.
use mathlib.Core.Path.{◌≡◌, sym, ap, ◌∙◌}
use mathlib.Core.Bool.{Bool, true, false}
use mathlib.Core.List.{List}
use Prim.Native.Nat.{ℕ}
use native.Mathlib.Omega.{arith}
use lib.ListN.{length, take, drop}
use Rattle.ground.specs.Choice.{implies}
use Rattle.ground.specs.Bytes.{byte_at}
use Rattle.octets.specs.Parts.{bytes_from}
use Rattle.octets.specs.Alike.{all_zero}
use Rattle.octets.proofs.Parts.{bytes_within}
use Rattle.entry.specs.declared.State.{State}
use Rattle.tag.specs.States.{at_rest}
use Rattle.image.specs.Image.{held_bytes, state_of, session_in, rests}

module _ (image : List ℕ) (long : length image ≡ 793) where
  -- ---- what is held

  pub held_there : take 15 (drop 1 image) ≡ held_bytes (session_in image)
  unfolding session_in bytes_from
  held_there = sym (bytes_within image 15 1 (omega arith))

  module _ (q : State) (b : Bool) (e : q ≡ state_of (byte_at image 0)) (f : b ≡ at_rest q) where
    state_there : b ≡ at_rest (session_in image).state
    unfolding session_in
    state_there = f ∙ ap at_rest e

    pub waits : b ≡ false → true ≡ rests (session_in image)
    unfolding rests
    waits h =
        sym (ap (λ (x : Bool). implies x (all_zero (held_bytes (session_in image)))) (sym state_there ∙ h))

    pub held_zeros : b ≡ true → (r : Bool) → r ≡ all_zero (take 15 (drop 1 image)) → r ≡ rests (session_in image)
    unfolding rests
    held_zeros h r g =
        g
        ∙ ap all_zero held_there
        ∙ sym (ap (λ (x : Bool). implies x (all_zero (held_bytes (session_in image)))) (sym state_there ∙ h))
