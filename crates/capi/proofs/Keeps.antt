-- The answer that a kept tag gives is its tag's.
use mathlib.Core.Path.{◌≡◌, sym, ap}
use mathlib.Core.Bool.{true}
use mathlib.Core.List.{List}
use Prim.Native.Nat.{ℕ}
use Rattle.tag.specs.Answers.{Call, answer_of}
use Rattle.tag.specs.States.{KeyedTag}
use Rattle.image.specs.Image.{keyed_in, is_tag}
use Rattle.capi.specs.Kept.{answer_in}

pub answer_of_lem : (image : List ℕ) → is_tag image ≡ true → (t : KeyedTag) → t ≡ keyed_in image → (c : Call)
    → answer_in image c ≡ answer_of c t
answer_of_lem image e t f c = simp e (ap (answer_of c) (sym f))
