-- The session that is read from a tag's image is written back into the same bytes; and at rest those bytes are known.
use mathlib.Core.Path.{◌≡◌, refl, sym, ap, ap₂, ◌∙◌}
use mathlib.Core.Bool.{true}
use mathlib.Core.List.{List, ◌∷◌, ◌++◌}
use Prim.Native.Nat.{ℕ, zero, suc, ◌≤◌, ◌<◌}
use native.Mathlib.Omega.{arith}
use borrow.Author.Tests.{ltb-true}
use lib.Dec.{leb, ltb}
use lib.ListN.{length, take, drop, replicate, take-append-drop}
use lib.Seq.{length-take-le}
use Rattle.ground.specs.Choice.{both, implies}
use Rattle.ground.specs.Bytes.{byte_at, word_at}
use Rattle.ground.proofs.Choice.{both_true}
use Rattle.modes.specs.Room.{over}
use Rattle.octets.specs.Parts.{bytes_from}
use Rattle.octets.specs.Alike.{all_zero}
use Rattle.octets.proofs.Parts.{bytes_taken}
use Rattle.octets.proofs.AllZero.{zeros_only}
use Rattle.sheet.specs.KeyTable.{keys_in}
use Rattle.sheet.specs.Limits.{key_limit, lock_limit}
use Rattle.tag.specs.States.{at_rest, key_fits}
use Rattle.image.specs.Image.{
  state_number,
  held_bytes,
  session_bytes,
  kept,
  state_of,
  session_in,
  table_in,
  rests,
  is_tag,
}

number_back : (n : ℕ) → n < 4 → state_number (state_of n) ≡ n
number_back zero h = refl
number_back (suc zero) h = refl
number_back (suc (suc zero)) h = refl
number_back (suc (suc (suc zero))) h = refl
number_back (suc (suc (suc (suc n)))) h = absurd (omega arith)

module _ (image : List ℕ) (long : 16 ≤ length image) (e : is_tag image ≡ true) where
  state_fits : byte_at image 0 < 4
  unfolding is_tag
  state_fits = ltb-true _ _ (both_true _ _ e).0

  pub bytes_back : session_bytes (session_in image) ≡ take 16 image
  unfolding session_in bytes_from
  bytes_back =
      ap (λ (n : ℕ). n ∷ held_bytes (session_in image)) (number_back (byte_at image 0) state_fits)
      ∙ bytes_taken image 16 long

  pub kept_same : kept (session_in image) image ≡ image
  kept_same =
      ap (λ (l : List ℕ). over l image) bytes_back
      ∙ ap (λ (n : ℕ). take 16 image ++ drop n image) (length-take-le 16 image long)
      ∙ take-append-drop 16 image

  at_rest_lem : rests (session_in image) ≡ true
  unfolding is_tag
  at_rest_lem =
      let k = leb (word_at image 199) key_limit in
      let f = key_fits (keys_in (table_in image)) (session_in image).state (session_in image).keyid in
      let r = rests (session_in image) in
      let a =
      (both_true (ltb (byte_at image 0) 4) (both (leb (byte_at image 118) lock_limit) (both k (both f r))) e).1 in
      let b = (both_true (leb (byte_at image 118) lock_limit) (both k (both f r)) a).1 in
      (both_true f r (both_true k (both f r) b).1).1

  -- in Initial nothing is held
  pub nothing_held_lem : byte_at image 0 ≡ 0 → take 16 image ≡ replicate 16 0
  unfolding rests session_in at_rest bytes_from
  nothing_held_lem z =
      let r : all_zero (held_bytes (session_in image)) ≡ true =
      ap (λ (n : ℕ). implies (at_rest (state_of n)) (all_zero (held_bytes (session_in image)))) (sym z) ∙ at_rest_lem in
      sym bytes_back
      ∙ ap₂ {C = List ℕ} (λ (n : ℕ) (l : List ℕ). n ∷ l)
      (ap (λ (n : ℕ). state_number (state_of n)) z)
      (zeros_only (held_bytes (session_in image)) r)

-- Two tags in Initial that say the same from place 16 on are the same bytes.
pub initial_same : (a b : List ℕ) → 16 ≤ length a → 16 ≤ length b → is_tag a ≡ true → is_tag b ≡ true
    → byte_at a 0 ≡ 0 → byte_at b 0 ≡ 0 → drop 16 a ≡ drop 16 b → a ≡ b
initial_same a b la lb ea eb za zb e =
    sym (take-append-drop 16 a)
    ∙ ap₂ {C = List ℕ} (λ (x : List ℕ) (y : List ℕ). x ++ y)
    (nothing_held_lem a la ea za ∙ sym (nothing_held_lem b lb eb zb)) e
    ∙ take-append-drop 16 b
