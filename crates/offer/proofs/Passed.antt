-- What is known of a call that passed the bench's check, of a message that passed the opening line, and of a ProtMode.
use Rattle.std.specs.Prelude.{Ok}
use Prim.Native.Nat.{ℕ, ◌≤◌}
use mathlib.Core.Path.{◌≡◌}
use mathlib.Core.Bool.{Bool, true, false, false≢true}
use mathlib.Core.List.{List}
use borrow.Author.Tests.{eqb-true, leb-true}
use Rattle.ground.specs.Choice.{both}
use Rattle.sheet.specs.declared.Features.{Features}
use Rattle.sheet.specs.declared.Key.{Key}
use Rattle.sheet.specs.declared.Sizes.{Sizes}
use Rattle.frames.specs.declared.Kind.{Kind}
use Rattle.frames.proofs.ProtModes.{Says, says}
use Rattle.frames.specs.Lengths.{length_fits, reply_room}
use Rattle.offer.specs.Checks.{judged}
use Rattle.keytable.specs.Named.{has_key}
use Rattle.offer.specs.Records.{mode_served, mode_supported}
use Rattle.offer.specs.Judged.{draw_bytes, lending_checks, opening_checks}
use Rattle.offer.proofs.Lines.{first_holds, others_hold}

pub both_second : (b d : Bool) → both b d ≡ true → d ≡ true
both_second true d h = h
both_second false d h = absurd (false≢true h)

-- A ProtMode that is supported is one of the four modes, which the sheet offers.
abbrev pub Supported : Features → Key → ℕ → Type 0
Supported f key p = Says p (mode_served f key)

pub mode_named : (f : Features) (key : Key) (p : ℕ) → mode_supported f key p ≡ true → Supported f key p
unfolding mode_supported
mode_named f key p h = says p (mode_served f key) h

-- The bench: the draws and the room.
module _ (sizes : Sizes) (draws room identity user : ℕ)
    (h : judged (lending_checks sizes draws room identity user) ≡ Ok tt) where
  pub lending_draws : draws ≡ draw_bytes
  unfolding lending_checks
  lending_draws = eqb-true _ _ (first_holds _ _ h)

  pub lending_room : reply_room ≤ room
  unfolding lending_checks
  lending_room = leb-true _ _ (first_holds _ _ (others_hold _ _ h))

-- TAM1, IAM1, MAM1: the length and the record.
module _ (kind : Kind) (rfu keyid : ℕ) (keys : List Key) (m : List ℕ)
    (h : judged (opening_checks kind rfu keyid keys m) ≡ Ok tt) where
  pub opening_length : length_fits kind m ≡ true
  unfolding opening_checks
  opening_length = first_holds _ _ h

  pub opening_key : has_key keyid keys ≡ true
  unfolding opening_checks
  opening_key = first_holds _ _ (others_hold _ _ (others_hold _ _ h))
