-- The words that an accepted TAM2 asks for are all there, where the setup is one that a sheet says and the areas have
-- its sizes.
use Rattle.std.specs.Prelude.{Ok}
use mathlib.Core.Path.{◌≡◌, refl, sym, ap, ◌∙◌}
use mathlib.Core.Bool.{true, false, false≢true}
use mathlib.Core.List.{List, [], ◌∷◌}
use mathlib.Core.Logic.{inl, inr}
use Prim.Native.Nat.{ℕ, zero, suc, ◌+◌, ◌*◌, ◌≤◌}
use native.Mathlib.Omega.{arith}
use borrow.Author.Tests.{eqb-true, leb-true}
use lib.Dec.{leb}
use lib.ListN.{length, get_or}
use Rattle.ground.specs.Choice.{both}
use Rattle.memory.specs.declared.Area.{Area}
use Rattle.memory.specs.declared.Area.TheVariants.{Identity, User}
use Rattle.memory.specs.Address.{area_number, address_of, profile_end, overruns}
use Rattle.memory.specs.Areas.{area_of, window_of}
use Rattle.memory.proofs.Windows.{fitting_length}
use Rattle.sheet.specs.declared.Sizes.{Sizes}
use Rattle.sheet.specs.declared.Slot.{Slot}
use Rattle.sheet.specs.Setups.{Setup}
use Rattle.sheet.specs.Records.{words_in, inside}
use Rattle.sheet.specs.Setups.{no_slot}
use Rattle.sheet.specs.Limits.{key_limit}
use Rattle.sheet.specs.Within.{SlotFine, SlotsFine, Within}
use Rattle.sheet.specs.Writer.{area_byte}
use Rattle.frames.specs.declared.Custom.{Custom}
use Rattle.frames.specs.Asked.{block_asked as words_asked}
use Rattle.frames.specs.Blocks.{data_length}
use Rattle.frames.proofs.Range.{both_right}
use Rattle.offer.specs.Checks.{judged}
use Rattle.offer.specs.Judged.{lending_checks}
use Rattle.offer.specs.Records.{slot_named, block_asked}
use Rattle.offer.proofs.Lines.{first_holds, others_hold}
use Rattle.tam.proofs.Tam2Asked.{asked_bytes}

-- a slot of a table, or the empty one past its end
slot_fine : (z : Sizes) (ss : List Slot) (i : ℕ) → SlotsFine z ss → SlotFine z (get_or ss i no_slot)
slot_fine z [] i h = inl refl
slot_fine z (s ∷ ss) zero h = h.0
slot_fine z (s ∷ ss) (suc i) h = slot_fine z ss i h.1

-- a present profile ends in its area
ends_in : (z : Sizes) (s : Slot) → SlotFine z s → s.present ≡ true
    → profile_end s.profile ≤ words_in z (area_byte s.profile.area)
unfolding profile_end inside no_slot
ends_in z s (inl e) p = absurd (false≢true (sym (ap (λ (t : Slot). t.present) e) ∙ p))
ends_in z s (inr h) p =
    let n = s.profile.base.0 + s.profile.words in
    let w = words_in z (area_byte s.profile.area) in
    leb-true n w (both_right (leb 1 s.profile.words) (leb n w)
    (both_right (leb (area_byte s.profile.area) 1) (both (leb 1 s.profile.words) (leb n w)) h.1))

module _ (setup : Setup) (identity user : List ℕ) (draws room : ℕ)
    (h : judged (lending_checks setup.sizes draws room (length identity) (length user)) ≡ Ok tt) where
  bench_identity : length identity ≡ setup.sizes.identity * 2
  unfolding lending_checks
  bench_identity = eqb-true _ _ (first_holds _ _ (others_hold _ _ (others_hold _ _ h)))

  bench_user : length user ≡ setup.sizes.user * 2
  unfolding lending_checks
  bench_user = eqb-true _ _ (first_holds _ _ (others_hold _ _ (others_hold _ _ (others_hold _ _ h))))

  area_long : (a : Area) → length (area_of a identity user) ≡ words_in setup.sizes (area_byte a) * 2
  unfolding area_of words_in area_number
  area_long Identity = bench_identity
  area_long User = bench_user

  pub holds_profile : (c : Custom) → Within key_limit setup → (slot_named setup.profiles c.profile).present ≡ true
      → profile_end (slot_named setup.profiles c.profile).profile * 2 ≤ length
      (area_of (block_asked setup.profiles c).area identity user)
  unfolding block_asked words_asked address_of slot_named
  holds_profile c g p =
      let s = get_or setup.profiles c.profile no_slot in
      omega (
        arith,
        area_long s.profile.area,
        ends_in setup.sizes s
            (slot_fine setup.sizes setup.profiles c.profile g.profiles) p,
      )

  pub words_all : (c : Custom) → Within key_limit setup → (slot_named setup.profiles c.profile).present ≡ true
      → overruns (slot_named setup.profiles c.profile).profile (block_asked setup.profiles c) ≡ false
      → length (window_of identity user (block_asked setup.profiles c)) ≡ data_length c.blocksize c.blockcount
  unfolding window_of
  words_all c g p o =
      fitting_length (block_asked setup.profiles c) (slot_named setup.profiles c.profile).profile
      (area_of (block_asked setup.profiles c).area identity user) (holds_profile c g p) o
      ∙ asked_bytes setup.profiles c
