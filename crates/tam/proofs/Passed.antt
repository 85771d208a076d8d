-- What is known of a TAM2 that passed its checks: the length, the record, the block, the ProtMode.
use Rattle.std.specs.Prelude.{Ok}
use Prim.Native.Nat.{ℕ}
use mathlib.Core.Path.{◌≡◌}
use mathlib.Core.Bool.{true, false}
use mathlib.Core.List.{List}
use lib.ListN.{length}
use borrow.Author.Tests.{eqb-true, not-true}
use Rattle.memory.specs.Address.{overruns}
use Rattle.sheet.specs.Setups.{Setup}
use Rattle.frames.specs.Messages.{tam2_of}
use Rattle.frames.specs.Lengths.{tam2_length, length_fits}
use Rattle.offer.specs.Checks.{judged}
use Rattle.keytable.specs.Named.{has_key, key_with}
use Rattle.offer.specs.Records.{mode_supported, slot_named, block_asked}
use Rattle.offer.proofs.Lines.{first_holds, others_hold}
use Rattle.tam.specs.Judged.{tam2_checks}

module _ (setup : Setup) (m : List ℕ) (h : judged (tam2_checks setup m) ≡ Ok tt) where
  pub tam2_length_lem : length m ≡ tam2_length
  unfolding tam2_checks length_fits
  tam2_length_lem = eqb-true _ _ (first_holds _ _ h)

  pub tam2_key : has_key (tam2_of m).keyid setup.keys ≡ true
  unfolding tam2_checks
  tam2_key = first_holds _ _ (others_hold _ _ (others_hold _ _ (others_hold _ _ (others_hold _ _ h))))

  pub tam2_inside : overruns (slot_named setup.profiles (tam2_of m).custom.profile).profile
      (block_asked setup.profiles (tam2_of m).custom) ≡ false
  unfolding tam2_checks
  tam2_inside =
      let k = others_hold _ _ (others_hold _ _ (others_hold _ _ (others_hold _ _ h))) in
      not-true _ (first_holds _ _ (others_hold _ _ (others_hold _ _ (others_hold _ _ k))))

  pub tam2_mode : mode_supported setup.features (key_with (tam2_of m).keyid setup.keys) (tam2_of m).protmode ≡ true
  unfolding tam2_checks
  tam2_mode =
      let k = others_hold _ _ (others_hold _ _ (others_hold _ _ (others_hold _ _ h))) in
      first_holds _ _ (others_hold _ _ (others_hold _ _ (others_hold _ _ (others_hold _ _ k))))
