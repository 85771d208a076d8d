-- What is known of an IAM3 whose fields were judged: the ProtMode, the length, the block.
use Rattle.std.specs.Prelude.{Ok}
use Prim.Native.Nat.{ℕ}
use mathlib.Core.Path.{◌≡◌}
use mathlib.Core.Bool.{true, false}
use mathlib.Core.List.{List}
use lib.Dec.{leb}
use lib.ListN.{length}
use borrow.Author.Tests.{eqb-true, not-true}
use Rattle.memory.specs.Address.{overruns}
use Rattle.sheet.specs.declared.Key.{Key}
use Rattle.sheet.specs.declared.Terms.{Terms}
use Rattle.frames.specs.declared.Kind.TheVariants.{Iam3}
use Rattle.frames.specs.Messages.{iam3_of}
use Rattle.frames.specs.Lengths.{iam3_fields_length, iam3_length, length_fits, iam3_length_fits}
use Rattle.offer.specs.Checks.{judged}
use Rattle.offer.specs.Records.{size_offered, mode_supported, slot_named, block_asked}
use Rattle.offer.proofs.Lines.{first_holds, others_hold}
use Rattle.offer.proofs.Passed.{Supported, both_second, mode_named}
use Rattle.entry.specs.Judged.{iam3_field_checks}

module _ (terms : Terms) (key : Key) (m : List ℕ) (h : judged (iam3_field_checks terms key m) ≡ Ok tt) where
  pub iam3_mode : mode_supported terms.features key (iam3_of m).protmode ≡ true
  iam3_mode = first_holds _ _ (others_hold _ _ h)

  pub iam3_named : Supported terms.features key (iam3_of m).protmode
  iam3_named = mode_named terms.features key (iam3_of m).protmode iam3_mode

  pub iam3_length_lem : length m ≡ iam3_length (iam3_of m).custom.blocksize (iam3_of m).custom.blockcount
      iam3_named.mode
  unfolding length_fits iam3_length_fits
  iam3_length_lem =
      let w : length_fits Iam3 m ≡ true = first_holds _ _ h in
      eqb-true _ _ (both_second (leb iam3_fields_length (length m)) _ (rw iam3_named.named at w))

  pub iam3_inside : overruns (slot_named terms.profiles (iam3_of m).custom.profile).profile
      (block_asked terms.profiles (iam3_of m).custom) ≡ false
  iam3_inside =
      let k = others_hold _ _ (others_hold _ _ (others_hold _ _ h)) in
      not-true _ (both_second (size_offered terms.features (iam3_of m).custom.blocksize) _
      (first_holds _ _ (others_hold _ _ (others_hold _ _ k))))
