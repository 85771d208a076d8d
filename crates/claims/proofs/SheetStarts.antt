-- What a sheet says, its tag has: a record, and a block that may be written.
use mathlib.Core.Path.{sym, ap, ◌∙◌}
use mathlib.Core.Bool.{Bool}
use Prim.Native.Nat.{◌*◌}
use lib.ListN.{drop}
use Rattle.ground.specs.Choice.{implies}
use Rattle.memory.specs.Areas.{area_of}
use Rattle.memory.proofs.Windows.{within_area}
use Rattle.modes.proofs.Whole.{bytes_take}
use Rattle.sheet.specs.Kinds.{keys_at}
use Rattle.sheet.specs.KeyTable.{key_record, key_table}
use Rattle.sheet.specs.Limits.{key_limit}
use Rattle.sheet.specs.Sheet.{read_of, said_of, keys_read}
use Rattle.sheet.specs.Within.{Within}
use Rattle.sheet_laws.proofs.Sheets.{accepted}
use Rattle.frames.proofs.Asked.{asked_some}
use Rattle.offer.specs.Records.{offered, slot_named, block_asked}
use Rattle.offer.proofs.Bytes.{drop_bytes}
use Rattle.claims.specs.Starts.{setup_at, HasRecord, start_of, SheetHasRecord, SheetHasWritable}
use Rattle.claims.proofs.Taken.{lends}
use Rattle.claims.proofs.Windows.{holds_profile}

pub sheet_has_record : SheetHasRecord
unfolding said_of key_table
sheet_has_record sheet identity user session keyid v there = record {
  keyid = keyid;
  there = there;
  bytes = bytes_take (key_record * (keys_read (read_of key_limit sheet))) (drop keys_at sheet)
      (drop_bytes keys_at sheet v.bytes);
  identity = v.identity_length;
  user = v.user_length;
}

pub sheet_has_writable : SheetHasWritable
unfolding said_of offered block_asked sheet_has_record
sheet_has_writable sheet identity user session keyid custom protmode v there iam3 fit may =
    let s = start_of sheet identity user session in
    let h : HasRecord s = sheet_has_record sheet identity user session keyid v there in
    let rules : Within key_limit (setup_at s) = (accepted key_limit sheet v.bytes v.taken).0 in
    let profile = (slot_named (setup_at s).profiles custom.profile).profile in
    let block = block_asked (setup_at s).profiles custom in
    record {
      holder = h;
      iam1 = sym (ap (λ (b : Bool). implies b (setup_at s).features.iam) iam3) ∙ rules.iam3;
      iam3 = iam3;
      custom = custom;
      protmode = protmode;
      nameable = fit;
      writable = may;
      lies = within_area profile block (area_of block.area identity user)
          (holds_profile (setup_at s) identity user _ _ (lends s h 0) custom rules may.present) may.inside
          (asked_some profile custom);
    }
