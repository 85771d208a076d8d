-- `reader_judge::tam2::Tam2Reply::mac_fits` meets its contract.
use native.Mathlib.Omega.{arith}
use Rattle.reader_judge.proofs.Clear.{mac_place}
use Rattle.reader_judge.proofs.tam2.Tam2Reply.mac_fits.Goals as goal

pub split_at-requires : goal.split_at-requires
split_at-requires c = omega (arith, mac_place _ _ _ _ _ c.args.self.now.whole, c.tam2_mac_at-at.ensures)
