-- What the claims of specs/Inverse take a call to say is its contract, as the checker reads it from the source.
use mathlib.Core.Path.{◌≡◌, refl}
use Prim.Native.Nat.{ℕ}
use Rattle.std.specs.Prelude.{Option}
use contract.Lifetimes.{Lfts}
use borrow.Fn.Kinds.{Dens, res_t, ended_of}
use denote.Triple.Clauses.{AtExit}
use Rattle.text.specs.Hex.{ReadsHex, hex_word}
use Rattle.text.specs.Decimal.{decimal_read, decimal_word}
use Rattle.text.specs.Room.{Writes}
use Rattle.text.proofs.read_hex.Reads as read-hex
use Rattle.text.proofs.read_hex.Kinds as read-hex-kinds
use Rattle.text.proofs.write_hex.Reads as write-hex
use Rattle.text.proofs.write_hex.Kinds as write-hex-kinds
use Rattle.text.proofs.read_decimal.Reads as read-decimal
use Rattle.text.proofs.read_decimal.Kinds as read-decimal-kinds
use Rattle.text.proofs.write_decimal.Reads as write-decimal
use Rattle.text.proofs.write_decimal.Kinds as write-decimal-kinds

module _ (κs : Lfts 2) (a : Dens κs read-hex-kinds.ps) (r : (res_t read-hex-kinds.r κs).Denot)
    (s : AtExit (ended_of 2 read-hex-kinds.ps read-hex-kinds.r) κs) where
  pub read_hex_says : read-hex.Post κs a r s ≡ ReadsHex a.0.now a.1.0.now r s.1.0.now
  read_hex_says = refl

module _ (κs : Lfts 2) (a : Dens κs write-hex-kinds.ps) (n : Option ℕ)
    (s : AtExit (ended_of 2 write-hex-kinds.ps write-hex-kinds.r) κs) where
  pub write_hex_says : write-hex.Post κs a n s ≡ Writes (hex_word a.0.now) a.1.0.now n s.1.0.now
  write_hex_says = refl

module _ (κs : Lfts 1) (a : Dens κs read-decimal-kinds.ps) (r : (res_t read-decimal-kinds.r κs).Denot)
    (s : AtExit (ended_of 1 read-decimal-kinds.ps read-decimal-kinds.r) κs) where
  pub read_decimal_says : read-decimal.Post κs a r s ≡ (r ≡ decimal_read a.0.now)
  read_decimal_says = refl

module _ (κs : Lfts 1) (a : Dens κs write-decimal-kinds.ps) (n : Option ℕ)
    (s : AtExit (ended_of 1 write-decimal-kinds.ps write-decimal-kinds.r) κs) where
  pub write_decimal_says : write-decimal.Post κs a n s ≡ Writes (decimal_word a.0) a.1.0.now n s.1.0.now
  write_decimal_says = refl
