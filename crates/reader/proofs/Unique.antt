-- No second answer fits the contracts of reader. The numbers are the paper's.
use mathlib.Core.Path.{◌≡◌, refl}
use Rattle.ground.specs.OneAnswer.{OneAnswer, one}
use Rattle.reader.specs.declared.ReaderFault.TheVariants.{ReplyLength, ChallengeWrong, MacWrong, HeaderWrong}
use Rattle.reader.specs.declared.ReaderFault.TheVariants.{OwnMessage}
use Rattle.reader.specs.Numbers.{number_of}
use Rattle.reader.proofs.keys_of.Reads as keys-of
use Rattle.reader.proofs.keys_of.Kinds as keys-of-kinds
use Rattle.reader.proofs.number.Reads as number
use Rattle.reader.proofs.number.Kinds as number-kinds
use Rattle.reader.proofs.U8FromReaderFault.from.Reads as fault-number
use Rattle.reader.proofs.U8FromReaderFault.from.Kinds as fault-number-kinds
use Rattle.reader.proofs.own.mode_fits.Reads as mode_fits_lem
use Rattle.reader.proofs.own.mode_fits.Kinds as mode-fits-kinds
use Rattle.reader.proofs.own.own_fits.Reads as own-fits
use Rattle.reader.proofs.own.own_fits.Kinds as own-fits-kinds

pub keys_of_one : OneAnswer 0 keys-of-kinds.ps keys-of-kinds.r keys-of.Post
keys_of_one κs a x y v w p q = (one p q, refl)

pub fault_number_one : OneAnswer 0 fault-number-kinds.ps fault-number-kinds.r fault-number.Post
fault_number_one κs a x y v w p q = (one p q, refl)

pub number_one : OneAnswer 0 number-kinds.ps number-kinds.r number.Post
number_one κs a x y v w p q = (one p q, refl)

pub mode_fits_one : OneAnswer 0 mode-fits-kinds.ps mode-fits-kinds.r mode_fits_lem.Post
mode_fits_one κs a x y v w p q = (one p q, refl)

pub own_fits_one : OneAnswer 1 own-fits-kinds.ps own-fits-kinds.r own-fits.Post
own_fits_one κs a x y v w p q = (one p q, refl)

pub paper_numbers : (number_of ReplyLength ≡ 20) × (number_of ChallengeWrong ≡ 21) × (number_of MacWrong ≡ 22)
    × (number_of HeaderWrong ≡ 23) × (number_of OwnMessage ≡ 24)
paper_numbers = (refl, refl, refl, refl, refl)
