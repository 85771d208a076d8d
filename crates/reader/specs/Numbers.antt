-- The scope paper's number of each refusal of the reader's side.
use Rattle.std.specs.Prelude.{ℕ}
use Rattle.reader.specs.declared.ReaderFault.{ReaderFault}
use Rattle.reader.specs.declared.ReaderFault.TheVariants.{ReplyLength, ChallengeWrong, MacWrong, HeaderWrong}
use Rattle.reader.specs.declared.ReaderFault.TheVariants.{OwnMessage}

abbrev pub number_of : ReaderFault → ℕ
number_of ReplyLength = 20
number_of ChallengeWrong = 21
number_of MacWrong = 22
number_of HeaderWrong = 23
number_of OwnMessage = 24
