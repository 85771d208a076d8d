-- What a message comes to, and the scope paper's "Numbers the tag gives".
use Rattle.std.specs.Prelude.{ℕ, Result, Ok, Err}
use Rattle.offer.specs.declared.Answer.{Answer}
use Rattle.offer.specs.declared.Answer.TheVariants.{Replied, Entered}
use Rattle.offer.specs.declared.TagFault.{TagFault}
use Rattle.offer.specs.declared.TagFault.TheVariants.{OtherError, NotSupported, MemoryOverrun, MemoryWriteError}
use Rattle.offer.specs.declared.TagFault.TheVariants.{OutOfTurn, ProofWrong, BenchFault}

-- What a message comes to: an answer, or a refusal.
abbrev pub Outcome : Type 0
Outcome = Result Answer TagFault

-- The scope paper's number of each refusal.
abbrev pub number_of : TagFault → ℕ
number_of OtherError = 1
number_of NotSupported = 2
number_of MemoryOverrun = 3
number_of MemoryWriteError = 4
number_of OutOfTurn = 5
number_of ProofWrong = 6
number_of BenchFault = 7

-- The number that a call gives, 0 where nothing is refused; and the reply's length.
abbrev pub number_given : Outcome → ℕ
number_given (Ok (Replied n)) = 0
number_given (Ok (Entered purpose)) = 0
number_given (Err f) = number_of f

abbrev pub reply_length : Outcome → ℕ
reply_length (Ok (Replied n)) = n
reply_length (Ok (Entered purpose)) = 0
reply_length (Err f) = 0

-- What follows a line of checks: `a` where all hold, and otherwise what the refusal leads to.
abbrev pub settled : {A : Type 0} → Result Unit TagFault → A → (TagFault → A) → A
settled (Ok tt) a refused = a
settled (Err f) a refused = refused f
