-- The scope paper's table "Numbers the tag gives", row by row.
use mathlib.Core.Path.{◌≡◌, refl}
use Rattle.offer.specs.declared.TagFault.TheVariants.{OtherError, NotSupported, MemoryOverrun, MemoryWriteError}
use Rattle.offer.specs.declared.TagFault.TheVariants.{OutOfTurn, ProofWrong, BenchFault}
use Rattle.offer.specs.Outcomes.{number_of}

pub other_error : number_of OtherError ≡ 1
other_error = refl

pub not_supported : number_of NotSupported ≡ 2
not_supported = refl

pub memory_overrun : number_of MemoryOverrun ≡ 3
memory_overrun = refl

pub memory_write_error : number_of MemoryWriteError ≡ 4
memory_write_error = refl

pub out_of_turn : number_of OutOfTurn ≡ 5
out_of_turn = refl

pub proof_wrong : number_of ProofWrong ≡ 6
proof_wrong = refl

pub bench_fault : number_of BenchFault ≡ 7
bench_fault = refl
