-- No second answer fits the contract of an exported function, as the checker reads it from the source.
use mathlib.Core.Path.{refl}
use Prim.Native.Nat.{ℕ}
use Rattle.ground.specs.OneAnswer.{OneAnswer, OneLent, one}
use Rattle.octets.proofs.byte.Reads as byte
use Rattle.octets.proofs.byte.Kinds as byte-kinds
use Rattle.octets.proofs.front.Reads as front
use Rattle.octets.proofs.front.Kinds as front-kinds
use Rattle.octets.proofs.tail.Reads as tail
use Rattle.octets.proofs.tail.Kinds as tail-kinds
use Rattle.octets.proofs.bytes_at.Reads as bytes_at
use Rattle.octets.proofs.bytes_at.Kinds as bytes-at-kinds
use Rattle.octets.proofs.word.Reads as word
use Rattle.octets.proofs.word.Kinds as word-kinds
use Rattle.octets.proofs.word_at.Reads as word_at
use Rattle.octets.proofs.word_at.Kinds as word-at-kinds
use Rattle.octets.proofs.same.Reads as same
use Rattle.octets.proofs.same.Kinds as same-kinds
use Rattle.octets.proofs.zeros.Reads as zeros
use Rattle.octets.proofs.zeros.Kinds as zeros-kinds

pub byte_one : OneAnswer 1 byte-kinds.ps byte-kinds.r byte.Post
byte_one κs a x y v w p q = (one p q, refl)

pub front_one : OneLent 1 front-kinds.ps 0 tt front.Post
front_one κs a x y v w p q = (one p q, refl)

pub tail_one : OneLent 1 tail-kinds.ps 0 tt tail.Post
tail_one κs a x y v w p q = (one p q, refl)

pub bytes_at_one : (N : ℕ) (fits : _)
    → OneAnswer 2 (bytes-at-kinds.ps N fits) (bytes-at-kinds.r N fits) (bytes_at.Post N fits)
bytes_at_one N fits κs a x y v w p q = (one p q, refl)

pub word_one : OneAnswer 0 word-kinds.ps word-kinds.r word.Post
word_one κs a x y v w p q = (one p q, refl)

pub word_at_one : OneAnswer 1 word-at-kinds.ps word-at-kinds.r word_at.Post
word_at_one κs a x y v w p q = (one p q, refl)

pub same_one : OneAnswer 2 same-kinds.ps same-kinds.r same.Post
same_one κs a x y v w p q = (one p q, refl)

pub zeros_one : OneAnswer 1 zeros-kinds.ps zeros-kinds.r zeros.Post
zeros_one κs a x y v w p q = (one p q, refl)
