-- No second answer fits the contract of a builder: its answer, and what the room holds afterwards.
use Rattle.std.specs.Prelude.{Result, ℕ}
use Rattle.reader.specs.declared.ReaderFault.{ReaderFault}
use mathlib.Core.Path.{◌≡◌, refl}
use mathlib.Core.Bool.{Bool}
use mathlib.Core.List.{List}
use Prim.Native.Nat.{ℕ}
use Rattle.ground.specs.OneAnswer.{OneAnswer, one, ◌&◌}
use Rattle.reader_build.specs.Makes.{Makes}
use Rattle.reader_build.proofs.tam1.Reads as tam1
use Rattle.reader_build.proofs.tam1.Kinds as tam1-kinds
use Rattle.reader_build.proofs.tam2.Reads as tam2
use Rattle.reader_build.proofs.tam2.Kinds as tam2-kinds
use Rattle.reader_build.proofs.iam1.Reads as iam1
use Rattle.reader_build.proofs.iam1.Kinds as iam1-kinds
use Rattle.reader_build.proofs.mam1.Reads as mam1
use Rattle.reader_build.proofs.mam1.Kinds as mam1-kinds
use Rattle.reader_build.proofs.iam2.Reads as iam2
use Rattle.reader_build.proofs.iam2.Kinds as iam2-kinds
use Rattle.reader_build.proofs.mam2.Reads as mam2
use Rattle.reader_build.proofs.mam2.Kinds as mam2-kinds
use Rattle.reader_build.proofs.iam3.Reads as iam3
use Rattle.reader_build.proofs.iam3.Kinds as iam3-kinds

one_made : (fit : Bool) (message room : List ℕ) (x y : Result ℕ ReaderFault) (s t : List ℕ) → Makes fit message room x s
    → Makes fit message room y t → (x ≡ y) × (s ≡ t)
one_made fit message room x y s t p q = (one p.says q.says, one p.holds q.holds)

pub tam1_one : OneAnswer 1 tam1-kinds.ps tam1-kinds.r tam1.Post
tam1_one κs a x y v w p q = let e = one_made _ _ _ _ _ _ _ p q in (e.0, refl & refl & e.1 & refl)

pub tam2_one : OneAnswer 1 tam2-kinds.ps tam2-kinds.r tam2.Post
tam2_one κs a x y v w p q =
    let e = one_made _ _ _ _ _ _ _ p q in (e.0, refl & refl & refl & refl & refl & refl & e.1 & refl)

pub iam1_one : OneAnswer 1 iam1-kinds.ps iam1-kinds.r iam1.Post
iam1_one κs a x y v w p q = let e = one_made _ _ _ _ _ _ _ p q in (e.0, refl & e.1 & refl)

pub mam1_one : OneAnswer 1 mam1-kinds.ps mam1-kinds.r mam1.Post
mam1_one κs a x y v w p q = let e = one_made _ _ _ _ _ _ _ p q in (e.0, refl & refl & e.1 & refl)

pub iam2_one : OneAnswer 1 iam2-kinds.ps iam2-kinds.r iam2.Post
iam2_one κs a x y v w p q = let e = one_made _ _ _ _ _ _ _ p q in (e.0, refl & refl & refl & refl & e.1 & refl)

pub mam2_one : OneAnswer 1 mam2-kinds.ps mam2-kinds.r mam2.Post
mam2_one κs a x y v w p q = let e = one_made _ _ _ _ _ _ _ p q in (e.0, refl & refl & refl & refl & e.1 & refl)

pub iam3_one : OneAnswer 2 iam3-kinds.ps iam3-kinds.r iam3.Post
iam3_one κs a x y v w p q =
    let e = one_made _ _ _ _ _ _ _ p q in (e.0, refl & refl & refl & refl & refl & refl & refl & e.1 & refl)
