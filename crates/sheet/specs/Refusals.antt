-- The scope paper, "The tag sheet": where a sheet is refused, and where it is whole. What a reader does stands in
-- Sheet; here no byte is walked: a place, the records before it, and what stands there.
use Rattle.std.specs.Prelude.{◌≡◌, ℕ, suc, ◌+◌, ◌<◌, List, [], ◌∷◌, length, drop, eqb, Ok, Err}
use Rattle.sheet.specs.declared.Finding.TheVariants.{Taken, Ended}
use Rattle.ground.specs.Choice.{pick}
use Rattle.ground.specs.Bytes.{byte_at}
use Rattle.sheet.specs.Judgement.{judged_of}
use Rattle.sheet.specs.declared.SheetFault.{SheetFault}
use Rattle.sheet.specs.declared.SheetFault.TheVariants.{Tail}
use Rattle.sheet.specs.declared.Gathered.{Gathered}

-- The records of the sheet s from the place `from` on, with `before` gathered, are taken in turn up to a place, each
-- judged against what was gathered of those before it; and what is gathered there.
pub data InTurn (limit : ℕ) (s : List ℕ) (from : ℕ) (before : Gathered) : ℕ → Gathered → Type 0 where
  begins : InTurn limit s from before from before
  goes_on : {p n : ℕ} {k k' : Gathered} → InTurn limit s from before p k
      → judged_of limit (drop p s) k ≡ record { finding = Ok (Taken n); gathered = k' }
      → InTurn limit s from before (p + n) k'

-- the kind bytes of these records, the last first; and how many of them are b
abbrev pub kinds_taken : {limit : ℕ} {s : List ℕ} {from : ℕ} {before : Gathered} {p : ℕ} {k : Gathered}
    → InTurn limit s from before p k → List ℕ
kinds_taken begins = []
kinds_taken {s = s} (goes_on {p = p} h e) = byte_at (drop p s) 0 ∷ kinds_taken h

abbrev pub how_many : ℕ → List ℕ → ℕ
how_many b [] = 0
how_many b (x ∷ xs) = pick (eqb x b) (suc (how_many b xs)) (how_many b xs)

-- A fault and its place, where the records before it are taken in turn. No record stands in turn behind a fault, so it
-- is the first.
pub data FirstFault (limit : ℕ) (s : List ℕ) (from : ℕ) (before : Gathered) : SheetFault → ℕ → Type 0 where
  -- the record there is refused; at the sheet's end, where there is none, by 30
  there : {p : ℕ} {k : Gathered} {f : SheetFault} → InTurn limit s from before p k
      → (judged_of limit (drop p s) k).finding ≡ Err f → FirstFault limit s from before f p
  -- the end record stands at p, and a byte behind it
  behind : {p : ℕ} {k : Gathered} → InTurn limit s from before p k
      → (judged_of limit (drop p s) k).finding ≡ (Ok Ended) → p + 1 < length s
      → FirstFault limit s from before Tail (p + 1)

-- The records are taken in turn up to the end record, which is the sheet's last byte; k is gathered of them.
pub record Complete (limit : ℕ) (s : List ℕ) (from : ℕ) (before : Gathered) (k : Gathered) : Type 0 where
  pub place : ℕ
  pub taken : InTurn limit s from before place k
  pub ended : (judged_of limit (drop place s) k).finding ≡ (Ok Ended)
  pub last : place + 1 ≡ length s
