-- Whoever has the value of a judgement or of a reading has its number and its place.
use Rattle.std.specs.Prelude.{Result}
use mathlib.Core.Path.{◌≡◌, ap}
use mathlib.Core.List.{List}
use Prim.Native.Nat.{ℕ}
use Rattle.sheet.specs.Judgement.{judged_of, finding_number, judged_number}
use Rattle.sheet.specs.Kinds.{number_of}
use Rattle.sheet.specs.Sheet.{ReadAs, read_of, verdict_number, verdict_place, read_number, read_place}
use Rattle.sheet.specs.Sheet.{verdict_of, refused_at, RefusedBy}
use Rattle.sheet.specs.declared.SheetFault.{SheetFault}
use Rattle.sheet.specs.declared.Gathered.{Gathered}
use Rattle.sheet.specs.declared.Judged.{Judged}
use Rattle.sheet.specs.declared.Reading.{Reading}
use Rattle.sheet.specs.declared.SheetRefusal.{SheetRefusal}

abbrev number_of_lem : Result Reading SheetRefusal → ℕ
number_of_lem r = verdict_number (verdict_of r)

abbrev place_of : Result Reading SheetRefusal → ℕ
place_of r = verdict_place (verdict_of r)

pub judge_told : (limit : ℕ) (s : List ℕ) (k : Gathered) (r : Judged) → r ≡ judged_of limit s k
    → (r ≡ judged_of limit s k) × (finding_number r.finding ≡ judged_number limit s k)
unfolding judged_number
judge_told limit s k r e = (e, ap (λ (q : Judged). finding_number q.finding) e)

pub read_told : (limit : ℕ) (s : List ℕ) (r : Result Reading SheetRefusal) → r ≡ read_of limit s
    → (r ≡ read_of limit s) × ((number_of_lem r ≡ read_number limit s) × (place_of r ≡ read_place limit s))
unfolding read_number read_place
read_told limit s r e = (e, (ap number_of_lem e, ap place_of e))

pub read_as : (r x : Result Reading SheetRefusal) → r ≡ x → ReadAs r x
read_as r x e = (e, ap number_of_lem e, ap place_of e)

-- a refusal by name is one by number
pub refused_told : (limit : ℕ) (s : List ℕ) (f : SheetFault) (place : ℕ) → read_of limit s ≡ refused_at f place
    → RefusedBy limit s (number_of f) place
unfolding read_number read_place
refused_told limit s f place e = (ap number_of_lem e, ap place_of e)
