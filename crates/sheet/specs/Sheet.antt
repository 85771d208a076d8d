-- The scope paper, "The tag sheet": a whole sheet. `limit` is how many key records there may be.
use Rattle.std.specs.Prelude.{◌≡◌, ℕ, zero, suc, ◌+◌, min, List, [], ◌∷◌, length, drop, Result, Ok, Err}
use Rattle.sheet.specs.declared.Finding.TheVariants.{Taken, Ended}
use Rattle.sheet.specs.declared.Finding.{Finding}
use Rattle.sheet.specs.Kinds.{kind_of, length_behind, number_of}
use Rattle.sheet.specs.KeyTable.{key_table}
use Rattle.sheet.specs.Setups.{Setup, setup_of, empty_terms, nothing_gathered}
use Rattle.sheet.specs.Judgement.{judged_of}
use Rattle.sheet.specs.declared.SheetFault.{SheetFault}
use Rattle.sheet.specs.declared.SheetFault.TheVariants.{Cut, Tail}
use Rattle.sheet.specs.declared.SheetRefusal.{SheetRefusal}
use Rattle.sheet.specs.declared.Terms.{Terms}
use Rattle.sheet.specs.declared.Gathered.{Gathered}
use Rattle.sheet.specs.declared.Reading.{Reading}

-- A refused sheet gives no tag.
abbrev pub refused_at : SheetFault → ℕ → Result Reading SheetRefusal
refused_at f at = Err (record { fault = f; at = at })

-- A whole sheet gives its terms, and the number of its key records.
abbrev pub whole : Terms → ℕ → Result Reading SheetRefusal
whole t n = Ok (record { terms = t; keys = n })

-- where what was gathered is all
abbrev pub ends : Gathered → Result Reading SheetRefusal
ends k = whole k.terms k.marks.keys

-- What follows from the finding on the record at a place, with the bytes t after its kind byte: the reading goes on
-- behind it, or the sheet ends there (35 at the first byte that follows), or it is refused at that place.
unfoldable pub after : Result Finding SheetFault → Gathered → ℕ → List ℕ → Result Reading SheetRefusal
    → Result Reading SheetRefusal
after (Ok (Taken n)) k at t r = r
after (Ok Ended) k at [] r = ends k
after (Ok Ended) k at (x ∷ t) r = refused_at Tail (at + 1)
after (Err f) k at t r = refused_at f at

-- The bytes from a place on. They are passed one by one: `body` of them belong to the record that was judged last, and
-- the next is a kind byte. So the walk falls with the bytes themselves, and needs no other bound.
unfoldable pub walk : ℕ → List ℕ → ℕ → ℕ → Gathered → Result Reading SheetRefusal
walk limit [] body at k = refused_at Cut at
walk limit (b ∷ t) (suc body) at k = walk limit t body (at + 1) k
walk limit (b ∷ t) zero at k =
    let j = judged_of limit (b ∷ t) k in
    after j.finding j.gathered at t (walk limit t (length_behind (kind_of b)) (at + 1) j.gathered)

-- The place that is asked for, and the sheet's end where that would lie behind it: no place is past the sheet.
abbrev pub place_in : List ℕ → ℕ → ℕ
place_in s at = min at (length s)

-- The sheet s from a place on. At its end no kind byte stands: 30 at its length, also from a place behind it.
abbrev pub read_from : ℕ → List ℕ → ℕ → Gathered → Result Reading SheetRefusal
read_from limit s at k = walk limit (drop (place_in s at) s) 0 (place_in s at) k

-- What a reader finds in a sheet: its terms and the number of its key records, or the first refusal with its place.
unfoldable pub read_of : ℕ → List ℕ → Result Reading SheetRefusal
read_of limit s = walk limit s 0 0 nothing_gathered

-- whether it is whole, or its first refusal
abbrev pub verdict_of : Result Reading SheetRefusal → Result Unit SheetRefusal
verdict_of (Ok r) = Ok tt
verdict_of (Err x) = Err x

-- its terms, and how many key records it has; a refused sheet has the empty terms, and none
abbrev pub terms_read : Result Reading SheetRefusal → Terms
terms_read (Ok r) = r.terms
terms_read (Err x) = empty_terms

abbrev pub keys_read : Result Reading SheetRefusal → ℕ
keys_read (Ok r) = r.keys
keys_read (Err x) = 0

-- What a sheet says: its terms, and its key records, which stand together. A refused sheet says nothing.
unfoldable pub said_of : ℕ → List ℕ → Setup
said_of limit s = setup_of (terms_read (read_of limit s)) (key_table s (keys_read (read_of limit s)))

abbrev pub Accepted : ℕ → List ℕ → Type 0
Accepted limit s = verdict_of (read_of limit s) ≡ Ok tt

-- the number of a verdict and its place; a whole sheet has 0 for both
abbrev pub verdict_number : Result Unit SheetRefusal → ℕ
verdict_number (Ok tt) = 0
verdict_number (Err x) = number_of x.fault

abbrev pub verdict_place : Result Unit SheetRefusal → ℕ
verdict_place (Ok tt) = 0
verdict_place (Err x) = x.at

-- A reading that is this one, by name, by number and by place.
abbrev pub ReadAs : Result Reading SheetRefusal → Result Reading SheetRefusal → Type 0
ReadAs r x =
    (r ≡ x)
    × (verdict_number (verdict_of r) ≡ verdict_number (verdict_of x))
    × (verdict_place (verdict_of r) ≡ verdict_place (verdict_of x))

-- the number of a sheet's first refusal, and its place
unfoldable pub read_number : ℕ → List ℕ → ℕ
read_number limit s = verdict_number (verdict_of (read_of limit s))

unfoldable pub read_place : ℕ → List ℕ → ℕ
read_place limit s = verdict_place (verdict_of (read_of limit s))

-- a sheet that is refused by this number, at this place
abbrev pub RefusedBy : ℕ → List ℕ → ℕ → ℕ → Type 0
RefusedBy limit s number place = (read_number limit s ≡ number) × (read_place limit s ≡ place)
