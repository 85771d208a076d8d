-- The keys of a sheet as the walk over it meets them, record by record. Those of an accepted sheet are its key table's.
use Rattle.std.specs.Prelude.{ℕ, zero, suc, List, [], ◌∷◌, ◌++◌, take, Option, Some, None, Result, Ok, Err}
use Rattle.sheet.specs.declared.Finding.TheVariants.{Taken, Ended}
use Rattle.sheet.specs.declared.Finding.{Finding}
use Rattle.sheet.specs.declared.SheetFault.{SheetFault}
use Rattle.sheet.specs.Kinds.{kind_of, length_behind}
use Rattle.sheet.specs.Records.{key_of}
use Rattle.sheet.specs.Setups.{nothing_gathered}
use Rattle.sheet.specs.Judgement.{judged_of}
use Rattle.sheet.specs.declared.Kind.{Kind}
use Rattle.sheet.specs.declared.Kind.TheVariants.{
  FeatureRecord,
  SizeRecord,
  KeyRecord,
  ProfileRecord,
  LockRecord,
  EndRecord,
}
use Rattle.sheet.specs.declared.Key.{Key}
use Rattle.sheet.specs.declared.Gathered.{Gathered}

-- a record of kind 03 says a key, and no other does
abbrev pub key_said : Option Kind → List ℕ → List Key
key_said (Some FeatureRecord) b = []
key_said (Some SizeRecord) b = []
key_said (Some KeyRecord) b = key_of b ∷ []
key_said (Some ProfileRecord) b = []
key_said (Some LockRecord) b = []
key_said (Some EndRecord) b = []
key_said None b = []

-- of a record that is taken, and those behind it
abbrev pub met_in : Result Finding SheetFault → List Key → List Key → List Key
met_in (Ok (Taken n)) said ks = said ++ ks
met_in (Ok Ended) said ks = []
met_in (Err f) said ks = []

-- the bytes are passed as in `walk`
unfoldable pub met_from : ℕ → List ℕ → ℕ → Gathered → List Key
met_from limit [] body k = []
met_from limit (b ∷ t) (suc body) k = met_from limit t body k
met_from limit (b ∷ t) zero k =
    let j = judged_of limit (b ∷ t) k in
    let n = length_behind (kind_of b) in
    met_in j.finding (key_said (kind_of b) (take n t)) (met_from limit t n j.gathered)

unfoldable pub keys_met : ℕ → List ℕ → List Key
keys_met limit s = met_from limit s 0 nothing_gathered
