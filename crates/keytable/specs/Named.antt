-- Clause 11 and Table 27: the key record that a KeyID names.
use Rattle.std.specs.Prelude.{ℕ, Bool, false, List, [], ◌∷◌, replicate, eqb}
use Rattle.ground.specs.Choice.{pick, either}
use Rattle.sheet.specs.declared.Key.{Key}

-- what stands for a record that is not there
unfoldable pub no_key : Key
no_key = record { id = 0; mac = false; mpi = 0; enc = replicate 16 0; mackey = replicate 16 0 }

-- a record has the KeyID
unfoldable pub has_key : ℕ → List Key → Bool
has_key keyid [] = false
has_key keyid (k ∷ ks) = either (eqb k.id keyid) (has_key keyid ks)

-- the first record that has it
unfoldable pub key_with : ℕ → List Key → Key
key_with keyid [] = no_key
key_with keyid (k ∷ ks) = pick (eqb k.id keyid) k (key_with keyid ks)
