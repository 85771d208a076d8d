-- The reader's keys: of a record that has no MAC key, zeros stand in its place.
use Rattle.std.specs.Prelude.{ℕ, List, Option, is_some, unwrap_or, replicate}
use Rattle.reader.specs.declared.Keys.{Keys}

abbrev pub keys_of : List ℕ → Option (List ℕ) → Keys
keys_of enc mackey = record { enc = enc; mac = is_some mackey; mackey = unwrap_or mackey (replicate 16 0) }
