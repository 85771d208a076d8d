-- A reader that has the keys of a record.
use Rattle.std.specs.Prelude.{◌≡◌}
use Rattle.sheet.specs.declared.Key.{Key}
use Rattle.reader.specs.declared.Keys.{Keys}

pub record HasKeys (keys : Keys) (key : Key) : Type 0 where
  pub enc : keys.enc ≡ key.enc
  pub mackey : keys.mackey ≡ key.mackey
