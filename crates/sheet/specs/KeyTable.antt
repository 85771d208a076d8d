-- The key table: key records one after the other, as they stand in a sheet. Any bytes have a meaning.
use Rattle.std.specs.Prelude.{ℕ, zero, suc, ◌*◌, ◌/◌, List, [], ◌∷◌, length, take, drop}
use Rattle.sheet.specs.Kinds.{body_length, record_length, keys_at}
use Rattle.sheet.specs.Records.{key_of}
use Rattle.sheet.specs.declared.Kind.TheVariants.{KeyRecord}
use Rattle.sheet.specs.declared.Key.{Key}

-- the bytes of a key record: its kind byte, and the 36 of its body
abbrev pub key_record : ℕ
key_record = record_length KeyRecord

-- the body of the record with which these bytes start; its kind byte is not looked at
abbrev pub body_in : List ℕ → List ℕ
body_in s = take (body_length KeyRecord) (drop 1 s)

-- the first n records of s
unfoldable pub records_in : ℕ → List ℕ → List Key
records_in zero s = []
records_in (suc n) s = key_of (body_in s) ∷ records_in n (drop key_record s)

-- how many whole records there are
abbrev pub record_count : List ℕ → ℕ
record_count s = length s / key_record

-- All whole records. Bytes behind the last of them are none.
unfoldable pub keys_in : List ℕ → List Key
keys_in s = records_in (record_count s) s

-- The part of a sheet where its n key records stand, as far as the sheet goes.
unfoldable pub key_table : List ℕ → ℕ → List ℕ
key_table s n = take (key_record * n) (drop keys_at s)
