-- Key records as they are written, one after the other, are a key table that says the same keys.
use mathlib.Core.Path.{◌≡◌, refl, ap, ap₂, ◌∙◌}
use mathlib.Core.List.{List, [], ◌∷◌, ◌++◌}
use Prim.Native.Nat.{ℕ, ◌+◌, ◌*◌}
use native.Mathlib.Omega.{arith}
use lib.ListN.{length, take, length-append}
use lib.Seq.{take_at, drop_at}
use Rattle.sheet.specs.Kinds.{keys_at}
use Rattle.sheet.specs.Records.{key_of}
use Rattle.sheet.specs.KeyTable.{key_record, record_count, records_in, keys_in, key_table}
use Rattle.sheet.specs.Writer.{key_body, keys_written}
use Rattle.sheet.specs.Within.{KeysRise}
use Rattle.sheet.specs.declared.Key.{Key}
use Rattle.sheet.proofs.Back.{key_length, key_back}

pub keys_length : (id : ℕ) (ks : List Key) → KeysRise id ks → length (keys_written ks) ≡ key_record * length ks
unfolding keys_written
keys_length id [] w = refl
keys_length id (k ∷ ks) w =
    rw (length-append (key_body k) (keys_written ks), key_length k w.1, keys_length (k.id + 1) ks w.2)
    (omega arith)

records_back : (id : ℕ) (ks : List Key) → KeysRise id ks → records_in (length ks) (keys_written ks) ≡ ks
unfolding keys_written records_in
records_back id [] w = refl
records_back id (k ∷ ks) w =
    let l = key_length k w.1 in
    ap₂ ◌∷◌
    (ap key_of (take_at (key_body k) (keys_written ks) 36 l) ∙ key_back k w.1)
    (ap (records_in (length ks)) (drop_at (key_body k) (keys_written ks) 36 l) ∙ records_back (k.id + 1) ks w.2)

pub keys_back : (id : ℕ) (ks : List Key) → KeysRise id ks → keys_in (keys_written ks) ≡ ks
unfolding keys_in
keys_back id ks w =
    let n : record_count (keys_written ks) ≡ length ks = omega (arith, keys_length id ks w) in
    ap (λ (m : ℕ). records_in m (keys_written ks)) n ∙ records_back id ks w

-- behind the two opening records of a sheet, o, and in front of its rest
pub table_back : (id : ℕ) (ks : List Key) (o r : List ℕ) → KeysRise id ks → length o ≡ keys_at
    → key_table (o ++ (keys_written ks ++ r)) (length ks) ≡ keys_written ks
unfolding key_table
table_back id ks o r w e =
    ap (take (key_record * length ks)) (drop_at o (keys_written ks ++ r) keys_at e)
    ∙ take_at (keys_written ks) r (key_record * length ks) (keys_length id ks w)
