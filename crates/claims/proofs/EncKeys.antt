-- A record of a key table of bytes has an ENC_key of sixteen bytes.
use mathlib.Core.Path.{◌≡◌}
use mathlib.Core.Bool.{Bool, true, false, false≢true}
use mathlib.Core.List.{List}
use Prim.Native.Nat.{ℕ, zero, suc, ◌*◌, ◌≤◌}
use native.Mathlib.Omega.{arith}
use lib.Dec.{eqb}
use lib.ListN.{length, drop, length-take, length-drop}
use Rattle.ground.specs.Bytes.{Bytes}
use Rattle.ground.specs.Choice.{pick, either}
use Rattle.modes.proofs.Whole.{bytes_take}
use Rattle.sheet.specs.declared.Key.{Key}
use Rattle.sheet.specs.Records.{key_of}
use Rattle.sheet.specs.KeyTable.{key_record, body_in, record_count, records_in, keys_in}
use Rattle.keytable.specs.Named.{has_key, key_with}
use Rattle.offer.proofs.Bytes.{drop_bytes}
use Rattle.claims.specs.Entry.{Array}

first_array : (table : List ℕ) → Bytes table → key_record ≤ length table → Array 16 (key_of (body_in table)).enc
unfolding key_of
first_array table b l = record {
  long = simp (length-take, length-drop) (omega arith);
  bytes = bytes_take 16 (drop 4 (body_in table))
      (drop_bytes 4 (body_in table) (bytes_take 36 (drop 1 table) (drop_bytes 1 table b)));
}

-- the first record, or one behind it
either_array : (k other : Key) (x b : Bool) → either b x ≡ true → Array 16 k.enc
    → (x ≡ true → Array 16 other.enc) → Array 16 (pick b k other).enc
either_array k other x true e h g = h
either_array k other x false e h g = g e

module _ (keyid : ℕ) where
  named_array : (n : ℕ) (table : List ℕ) → Bytes table → key_record * n ≤ length table
      → has_key keyid (records_in n table) ≡ true → Array 16 (key_with keyid (records_in n table)).enc
  unfolding records_in has_key key_with
  named_array zero table b l there = absurd (false≢true there)
  named_array (suc n) table b l there =
      either_array (key_of (body_in table)) (key_with keyid (records_in n (drop key_record table)))
      (has_key keyid (records_in n (drop key_record table))) (eqb (key_of (body_in table)).id keyid) there
      (first_array table b (omega arith))
      (named_array n (drop key_record table) (drop_bytes key_record table b)
      (omega (arith, length-drop key_record table)))

  pub enc_array : (table : List ℕ) → Bytes table → has_key keyid (keys_in table) ≡ true
      → Array 16 (key_with keyid (keys_in table)).enc
  unfolding keys_in
  enc_array table b there = named_array (record_count table) table b (omega arith) there
