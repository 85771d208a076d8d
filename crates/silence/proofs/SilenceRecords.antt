-- What a KeyID finds among records that are alike: everything but the key bytes, and these too where it is named.
use mathlib.Core.Path.{◌≡◌, refl, sym, ap, ◌∙◌}
use mathlib.Core.Bool.{Bool, true, false}
use mathlib.Core.List.{List, [], ◌∷◌}
use Prim.Native.Nat.{ℕ}
use lib.Dec.{eqb}
use borrow.Author.Tests.{eqb-true}
use Rattle.sheet.specs.declared.Key.{Key}
use Rattle.keytable.specs.Named.{has_key, key_with}
use Rattle.silence.specs.Silence.{RecordAlike, RecordsAlike}

pub record Found (named : ℕ → Bool) (keyid : ℕ) (ks ls : List Key) : Type 0 where
  pub present : has_key keyid ks ≡ has_key keyid ls
  pub mac : (key_with keyid ks).mac ≡ (key_with keyid ls).mac
  pub mpi : (key_with keyid ks).mpi ≡ (key_with keyid ls).mpi
  pub whole : named keyid ≡ true → key_with keyid ks ≡ key_with keyid ls

module _ (named : ℕ → Bool) (keyid : ℕ) where
  -- a named record is the same in both
  whole_record : (k l : Key) → RecordAlike named k l → k.id ≡ keyid → named keyid ≡ true → k ≡ l
  whole_record k l r e n =
      let m : named k.id ≡ true = ap named e ∙ n in
      λ j. record { id = r.id j; mac = r.mac j; mpi = r.mpi j; enc = r.enc m j; mackey = r.mackey m j }

  first : (k l : Key) (ks ls : List Key) → RecordAlike named k l → Found named keyid ks ls → (b : Bool)
      → eqb k.id keyid ≡ b → eqb l.id keyid ≡ b
      → Found named keyid (k ∷ ks) (l ∷ ls)
  unfolding has_key key_with
  first k l ks ls r f true p q = record {
    present = rw (p, q);
    mac = rw (p, q) r.mac;
    mpi = rw (p, q) r.mpi;
    whole = λ n. rw (p, q) (whole_record k l r (eqb-true k.id keyid p) n);
  }
  first k l ks ls r f false p q = record {
    present = rw (p, q) f.present;
    mac = rw (p, q) f.mac;
    mpi = rw (p, q) f.mpi;
    whole = λ n. rw (p, q) (f.whole n);
  }

  pub found : (ks ls : List Key) → RecordsAlike named ks ls → Found named keyid ks ls
  unfolding RecordsAlike
  found [] [] h = record { present = refl; mac = refl; mpi = refl; whole = λ n. refl }
  found [] (l ∷ ls) h = absurd h
  found (k ∷ ks) [] h = absurd h
  found (k ∷ ks) (l ∷ ls) (r, h) =
      first k l ks ls r (found ks ls h) (eqb k.id keyid) refl (ap (λ (i : ℕ). eqb i keyid) (sym r.id))
