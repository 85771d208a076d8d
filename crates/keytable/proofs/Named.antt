-- What is known of the record that a KeyID names.
use Prim.Native.Nat.{ℕ, ◌+◌}
use mathlib.Core.Path.{◌≡◌, refl}
use mathlib.Core.Bool.{Bool, true, false}
use mathlib.Core.List.{List, [], ◌∷◌}
use native.Mathlib.Omega.{arith}
use lib.Dec.{eqb}
use borrow.Author.Tests.{eqb-true}
use Rattle.ground.specs.Choice.{pick, either}
use Rattle.sheet.specs.Within.{KeyFine, KeysRise}
use Rattle.sheet.specs.declared.Key.{Key}
use Rattle.keytable.specs.Named.{no_key, has_key, key_with}

-- A property of the record that a KeyID names: the record k has it, or the one that is named among those behind k.
either_way : (P : Key → Type 0) (k other : Key) (x b : Bool) → either b x ≡ true → (b ≡ true → P k)
    → (x ≡ true → P other) → P (pick b k other)
either_way P k other x true h f g = f refl
either_way P k other x false h f g = g h

-- it has the KeyID
pub named_id : (keyid : ℕ) (ks : List Key) → has_key keyid ks ≡ true → (key_with keyid ks).id ≡ keyid
unfolding has_key key_with
named_id keyid [] h = let z : ◌≡◌ {A = ℕ} 0 1 = cc in absurd (omega arith)
named_id keyid (k ∷ ks) h =
    either_way (λ (x : Key). x.id ≡ keyid) k (key_with keyid ks) (has_key keyid ks) (eqb k.id keyid) h
    (λ e. eqb-true k.id keyid e) (λ e. named_id keyid ks e)

-- in a table within the rules it is a fine record
pub named_fine : (id keyid : ℕ) (ks : List Key) → KeysRise id ks → has_key keyid ks ≡ true → KeyFine (key_with keyid ks)
unfolding has_key key_with
named_fine id keyid [] w h = let z : ◌≡◌ {A = ℕ} 0 1 = cc in absurd (omega arith)
named_fine id keyid (k ∷ ks) w h =
    either_way KeyFine k (key_with keyid ks) (has_key keyid ks) (eqb k.id keyid) h (λ e. w.1)
    (λ e. named_fine (k.id + 1) keyid ks w.2 e)

neither : (k other : Key) (x b : Bool) → either b x ≡ false → (x ≡ false → other ≡ no_key) → pick b k other ≡ no_key
neither k other x true h g = let z : ◌≡◌ {A = ℕ} 0 1 = cc in absurd (omega arith)
neither k other x false h g = g h

-- where no record has the KeyID, the key is the empty one
pub not_named : (keyid : ℕ) (ks : List Key) → has_key keyid ks ≡ false → key_with keyid ks ≡ no_key
unfolding has_key key_with
not_named keyid [] h = refl
not_named keyid (k ∷ ks) h =
    neither k (key_with keyid ks) (has_key keyid ks) (eqb k.id keyid) h (λ e. not_named keyid ks e)
