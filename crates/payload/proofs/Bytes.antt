-- Lists of bytes: joined, and taken one by one.
use mathlib.Core.Path.{◌≡◌, refl, sym}
use mathlib.Core.List.{List, [], ◌∷◌, ◌++◌}
use Prim.Native.Nat.{ℕ, zero, suc}
use native.Mathlib.Nat.{le_refl}
use lib.ListN.{length, get_or, take, drop}
use Rattle.ground.specs.Bytes.{Bytes}
use Rattle.field.specs.Block.{tabulated}
use Rattle.field.proofs.Fill.{filled}

-- what is joined of bytes is bytes
pub joined_bytes : (a b : List ℕ) → Bytes a → Bytes b → Bytes (a ++ b)
joined_bytes [] b ha hb i = hb i
joined_bytes (x ∷ xs) b ha hb zero = ha 0
joined_bytes (x ∷ xs) b ha hb (suc i) = joined_bytes xs b (λ j. ha (suc j)) hb i

-- a list is what stands at its places
pub listed : (s : List ℕ) (n : ℕ) → length s ≡ n → tabulated (λ k. get_or s k 0) n ≡ s
listed s n e = sym (filled (λ k. get_or s k 0) n s n (le_refl n) (le_refl n, e, λ k h. refl))

-- the first four and the last four of ten
pub first_four : (s : List ℕ) → length s ≡ 10
    → get_or s 0 0 ∷ get_or s 1 0 ∷ get_or s 2 0 ∷ get_or s 3 0 ∷ [] ≡ take 4 s
first_four s e = λ i. take 4 (listed s 10 e i)

pub last_four : (s : List ℕ) → length s ≡ 10 → get_or s 6 0 ∷ get_or s 7 0 ∷ get_or s 8 0 ∷ get_or s 9 0 ∷ [] ≡ drop 6 s
last_four s e = λ i. drop 6 (listed s 10 e i)
