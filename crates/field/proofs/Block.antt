-- Blocks: sixteen bytes. A block is what stands at its places; the exclusive or of two blocks is a block, and undoes
-- itself.
use mathlib.Core.Path.{◌≡◌, refl, sym, ap, ◌∙◌}
use mathlib.Core.List.{List, ◌∷◌}
use Prim.Native.Nat.{ℕ, zero, suc, ◌+◌, ◌<◌, ◌≤◌}
use native.Mathlib.Nat.{zero-lt-suc}
use native.Mathlib.Omega.{arith}
use lib.ListN.{length, get_or, take, drop}
use lib.Seq.{drop-cons, take_all}
use lib.Bits.{bit_xor}
use Rattle.ground.specs.Bytes.{Bytes}
use Rattle.field.specs.Block.{tabulated_from, tabulated, block, first_block, xor, substituted}
use Rattle.field.proofs.Sum.{xor_twice, byte_xor}
use Rattle.field.proofs.Table.{entry_at}

pub record Block (s : List ℕ) : Type 0 where
  pub sixteen : length s ≡ 16
  pub bytes : Bytes s

from_bytes : (f : ℕ → ℕ) → ((i : ℕ) → f i < 256) → (n i k : ℕ) → get_or (tabulated_from f i n) k 0 < 256
from_bytes f h zero i k = zero-lt-suc 255
from_bytes f h (suc n) i zero = h i
from_bytes f h (suc n) i (suc k) = from_bytes f h n (suc i) k

pub tabulated_bytes : (f : ℕ → ℕ) → ((i : ℕ) → f i < 256) → (n : ℕ) → Bytes (tabulated f n)
tabulated_bytes f h n = from_bytes f h n 0

pub block_of : (f : ℕ → ℕ) → ((i : ℕ) → f i < 256) → Block (block f)
block_of f h = record { sixteen = refl; bytes = tabulated_bytes f h 16 }

pub block_same : (f g : ℕ → ℕ) → ((i : ℕ) → f i ≡ g i) → block f ≡ block g
block_same f g h = λ j. block (λ i. h i j)

part_from : (s : List ℕ) (n i : ℕ) → i + n ≤ length s → tabulated_from (λ k. get_or s k 0) i n ≡ take n (drop i s)
part_from s zero i h = refl
part_from s (suc n) i h =
    ap {B = List ℕ} (λ l. get_or s i 0 ∷ l) (part_from s n (suc i) (omega arith))
    ∙ ap {B = List ℕ} (take (suc n)) (sym (drop-cons s i 0 (omega arith)))

-- the first block of a list that has one
pub first_block_is : (s : List ℕ) → 16 ≤ length s → first_block s ≡ take 16 s
unfolding first_block
first_block_is s h = part_from s 16 0 (omega arith)

-- a list of sixteen is what stands at its sixteen places
pub whole : (s : List ℕ) → length s ≡ 16 → block (λ i. get_or s i 0) ≡ s
whole s e = part_from s 16 0 (omega arith) ∙ take_all 16 s (omega arith)

pub xor_is_block : (a b : List ℕ) → Bytes a → Bytes b → Block (xor a b)
unfolding xor
xor_is_block a b ha hb = block_of (λ i. bit_xor (get_or a i 0) (get_or b i 0)) (λ i. byte_xor (ha i) (hb i))

pub xor_undone : (a b : List ℕ) → length a ≡ 16 → xor (xor a b) b ≡ a
unfolding xor
xor_undone a b e = block_same (λ i. bit_xor (bit_xor (get_or a i 0) (get_or b i 0)) (get_or b i 0)) (λ i. get_or a i 0)
    (λ i. xor_twice (get_or a i 0) (get_or b i 0)) ∙ whole a e

-- through the table of f each byte becomes its f
pub substituted_by : (f : ℕ → ℕ) (t s : List ℕ) → t ≡ tabulated f 256 → Bytes s
    → substituted t s ≡ block (λ i. f (get_or s i 0))
unfolding substituted
substituted_by f t s e h =
    block_same (λ i. get_or t (get_or s i 0) 0) (λ i. f (get_or s i 0))
    (λ i. ap (λ (l : List ℕ). get_or l (get_or s i 0) 0) e ∙ entry_at 0 f 256 (get_or s i 0) (h i))
