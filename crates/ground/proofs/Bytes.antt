-- Lists of bytes, taken apart and put together.
use mathlib.Core.List.{List, [], ◌∷◌, ◌++◌}
use Prim.Native.Nat.{ℕ, zero, suc, ◌+◌, ◌/◌, ◌%◌, ◌<◌}
use native.Mathlib.Omega.{arith}
use lib.ListN.{take, drop}
use lib.Seq.{get_or-drop}
use Rattle.ground.specs.Bytes.{Bytes, two_bytes}

pub bytes_none : Bytes []
bytes_none i = omega arith

pub bytes_cons : (x : ℕ) (s : List ℕ) → x < 256 → Bytes s → Bytes (x ∷ s)
bytes_cons x s l h zero = l
bytes_cons x s l h (suc i) = h i

pub bytes_tail : (x : ℕ) (s : List ℕ) → Bytes (x ∷ s) → Bytes s
bytes_tail x s h i = h (suc i)

pub bytes_take : (n : ℕ) (s : List ℕ) → Bytes s → Bytes (take n s)
bytes_take zero s h i = omega arith
bytes_take (suc n) [] h i = omega arith
bytes_take (suc n) (x ∷ s) h zero = h zero
bytes_take (suc n) (x ∷ s) h (suc i) = bytes_take n s (bytes_tail x s h) i

pub bytes_drop : (n : ℕ) (s : List ℕ) → Bytes s → Bytes (drop n s)
bytes_drop n s h i = rw (get_or-drop n s i 0) (h (n + i))

pub bytes_join : (s t : List ℕ) → Bytes s → Bytes t → Bytes (s ++ t)
bytes_join [] t h w i = w i
bytes_join (x ∷ s) t h w zero = h zero
bytes_join (x ∷ s) t h w (suc i) = bytes_join s t (bytes_tail x s h) w i

pub two_bytes_lem : (n : ℕ) → n < 65536 → Bytes (two_bytes n)
two_bytes_lem n h = bytes_cons (n / 256) (n % 256 ∷ []) (omega arith) (bytes_cons (n % 256) [] (omega arith) bytes_none)
