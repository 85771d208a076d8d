-- Blocks and bytes: a list of whole blocks is its blocks joined, and blocks that are joined come apart again.
use mathlib.Core.Path.{◌≡◌, refl, sym, ap, ap₂, ◌∙◌, subst}
use mathlib.Core.List.{List, [], ◌∷◌, ◌++◌, append_assoc}
use Prim.Native.Nat.{ℕ, zero, suc, ◌+◌, ◌*◌, ◌/◌, ◌%◌, ◌≤◌, ◌<◌}
use native.Mathlib.Omega.{arith}
use lib.Dec.{lit<}
use lib.ListN.{length, take, drop, length-append, length-drop, take-append-drop}
use lib.Seq.{take_all, take_at, drop_at, take-append-le, drop-append-le, length-take-le, get_or-drop}
use Rattle.ground.specs.Bytes.{Bytes}
use Rattle.field.proofs.Block.{Block}
use Rattle.modes.specs.Blocks.{blocks, whole_blocks, joined}
use Rattle.modes.proofs.Chains.{no_block, first_and_rest}

-- each of them is a block of bytes
abbrev pub Blocks : List (List ℕ) → Type 0
Blocks [] = Unit
Blocks (b ∷ bs) = Block b × Blocks bs

bytes_drop : (n : ℕ) (s : List ℕ) → Bytes s → Bytes (drop n s)
bytes_drop n s h i = subst (λ (x : ℕ). x < 256) (sym (get_or-drop n s i 0)) (h (n + i))

pub bytes_take : (n : ℕ) (s : List ℕ) → Bytes s → Bytes (take n s)
bytes_take zero s h i = lit< tt
bytes_take (suc n) [] h i = h i
bytes_take (suc n) (x ∷ s) h zero = h 0
bytes_take (suc n) (x ∷ s) h (suc i) = bytes_take n s (λ j. h (suc j)) i

bytes_append : (s t : List ℕ) → Bytes s → Bytes t → Bytes (s ++ t)
bytes_append [] t h k i = k i
bytes_append (x ∷ s) t h k zero = h 0
bytes_append (x ∷ s) t h k (suc i) = bytes_append s t (λ j. h (suc j)) k i

blocks_are : (n : ℕ) (s : List ℕ) → Bytes s → n * 16 ≤ length s → Blocks (blocks n s)
unfolding blocks
blocks_are zero s h l = tt
blocks_are (suc n) s h l = (
  record { sixteen = length-take-le 16 s (omega arith); bytes = bytes_take 16 s h },
  blocks_are n (drop 16 s) (bytes_drop 16 s h) (omega (arith, length-drop 16 s)),
)

pub whole_are : (s : List ℕ) → Bytes s → Blocks (whole_blocks s)
unfolding whole_blocks
whole_are s h = blocks_are (length s / 16) s h (omega arith)

joined_blocks : (n : ℕ) (s : List ℕ) → n * 16 ≡ length s → joined (blocks n s) ≡ s
unfolding joined blocks
joined_blocks zero [] e = refl
joined_blocks zero (x ∷ s) e = absurd (let z : ⊥ = omega arith in z)
joined_blocks (suc n) s e = ap (λ (l : List ℕ). take 16 s ++ l)
    (joined_blocks n (drop 16 s) (omega (arith, length-drop 16 s))) ∙ take-append-drop 16 s

pub joined_whole : (s : List ℕ) → length s % 16 ≡ 0 → joined (whole_blocks s) ≡ s
unfolding whole_blocks
joined_whole s e = joined_blocks (length s / 16) s (omega arith)

pub whole_joined : (bs : List (List ℕ)) → Blocks bs → whole_blocks (joined bs) ≡ bs
unfolding joined
whole_joined [] h = no_block [] (lit< tt)
whole_joined (b ∷ bs) (hb, h) =
    first_and_rest (b ++ joined bs) (omega (arith, length-append b (joined bs), hb.sixteen))
    ∙ ap₂ {C = List (List ℕ)} (λ x y. x ∷ whole_blocks y) (take_at b (joined bs) 16 hb.sixteen)
    (drop_at b (joined bs) 16 hb.sixteen)
    ∙ ap {B = List (List ℕ)} (λ l. b ∷ l) (whole_joined bs h)

pub joined_bytes : (bs : List (List ℕ)) → Blocks bs → Bytes (joined bs)
unfolding joined
joined_bytes [] h = λ i. lit< tt
joined_bytes (b ∷ bs) (hb, h) = bytes_append b (joined bs) hb.bytes (joined_bytes bs h)

pub joined_length : (bs : List (List ℕ)) → Blocks bs → length (joined bs) ≡ length bs * 16
unfolding joined
joined_length [] h = refl
joined_length (b ∷ bs) (hb, h) = length-append b (joined bs) ∙ omega (arith, hb.sixteen, joined_length bs h)

blocks_count : (n : ℕ) (s : List ℕ) → length (blocks n s) ≡ n
unfolding blocks
blocks_count zero s = refl
blocks_count (suc n) s = ap suc (blocks_count n (drop 16 s))

pub whole_count : (s : List ℕ) → length (whole_blocks s) ≡ length s / 16
unfolding whole_blocks
whole_count s = blocks_count (length s / 16) s

-- ---- parts

pub joined_append : (bs cs : List (List ℕ)) → joined (bs ++ cs) ≡ joined bs ++ joined cs
unfolding joined
joined_append [] cs = refl
joined_append (b ∷ bs) cs =
    ap (λ (l : List ℕ). b ++ l) (joined_append bs cs) ∙ sym (append_assoc b (joined bs) (joined cs))

blocks_append : (n : ℕ) (a b : List ℕ) → n * 16 ≡ length a → whole_blocks (a ++ b) ≡ whole_blocks a ++ whole_blocks b
blocks_append zero [] b e = ap (λ (bs : List (List ℕ)). bs ++ whole_blocks b) (sym (no_block [] (lit< tt)))
blocks_append zero (x ∷ a) b e = absurd (let z : ⊥ = omega arith in z)
blocks_append (suc n) a b e =
    let h : 16 ≤ length a = omega arith in
    first_and_rest (a ++ b) (omega (arith, length-append a b))
    ∙ ap₂ {C = List (List ℕ)} (λ x y. x ∷ whole_blocks y) (take-append-le 16 a b h) (drop-append-le 16 a b h)
    ∙ ap {B = List (List ℕ)} (λ bs. take 16 a ∷ bs)
    (blocks_append n (drop 16 a) b (omega (arith, length-drop 16 a)))
    ∙ ap (λ (bs : List (List ℕ)). bs ++ whole_blocks b) (sym (first_and_rest a h))

-- the blocks of two parts, where the first is whole blocks
pub whole_parts : (n : ℕ) (s : List ℕ) → n % 16 ≡ 0 → n ≤ length s
    → whole_blocks s ≡ whole_blocks (take n s) ++ whole_blocks (drop n s)
whole_parts n s e h =
    ap whole_blocks (sym (take-append-drop n s))
    ∙ blocks_append (n / 16) (take n s) (drop n s) (omega (arith, length-take-le n s h))

-- the last block apart
pub whole_last : (n : ℕ) (s : List ℕ) → n % 16 ≡ 0 → length s ≡ n + 16
    → whole_blocks s ≡ whole_blocks (take n s) ++ (drop n s ∷ [])
whole_last n s e h =
    let one : length (drop n s) ≡ 16 = length-drop n s ∙ omega arith in
    whole_parts n s e (omega arith)
    ∙ ap (λ (bs : List (List ℕ)). whole_blocks (take n s) ++ bs)
    (first_and_rest (drop n s) (omega arith)
    ∙ ap₂ {C = List (List ℕ)} (λ x y. x ∷ y) (take_all 16 (drop n s) (omega arith))
    (no_block (drop 16 (drop n s)) (omega (arith, length-drop 16 (drop n s)))))
