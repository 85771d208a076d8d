-- The MAC's chain, block by block; and the doubling, byte by byte.
use mathlib.Core.Path.{◌≡◌, refl, sym, ap, ap₂, ◌∙◌, subst}
use mathlib.Core.Logic.{◌⊎◌, inl, inr, ⊎_elim}
use mathlib.Core.List.{List, [], ◌∷◌, ◌++◌, append-nil}
use Prim.Native.Nat.{ℕ, zero, suc, min, ◌+◌, ◌-◌, ◌*◌, ◌/◌, ◌%◌, ◌≤◌, ◌<◌}
use native.Mathlib.Omega.{arith}
use lib.ListN.{length, get_or, set, take, drop, length-drop, length-append, get_or-eq_default}
use Rattle.std.proofs.lemmas.List.{nil_from_length}
use lib.Seq.{drop-drop, take_at, drop_at}
use lib.Bits.{bit_xor, xor_shifted, xor_zero_r}
use Rattle.field.specs.Block.{xor}
use Rattle.field.proofs.Table.{same_at, entry_at}
use Rattle.field.proofs.Fill.{Filled, one_more_lem, filled}
use Rattle.aes.specs.AesEnc.{aes_enc}
use Rattle.modes.specs.Blocks.{whole_blocks}
use Rattle.modes.specs.Cmac.{last_byte, shifted_left, doubled, masked, mac_chain}
use Rattle.modes.proofs.Chains.{no_block, first_and_rest}
use Rattle.modes.proofs.Whole.{whole_parts, whole_last}

pub mac_none : (key c s : List ℕ) → length s < 16 → mac_chain key c (whole_blocks s) ≡ c
unfolding mac_chain
mac_none key c s h = ap (mac_chain key c) (no_block s h)

pub mac_more : (key c s : List ℕ) → 16 ≤ length s
    → mac_chain key c (whole_blocks s) ≡ mac_chain key (aes_enc key (xor c (take 16 s))) (whole_blocks (drop 16 s))
unfolding mac_chain
mac_more key c s h = ap (mac_chain key c) (first_and_rest s h)

-- the chain over two parts
mac_parts : (key : List ℕ) (bs cs : List (List ℕ)) (c : List ℕ)
    → mac_chain key c (bs ++ cs) ≡ mac_chain key (mac_chain key c bs) cs
unfolding mac_chain
mac_parts key [] cs c = refl
mac_parts key (b ∷ bs) cs c = mac_parts key bs cs (aes_enc key (xor c b))

-- the rest of s, chained to what the chain over the part from `at` to `end` gave, completes it
pub mac_part : (key c s : List ℕ) (at end : ℕ) → (end - at) % 16 ≡ 0 → at ≤ end → end ≤ length s
    → mac_chain key (mac_chain key c (whole_blocks (take (end - at) (drop at s)))) (whole_blocks (drop end s))
    ≡ mac_chain key c (whole_blocks (drop at s))
mac_part key c s at end w l h =
    let t : List ℕ = drop at s in
    let n = end - at in
    let p : at + n ≡ end = omega arith in
    ap (λ (l : List ℕ). mac_chain key (mac_chain key c (whole_blocks (take n t))) (whole_blocks l))
    (sym (drop-drop n at s ∙ ap (λ (i : ℕ). drop i s) p))
    ∙ sym (ap (mac_chain key c) (whole_parts n t w (omega (arith, length-drop at s)))
    ∙ mac_parts key (whole_blocks (take n t)) (whole_blocks (drop n t)) c)

-- K1 is added to the last block alone
masked_last : (k1 : List ℕ) (bs : List (List ℕ)) (m : List ℕ) → masked k1 (bs ++ (m ∷ [])) ≡ bs ++ (xor k1 m ∷ [])
unfolding masked
masked_last k1 [] m = refl
masked_last k1 (b ∷ []) m = refl
masked_last k1 (b ∷ c ∷ bs) m = ap {B = List (List ℕ)} (λ ms. b ∷ ms) (masked_last k1 (c ∷ bs) m)

-- the chain over all blocks but the last, and then the last
pub mac_last : (key k1 c s : List ℕ) (n : ℕ) → n % 16 ≡ 0 → length s ≡ n + 16
    → mac_chain key c (masked k1 (whole_blocks s))
    ≡ aes_enc key (xor (mac_chain key c (whole_blocks (take n s))) (xor k1 (drop n s)))
unfolding mac_chain
mac_last key k1 c s n w e =
    ap (mac_chain key c) (ap (masked k1) (whole_last n s w e) ∙ masked_last k1 (whole_blocks (take n s)) (drop n s))
    ∙ mac_parts key (whole_blocks (take n s)) (xor k1 (drop n s) ∷ []) c

-- ---- the doubling

-- byte i of a doubled block
abbrev pub doubled_byte : List ℕ → ℕ → ℕ
doubled_byte l i = bit_xor (get_or (shifted_left l) i 0) (get_or (last_byte (get_or l 0 0 / 128 * 0x87)) i 0)

-- a byte shifted, and the next byte's highest bit below it
shifted_byte : (a b : ℕ) → b < 256 → bit_xor (a * 2 % 256) (b / 128) ≡ a * 2 % 256 + b / 128
shifted_byte a b h =
    let e : a * 2 % 256 ≡ a % 128 * 2 = omega arith in
    ap (λ (x : ℕ). bit_xor x (b / 128)) e ∙ xor_shifted (a % 128) 1 (b / 128) (omega arith)
    ∙ sym (ap (λ (x : ℕ). x + b / 128) e)

last_byte_else : (q i : ℕ) → i < 15 → get_or (last_byte q) i 0 ≡ 0
last_byte_else q = same_at (λ i. get_or (last_byte q) i 0) (λ i. 0) 15 refl

pub doubled_inner : (l : List ℕ) (i : ℕ) → i < 15 → get_or l (i + 1) 0 < 256
    → bit_xor (get_or l i 0 * 2 % 256) (get_or l (i + 1) 0 / 128) ≡ doubled_byte l i
unfolding shifted_left
doubled_inner l i h b =
    shifted_byte (get_or l i 0) (get_or l (i + 1) 0) b
    ∙ sym (entry_at 0 (λ i. get_or l i 0 * 2 % 256 + get_or l (i + 1) 0 / 128) 16 i (omega arith))
    ∙ sym (xor_zero_r (get_or (shifted_left l) i 0))
    ∙ ap (bit_xor (get_or (shifted_left l) i 0)) (sym (last_byte_else (get_or l 0 0 / 128 * 0x87) i h))

doubled_last : (l : List ℕ) → length l ≡ 16
    → bit_xor (get_or l 15 0 * 2 % 256) (get_or l 0 0 / 128 * 0x87) ≡ doubled_byte l
    15
unfolding shifted_left
doubled_last l e =
    let none : get_or l 15 0 * 2 % 256 ≡ get_or l 15 0 * 2 % 256 + get_or l 16 0 / 128 =
    omega (arith, get_or-eq_default l 0 {n = 16} (omega (arith, e))) in
    ap (λ (x : ℕ). bit_xor x (get_or l 0 0 / 128 * 0x87)) none

-- fifteen bytes are filled, and the last is stored
pub doubled_whole : (l r : List ℕ) (i : ℕ) → length l ≡ 16 → i ≡ 15 → Filled (doubled_byte l) 16 r i
    → set r 15 (bit_xor (get_or l 15 0 * 2 % 256) (get_or l 0 0 / 128 * 0x87)) ≡ doubled l
unfolding doubled xor
doubled_whole l r i e f inv =
    filled (doubled_byte l) 16 (set r 15 (bit_xor (get_or l 15 0 * 2 % 256) (get_or l 0 0 / 128 * 0x87))) 16
    (omega arith)
    (one_more_lem (doubled_byte l) 16 r 15 (bit_xor (get_or l 15 0 * 2 % 256) (get_or l 0 0 / 128 * 0x87)) (omega arith)
    (doubled_last l e) (subst (λ (j : ℕ). Filled (doubled_byte l) 16 r j) f inv))

less_or_more : (a b : ℕ) → (a < b) ⊎ (b ≤ a)
less_or_more a zero = inr (omega arith)
less_or_more zero (suc b) = inl (omega arith)
less_or_more (suc a) (suc b) =
    ⊎_elim (λ (h : a < b). inl (omega arith)) (λ (h : b ≤ a). inr (omega arith)) (less_or_more a b)

-- the chain over the first n bytes, or over all where there are fewer, and then over the rest
pub mac_first : (key c s part rest : List ℕ) (n : ℕ) → n % 16 ≡ 0 → s ≡ part ++ rest → length part ≡ min n (length s)
    → mac_chain key (mac_chain key c (whole_blocks part)) (whole_blocks rest) ≡ mac_chain key c (whole_blocks s)
mac_first key c s part rest n w e l =
    let both : length s ≡ length part + length rest = ap length e ∙ length-append part rest in
    ⊎_elim
    (λ (short : length s < n).
    let none : length rest ≡ 0 = omega arith in
    let all : part ≡ s = sym (append-nil part) ∙ ap (λ (t : List ℕ). part ++ t) (sym (nil_from_length rest none))
    ∙ sym e in
    mac_none key (mac_chain key c (whole_blocks part)) rest (omega arith)
    ∙ ap (λ (t : List ℕ). mac_chain key c (whole_blocks t)) all)
    (λ (long : n ≤ length s).
    let m : length part ≡ n = omega arith in
    ap₂ (λ (x y : List ℕ). mac_chain key (mac_chain key c (whole_blocks x)) (whole_blocks y))
    (sym (ap (take n) e ∙ take_at part rest n m)) (sym (ap (drop n) e ∙ drop_at part rest n m))
    ∙ ap (λ (k : ℕ). mac_chain key (mac_chain key c (whole_blocks (take k s))) (whole_blocks (drop n s)))
    (let z : n ≡ n - 0 = omega arith in z)
    ∙ mac_part key c s 0 n (omega (arith, w)) (omega arith) long)
    (less_or_more (length s) n)
