-- Each round key of KeyExpansion is the next of the one before it.
use mathlib.Core.Path.{◌≡◌, sym, ap, ◌∙◌}
use mathlib.Core.List.{List, []}
use Prim.Native.Nat.{ℕ, suc, ◌+◌, ◌*◌, ◌/◌, ◌%◌, ◌<◌}
use native.Mathlib.Omega.{arith}
use lib.Dec.{eqb}
use lib.ListN.{length, get_or, take, drop}
use Rattle.std.proofs.lemmas.List.{get_or-take}
use Rattle.std.proofs.lemmas.Grind.{get_or_after_one}
use Rattle.field.proofs.Block.{whole}
use Rattle.aes.specs.KeyExpansion.{word, xor_word, turned, round_constant, w, round_key}
use Rattle.aes.specs.NextRoundKey.{columns, next_round_key}

-- word i + 4, where i is j words into the four of round n
step : (key : List ℕ) (n j i m r : ℕ) → i ≡ suc (suc (suc (suc j))) → (4 + j) % 4 ≡ r → (4 + j) / 4 ≡ suc n
    → m ≡ suc (suc (suc j))
    → w key i ≡ xor_word (w key j) (turned (eqb r 0) (suc n) (w key m))
unfolding w
step key n j i m r e f g h =
    ap (w key) e ∙ (λ k. xor_word (w key j) (turned (eqb (f k) 0) (g k) (w key (sym h k))))

-- the sixteen bytes of four words
abbrev four_words : List ℕ → List ℕ → List ℕ → List ℕ → List ℕ
four_words a b c d = columns (word (λ i. get_or a i 0)) (word (λ i. get_or b i 0)) (word (λ i. get_or c i 0))
    (word (λ i. get_or d i 0))

pub next_round_key_lem : (key : List ℕ) (n : ℕ) → round_key key (suc n) ≡ next_round_key (round_constant (suc n))
    (round_key key n)
unfolding round_key next_round_key
next_round_key_lem key n =
    let e0 = step key n (4 * n + 0) (4 * suc n + 0) (4 * n + 3) 0 (omega arith) (omega arith) (omega arith)
    (omega arith) in
    let e1 = step key n (4 * n + 1) (4 * suc n + 1) (4 * suc n + 0) 1 (omega arith) (omega arith) (omega arith)
    (omega arith) ∙ ap (xor_word (w key (4 * n + 1))) e0 in
    let e2 = step key n (4 * n + 2) (4 * suc n + 2) (4 * suc n + 1) 2 (omega arith) (omega arith) (omega arith)
    (omega arith) ∙ ap (xor_word (w key (4 * n + 2))) e1 in
    let e3 = step key n (4 * n + 3) (4 * suc n + 3) (4 * suc n + 2) 3 (omega arith) (omega arith) (omega arith)
    (omega arith) ∙ ap (xor_word (w key (4 * n + 3))) e2 in
    λ k. four_words (e0 k) (e1 k) (e2 k) (e3 k)

pub first_round_key : (key : List ℕ) → length key ≡ 16 → round_key key 0 ≡ key
unfolding round_key w
first_round_key key h = whole key h

-- the keys of the rounds 1 to 9, as a loop takes them
pub middle_key : (w : List (List ℕ)) (i : ℕ) → i < 9 → get_or (take 9 (drop 1 w)) i [] ≡ get_or w (i + 1) []
middle_key w i h =
    get_or-take 9 (drop 1 w) i [] h ∙ get_or_after_one w i []
    ∙ ap (λ (j : ℕ). get_or w j []) (let e : 1 + i ≡ i + 1 = omega arith in e)
