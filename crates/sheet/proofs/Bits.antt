-- A byte of bits gives each bit back, and has no bit above. Two bytes give a number back.
use mathlib.Core.Path.{◌≡◌, refl, sym, ap, fun_ext, ◌∙◌}
use mathlib.Core.Bool.{Bool, true, false}
use mathlib.Core.List.{List, [], ◌∷◌}
use Prim.Native.Nat.{ℕ, zero, suc, ◌+◌, ◌*◌, ◌/◌, ◌%◌, ◌^◌, ◌≤◌, ◌<◌}
use native.Mathlib.Omega.{arith}
use native.Mathlib.Nat.{pow-succ', zero-div, div-div-eq-div-mul}
use lib.ListN.{length, get_or}
use lib.Dec.{eqb}
use Rattle.ground.specs.Bytes.{bit_of}
use Rattle.sheet.specs.Records.{feature}
use Rattle.sheet.specs.Writer.{byte_of}

pub bit_small : (b : Bool) → bit_of b ≤ 1
bit_small true = omega arith
bit_small false = omega arith

pub bit_back : (b : Bool) → eqb (bit_of b) 1 ≡ b
bit_back true = refl
bit_back false = refl

halved : (n i : ℕ) → n / 2 ^ suc i ≡ n / 2 / 2 ^ i
halved n i = ap (λ (m : ℕ). n / m) (pow-succ' 2 i) ∙ sym (div-div-eq-div-mul n 2 (2 ^ i))

pub bit_at : (bs : List Bool) (i : ℕ) → feature i (byte_of bs) ≡ get_or bs i false
bit_at [] zero = refl
bit_at [] (suc i) = ap (λ (n : ℕ). eqb (n % 2) 1) (zero-div (2 ^ suc i))
bit_at (b ∷ bs) zero =
    let e : (bit_of b + 2 * byte_of bs) / 1 % 2 ≡ bit_of b = omega (arith, bit_small b) in
    ap (λ (n : ℕ). eqb n 1) e ∙ bit_back b
bit_at (b ∷ bs) (suc i) =
    let x = bit_of b + 2 * byte_of bs in
    let h : x / 2 ≡ byte_of bs = omega (arith, bit_small b) in
    let p : x / 2 ^ suc i ≡ byte_of bs / 2 ^ i = halved x i ∙ ap (λ (n : ℕ). n / 2 ^ i) h in
    ap (λ (n : ℕ). eqb (n % 2) 1) p ∙ bit_at bs i

pub byte_low : (bs : List Bool) → byte_of bs < 2 ^ length bs
byte_low [] = omega arith
byte_low (b ∷ bs) = rw (pow-succ' 2 (length bs)) (omega (arith, bit_small b, byte_low bs))

-- the entries of g at 0, 1, ..
abbrev pub tab : {A : Type 0} → (ℕ → A) → ℕ → List A
tab g zero = []
tab g (suc n) = g 0 ∷ tab (λ (i : ℕ). g (suc i)) n

pub bit_forth : (n : ℕ) → n < 2 → bit_of (eqb n 1) ≡ n
bit_forth zero h = refl
bit_forth (suc zero) h = refl
bit_forth (suc (suc n)) h = absurd (omega arith)

-- a number below 2 ^ k is the byte of its first k bits
pub bits_forth : (k n : ℕ) → n < 2 ^ k → byte_of (tab (λ (i : ℕ). feature i n) k) ≡ n
bits_forth zero n h = omega (arith, h)
bits_forth (suc k) n h =
    let l : n / 2 < 2 ^ k = let p = rw (pow-succ' 2 k) at h in omega arith in
    let p : (i : ℕ) → feature (suc i) n ≡ feature i (n / 2) = λ i. ap (λ (m : ℕ). eqb (m % 2) 1) (halved n i) in
    let q : byte_of (tab (λ (i : ℕ). feature (suc i) n) k) ≡ n / 2 =
    ap (λ (g : ℕ → Bool). byte_of (tab g k)) (fun_ext p) ∙ bits_forth k (n / 2) l in
    let b : bit_of (feature 0 n) ≡ n / 1 % 2 = bit_forth (n / 1 % 2) (omega arith) in
    omega (arith, q, b)

pub two_back : (n : ℕ) → n / 256 * 256 + n % 256 ≡ n
two_back n = omega arith

pub high : (x y : ℕ) → y < 256 → (x * 256 + y) / 256 ≡ x
high x y h = omega arith

pub low : (x y : ℕ) → y < 256 → (x * 256 + y) % 256 ≡ y
low x y h = omega arith
