-- Bodies that stand one behind the other: read into a table, laid into an image, and read again.
use mathlib.Core.Path.{◌≡◌, refl, sym, ap, ap₂, subst, ◌∙◌}
use mathlib.Core.List.{List, [], ◌∷◌, ◌++◌, append_assoc, append-nil}
use Prim.Native.Nat.{ℕ, zero, suc, ◌+◌, ◌*◌, ◌≤◌, ◌<◌}
use native.Mathlib.Omega.{arith}
use native.Mathlib.Nat.{mul-suc}
use denote.Param.Members.{Mut, Called}
use Rattle.std.specs.Array.{IsFromFnResult, IsFromFnResultFrom}
use lib.ListN.{length, take, drop, get_or, length-append, drop_of_length-le}
use lib.Seq.{take-suc, take_at, drop_at, drop-drop, drop-cons, length-take-le}
use Rattle.modes.specs.Room.{over}
use Rattle.payload.proofs.Overs.{put_next}
use Rattle.image.specs.Image.{bodies, said_in}

-- ---- read

-- An array whose element i is what body i says, by a closure that is called at each place and changes nothing that it
-- captured.
module _ {A F : Type 0} {g : Mut F (ℕ × Unit {0}) A} {f : F} (says : List ℕ → A) (long at : ℕ) (image : List ℕ) (n : ℕ)
    (answers : (i : ℕ) (y : A) (q : F) → i < n → Called g f (i, tt) y q
    → (q ≡ f) × (y ≡ says (take long (drop (at + long * i) image)))) where
  said_behind : (ys : List A) (m i : ℕ) → i + m ≡ n → length ys ≡ n → IsFromFnResultFrom g f ys i m
      → drop i ys ≡ said_in says long m (drop (at + long * i) image)
  unfolding said_in
  said_behind ys zero i e l r = drop_of_length-le ys {i = i} (omega arith)
  said_behind ys (suc m) i e l (q, y, el, called, r) =
      let a = answers i y q (omega arith) called in
      let p : at + long * (i + 1) ≡ at + long * i + long = let h = mul-suc long i in omega arith in
      let rest =
      said_behind ys m (i + 1) (omega arith) l (subst (λ (p : F). IsFromFnResultFrom g p ys (i + 1) m) a.0 r) in
      drop-cons ys i y (omega arith)
      ∙ ap₂ ◌∷◌ (el.1 y ∙ a.1)
      (ap (λ (j : ℕ). drop j ys) (let h : suc i ≡ i + 1 = omega arith in h)
      ∙ rest
      ∙ ap (said_in says long m) (ap (λ (j : ℕ). drop j image) p ∙ sym (drop-drop long (at + long * i) image)))

  pub said_each : {ys : List A} → IsFromFnResult g f ys n → ys ≡ said_in says long n (drop at image)
  said_each {ys} r =
      said_behind ys n 0 (omega arith) r.long r.each
      ∙ ap (λ (j : ℕ). said_in says long n (drop j image)) (let h : at + long * 0 ≡ at = omega arith in h)

-- ---- laid

module _ {A : Type 0} (body : A → List ℕ) (long : ℕ) (even : (x : A) → length (body x) ≡ long) where
  pub bodies_length : (xs : List A) → length (bodies body xs) ≡ long * length xs
  unfolding bodies
  bodies_length [] = omega arith
  bodies_length (x ∷ xs) =
      length-append (body x) (bodies body xs) ∙ ap₂ ◌+◌ (even x) (bodies_length xs)
      ∙ (let e : long + long * length xs ≡ long * length xs + long = omega arith in e)
      ∙ sym (mul-suc long (length xs))

  bodies_join : (xs ys : List A) → bodies body (xs ++ ys) ≡ bodies body xs ++ bodies body ys
  unfolding bodies
  bodies_join [] ys = refl
  bodies_join (x ∷ xs) ys =
      ap (λ (l : List ℕ). body x ++ l) (bodies_join xs ys)
      ∙ sym (append_assoc (body x) (bodies body xs) (bodies body ys))

  module _ (xs : List A) (d : A) (image : List ℕ) (at : ℕ) (room : at ≤ length image) where
    -- the first i bodies stand in an image, from place `at` on
    abbrev pub LaidTo : List ℕ → ℕ → Type 0
    LaidTo now i = now ≡ over (take at image ++ bodies body (take i xs)) image

    pub lay_more : (i p : ℕ) (z now after : List ℕ) → i < length xs → p ≡ at + long * i → z ≡ body (get_or xs i d)
        → LaidTo now i → after ≡ take p now ++ over z (drop p now) → LaidTo after (i + 1)
    unfolding bodies
    lay_more i p z now after h q e f g =
        let b = bodies body (take i xs) in
        let n : length (take at image ++ b) ≡ p =
        length-append (take at image) b
        ∙ ap₂ ◌+◌ (length-take-le at image room)
        (bodies_length (take i xs) ∙ ap (λ (k : ℕ). long * k) (length-take-le i xs (omega arith)))
        ∙ sym q in
        let a : i + 1 ≡ suc i = omega arith in
        let m : b ++ z ≡ bodies body (take (i + 1) xs) =
        ap (λ (l : List ℕ). b ++ l) (e ∙ sym (append-nil (body (get_or xs i d))))
        ∙ sym (bodies_join (take i xs) (get_or xs i d ∷ []))
        ∙ ap (bodies body) (sym (ap (λ (k : ℕ). take k xs) a ∙ take-suc xs i d h)) in
        put_next (take at image ++ b) z image now after p n f g
        ∙ ap (λ (l : List ℕ). over l image)
        (append_assoc (take at image) b z ∙ ap (λ (l : List ℕ). take at image ++ l) m)

-- ---- read again

pub said_back : {A : Type 0} (says : List ℕ → A) (body : A → List ℕ) (long : ℕ) → ((x : A) → length (body x) ≡ long)
    → ((x : A) → says (body x) ≡ x) → (xs : List A) (rest : List ℕ)
    → said_in says long (length xs) (bodies body xs ++ rest) ≡ xs
unfolding said_in bodies
said_back says body long even back [] rest = refl
said_back says body long even back (x ∷ xs) rest =
    let e = append_assoc (body x) (bodies body xs) rest in
    let r = bodies body xs ++ rest in
    ap₂ ◌∷◌
    (ap says (ap (take long) e ∙ take_at (body x) r long (even x)) ∙ back x)
    (ap (said_in says long (length xs)) (ap (drop long) e ∙ drop_at (body x) r long (even x))
    ∙ said_back says body long even back xs rest)
