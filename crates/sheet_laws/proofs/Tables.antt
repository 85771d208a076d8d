-- Tables that are filled from the front.
use mathlib.Core.Path.{◌≡◌, sym, ap, ◌∙◌}
use mathlib.Core.List.{List, [], ◌∷◌, ◌++◌, append_assoc, append-nil}
use Prim.Native.Nat.{ℕ, zero, suc, ◌+◌, ◌-◌, ◌≤◌, ◌<◌}
use native.Mathlib.Omega.{arith}
use lib.ListN.{length, take, set, replicate, length-append, length-replicate, take-append-drop}
use lib.Seq.{set-append_seam, length-take-le}
use Rattle.sheet.specs.Within.{Table}

module _ {A : Type 0} (z : A) (limit : ℕ) where
  -- the entries xs, and z in all others
  abbrev pub filled : List A → List A
  filled xs = xs ++ replicate (limit - length xs) z

  pub longer : (xs : List A) (x : A) → length (xs ++ x ∷ []) ≡ length xs + 1
  longer xs x = length-append xs (x ∷ [])

  -- one more at the seam
  pub filled_more : (xs : List A) (x : A) → length xs < limit → set (filled xs) (length xs) x ≡ filled (xs ++ x ∷ [])
  filled_more xs x h =
      let m : limit - length xs ≡ suc (limit - (length xs + 1)) = omega arith in
      let r = replicate (limit - (length xs + 1)) z in
      rw (m, longer xs x, append_assoc xs (x ∷ []) r) (set-append_seam xs z r x)

  -- one more that is empty
  pub filled_empty : (xs : List A) → length xs < limit → filled xs ≡ filled (xs ++ z ∷ [])
  filled_empty xs h =
      let m : limit - length xs ≡ suc (limit - (length xs + 1)) = omega arith in
      rw (m, longer xs z, append_assoc xs (z ∷ []) (replicate (limit - (length xs + 1)) z))

  -- one more, at a place p behind a gap
  pub gap : (xs : List A) (d : ℕ) → length xs + d ≤ limit → filled xs ≡ filled (xs ++ replicate d z)
  gap xs zero h = ap filled (sym (append-nil xs))
  gap xs (suc d) h =
      let l = longer xs z in
      filled_empty xs (omega arith)
      ∙ gap (xs ++ z ∷ []) d (omega arith)
      ∙ ap filled (append_assoc xs (z ∷ []) (replicate d z))

  pub filled_far : (xs : List A) (x : A) (p : ℕ) → length xs ≤ p → p < limit
      → set (filled xs) p x ≡ filled (xs ++ (replicate (p - length xs) z ++ x ∷ []))
  filled_far xs x p h l =
      let d = p - length xs in
      let ys = xs ++ replicate d z in
      let e : length ys ≡ p = rw (length-append xs (replicate d z), length-replicate d z) (omega arith) in
      rw (gap xs d (omega arith), ← append_assoc xs (replicate d z) (x ∷ []))
      (ap (λ (n : ℕ). set (filled ys) n x) (sym e) ∙ filled_more ys x (rw e l))

  pub filled_all : (xs : List A) → length xs ≡ limit → filled xs ≡ xs
  filled_all xs e =
      let m : limit - length xs ≡ 0 = omega arith in
      rw m (append-nil xs)

  -- a table is its used entries, and z in all others
  pub used_length : (n : ℕ) (t : List A) → Table z limit n t → length (take n t) ≡ n
  used_length n t h = length-take-le n t (omega (arith, h.few, h.all))

  pub used_filled : (n : ℕ) (t : List A) → Table z limit n t → filled (take n t) ≡ t
  used_filled n t h = rw (used_length n t h, ← h.unused) (take-append-drop n t)
