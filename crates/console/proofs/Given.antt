-- The word that is given, and what is left behind it.
use Rattle.std.specs.Prelude.{Option, Some, None}
use mathlib.Core.Path.{◌≡◌, sym, ap, ◌∙◌}
use mathlib.Core.List.{List}
use Prim.Native.Nat.{ℕ, ◌+◌, ◌-◌}
use native.Mathlib.Nat.{le_refl}
use lib.ListN.{length, take, drop, length-drop}
use lib.Seq.{take_all}
use Rattle.std.specs.List.{position}
use Rattle.std.specs.Option.{unwrap_or}
use Rattle.console.specs.Words.{blank, visible, word_at, left_at, word_of, left_of}

module _ (s : List ℕ) where
  at : (n m : ℕ) (q : Option ℕ) → q ≡ position blank (drop (n + 1) s)
      → m ≡ unwrap_or q (length (drop (n + 1) s))
      → (Some (take (n + 1 + m - n) (drop n s)) ≡ word_at s (Some n)) × (drop (n + 1 + m) s ≡ left_at s (Some n))
  at n m q f g =
      let e : m ≡ unwrap_or (position blank (drop (n + 1) s)) (length (drop (n + 1) s)) =
      g ∙ ap (λ (o : Option ℕ). unwrap_or o (length (drop (n + 1) s))) f in
      (ap (λ (k : ℕ). Some (take (n + 1 + k - n) (drop n s))) e, ap (λ (k : ℕ). drop (n + 1 + k) s) e)

  pub behind : (n : ℕ) → take (length s - n) (drop n s) ≡ drop n s
  behind n = take_all (length s - n) (drop n s) (simp length-drop (le_refl _))

  pub given : (n m : ℕ) (r q : Option ℕ) → r ≡ position visible s → r ≡ Some n
      → q ≡ position blank (drop (n + 1) s) → m ≡ unwrap_or q (length (drop (n + 1) s))
      → (Some (take (n + 1 + m - n) (drop n s)) ≡ word_of s)
      × (take (length s - (n + 1 + m)) (drop (n + 1 + m) s) ≡ left_of s)
  given n m r q d e f g =
      let p : Some n ≡ position visible s = sym e ∙ d in
      ((at n m q f g).0 ∙ ap (word_at s) p, behind (n + 1 + m) ∙ (at n m q f g).1 ∙ ap (left_at s) p)

  pub none : (r : Option ℕ) → r ≡ position visible s → r ≡ None
      → (None ≡ word_of s) × (s ≡ left_of s)
  none r d e =
      let p : None ≡ position visible s = sym e ∙ d in
      (ap (word_at s) p, ap (left_at s) p)
