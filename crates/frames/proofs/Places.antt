-- What stands at a place of a list.
use mathlib.Core.Path.{◌≡◌, sym, ap, ◌∙◌}
use mathlib.Core.List.{List, ◌++◌}
use Prim.Native.Nat.{ℕ, ◌+◌}
use lib.ListN.{length, get_or}
use lib.Seq.{get_or-append-add}

-- what follows a list of n
pub behind : (xs ys : List ℕ) (n i : ℕ) → length xs ≡ n → get_or (xs ++ ys) (n + i) 0 ≡ get_or ys i 0
behind xs ys n i e = ap (λ (k : ℕ). get_or (xs ++ ys) (k + i) 0) (sym e) ∙ get_or-append-add xs ys i 0
