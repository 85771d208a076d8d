-- Bytes taken one by one, and what was found of the opened block.
use mathlib.Core.Path.{◌≡◌, ◌∙◌}
use mathlib.Core.Bool.{Bool}
use mathlib.Core.List.{List, [], ◌∷◌, ◌++◌}
use Prim.Native.Nat.{ℕ}
use lib.ListN.{length, get_or, take, drop}
use Rattle.payload.proofs.Bytes.{listed}
use Rattle.reader_judge.specs.Opened.{block_fits, challenge_in}

-- the tag's challenge out of its two parts
pub challenge_made : (b reply : List ℕ) → length b ≡ 16 → length reply ≡ 22
    → get_or reply 16 0 ∷ get_or reply 17 0 ∷ get_or reply 18 0 ∷ get_or reply 19 0 ∷ get_or reply 20 0
    ∷ get_or reply 21 0 ∷ get_or b 2 0 ∷ get_or b 3 0 ∷ get_or b 4 0 ∷ get_or b 5 0 ∷ []
    ≡ challenge_in b reply
unfolding challenge_in
challenge_made b reply h e = λ i. drop 16 (listed reply 22 e i) ++ take 4 (drop 2 (listed b 16 h i))

-- what was found of a block, of the same constant, challenge and block
pub block_told : {r : Bool} {k l i j b d : List ℕ} → k ≡ l → i ≡ j → b ≡ d → r ≡ block_fits k i b → r ≡ block_fits l j d
block_told p q s e = e ∙ (λ t. block_fits (p t) (q t) (s t))
