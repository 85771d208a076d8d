-- The authentication block from its parts: the draws' first four.
use mathlib.Core.Path.{◌≡◌, ap, ◌∙◌}
use mathlib.Core.List.{List, [], ◌∷◌, ◌++◌}
use Prim.Native.Nat.{ℕ}
use lib.ListN.{length, get_or}
use Rattle.aes.specs.AesEnc.{aes_enc}
use Rattle.payload.proofs.Bytes.{first_four}
use Rattle.tam.specs.Replies.{tam_block}

pub tam_block_made : (enc constant draws ichallenge b r : List ℕ) → length draws ≡ 10
    → b ≡ constant ++ ((get_or draws 0 0 ∷ get_or draws 1 0 ∷ get_or draws 2 0 ∷ get_or draws 3 0 ∷ []) ++ ichallenge)
    → r ≡ aes_enc enc b → r ≡ tam_block enc constant draws ichallenge
unfolding tam_block
tam_block_made enc constant draws ichallenge b r h q s =
    s ∙ ap (aes_enc enc) (q ∙ ap (λ (l : List ℕ). constant ++ (l ++ ichallenge)) (first_four draws h))
