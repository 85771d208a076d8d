use mathlib.Core.Path.{◌≡◌, sym, ap, ◌∙◌}
use mathlib.Core.List.{List, [], ◌∷◌}
use Prim.Native.Nat.{ℕ}
use lib.ListN.{get_or}
use lib.Bits.{bit_xor, xor_zero_r}
use Rattle.aes.specs.Cipher.{sub_bytes}
use Rattle.aes.specs.NextRoundKey.{next_round_key, added}
use Rattle.aes.proofs.next_round_key.Goals as goal

-- a byte of the substituted key, with a 0 of Rcon added
plus0 : (k s : List ℕ) (j : ℕ) → s ≡ sub_bytes k → get_or s j 0 ≡ bit_xor (get_or (sub_bytes k) j 0) 0
plus0 k s j e = ap (λ (t : List ℕ). get_or t j 0) e ∙ sym (xor_zero_r (get_or (sub_bytes k) j 0))

pub returns : goal.returns
unfolding next_round_key sub_bytes
returns c = let a = c.args in
    let e = c.sub_bytes-s.ensures in
    λ i. added a.k (bit_xor (get_or (e i) 13 0) a.c ∷ plus0 a.k c.sub_bytes-s.result 14 e i
    ∷ plus0 a.k c.sub_bytes-s.result 15 e i ∷ plus0 a.k c.sub_bytes-s.result 12 e i ∷ [])
