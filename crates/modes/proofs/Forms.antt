-- The forms of the standard, by their output blocks; and the chain over a first block and the rest.
use mathlib.Core.Path.{◌≡◌, refl, sym, ap, ◌∙◌}
use mathlib.Core.List.{List, [], ◌∷◌}
use Prim.Native.Nat.{ℕ, ◌≤◌, ◌<◌}
use lib.ListN.{length, take, drop}
use Rattle.field.specs.Block.{xor}
use Rattle.modes.specs.Blocks.{whole_blocks}
use Rattle.modes.specs.Cbc.{cbc_enc, cbc_dec}
use Rattle.modes.specs.Forms.{outputs, handed, enc_out, dec_out}
use Rattle.modes.proofs.Chains.{no_block, first_and_rest}

pub enc_outputs : (way : List ℕ → List ℕ → List ℕ) (key : List ℕ) (bs : List (List ℕ)) (iv : List ℕ)
    → outputs (enc_out way key) (enc_out way key) iv bs ≡ cbc_enc (way key) iv bs
unfolding outputs cbc_enc
enc_outputs way key [] iv = refl
enc_outputs way key (b ∷ bs) iv =
    ap {B = List (List ℕ)} (λ os. way key (xor b iv) ∷ os) (enc_outputs way key bs (way key (xor b iv)))

pub dec_outputs : (way : List ℕ → List ℕ → List ℕ) (key : List ℕ) (bs : List (List ℕ)) (iv : List ℕ)
    → outputs (dec_out way key) (λ c b. b) iv bs ≡ cbc_dec (way key) iv bs
unfolding outputs cbc_dec
dec_outputs way key [] iv = refl
dec_outputs way key (b ∷ bs) iv =
    ap {B = List (List ℕ)} (λ os. xor (way key b) iv ∷ os) (dec_outputs way key bs b)

module _ (out on : List ℕ → List ℕ → List ℕ) (iv b o next : List ℕ) (e : o ≡ out iv b) (n : next ≡ on iv b) where
  pub output_step : (bs : List (List ℕ)) → outputs out on iv (b ∷ bs) ≡ o ∷ outputs out on next bs
  unfolding outputs
  output_step bs = λ k. sym e k ∷ outputs out on (sym n k) bs

  pub handed_step : (s : List ℕ) → 16 ≤ length s → b ≡ take 16 s
      → handed on next (whole_blocks (drop 16 s)) ≡ handed on iv (whole_blocks s)
  unfolding handed
  handed_step s h i =
      ap (λ (c : List ℕ). handed on c (whole_blocks (drop 16 s))) (n ∙ ap (on iv) i)
      ∙ sym (ap (handed on iv) (first_and_rest s h))

pub handed_none : (on : List ℕ → List ℕ → List ℕ) (iv s : List ℕ) → length s < 16
    → iv ≡ handed on iv (whole_blocks s)
unfolding handed
handed_none on iv s h = sym (ap (handed on iv) (no_block s h))

pub outputs_none : (out on : List ℕ → List ℕ → List ℕ) (iv : List ℕ) → outputs out on iv [] ≡ []
unfolding outputs
outputs_none out on iv = refl
