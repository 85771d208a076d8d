use mathlib.Core.Path.{◌≡◌, refl, ap, ◌∙◌}
use Prim.Native.Nat.{ℕ, ◌<◌}
use lib.Bits.{bit_xor}
use Rattle.field.specs.Field.{times, remainder, polynomial_product}
use Rattle.field.proofs.Product.{linear_same, sum_linear, itself_linear, times_linear}
use borrow.Author.Rules.{rules}
use Rattle.aes.proofs.mix.Goals as goal

times3 : (b : ℕ) → b < 256 → bit_xor (times 2 b) b ≡ times 3 b
unfolding times remainder polynomial_product
times3 = linear_same (λ b. bit_xor (times 2 b) b) (times 3)
    (sum_linear (times 2) (λ b. b) (times_linear 2) itself_linear) (times_linear 3) refl

pub returns : goal.returns
returns c = let a = c.args in
    λ i. bit_xor (bit_xor (c.times2.ensures i)
    ((ap (λ (y : ℕ). bit_xor y a.b) c.times2-2.ensures ∙ times3 a.b (search rules)) i)) (bit_xor a.c a.d)
