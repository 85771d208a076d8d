-- The field of 256 elements, FIPS 197 section 4. A byte is a polynomial over two elements, bit i being the coefficient
-- of x^i.
-- Its sum is the exclusive or (4.1), `bit_xor`. Its product is taken modulo x^8 + x^4 + x^3 + x + 1 (4.2), which is
-- 0x11B.
use Rattle.std.specs.Prelude.{ℕ, zero, suc, ◌+◌, ◌*◌, ◌/◌, ◌%◌, ◌^◌}
use Rattle.std.specs.Int.Bits.{bit_xor}

-- The product of the polynomials a and b, of which b has at most n coefficients: a for each coefficient of b that is 1,
-- times x for each place.
unfoldable pub polynomial_product : ℕ → ℕ → ℕ → ℕ
polynomial_product zero a b = 0
polynomial_product (suc n) a b = bit_xor (b % 2 * a) (polynomial_product n (a * 2) (b / 2))

-- The remainder of v by 0x11B, where v has at most 8 + n coefficients: the highest is cleared first.
unfoldable pub remainder : ℕ → ℕ → ℕ
remainder zero v = v
remainder (suc n) v = remainder n (bit_xor (v / 2 ^ (8 + n) % 2 * (0x11B * 2 ^ n)) v)

-- 4.2: the product of two bytes.
unfoldable pub times : ℕ → ℕ → ℕ
times a b = remainder 7 (polynomial_product 8 a b)

-- b, b^2, b^4 and so on, n of them, multiplied.
unfoldable pub product_of_squares : ℕ → ℕ → ℕ
product_of_squares zero b = 1
product_of_squares (suc n) b = times b (product_of_squares n (times b b))

-- 4.4: the inverse of b is b^254, which is b^2 b^4 .. b^128. That of 0, which 5.1.1 sets, comes out as 0.
-- `proofs/Inverse.antt` shows that it is the inverse.
unfoldable pub inverse : ℕ → ℕ
inverse b = product_of_squares 7 (times b b)
