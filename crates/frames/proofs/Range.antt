-- What it says of the fields that they fit.
use mathlib.Core.Path.{◌≡◌, refl}
use mathlib.Core.Bool.{Bool, true, false}
use Prim.Native.Nat.{ℕ, zero, suc, ◌<◌}
use native.Mathlib.Omega.{arith}
use borrow.Author.Tests.{ltb-true, eqb-true}
use lib.Dec.{ltb, eqb}
use Rattle.ground.specs.Bytes.{bit_of, flag}
use Rattle.memory.specs.declared.BlockSize.{BlockSize}
use Rattle.memory.specs.declared.BlockSize.TheVariants.{Bits64, Bits16}
use Rattle.ground.specs.Choice.{both}
use Rattle.memory.specs.Address.{block_size_bit}
use Rattle.frames.specs.Fields.{size_bit, size_of, custom_fits}
use Rattle.frames.specs.Messages.{select_fits}
use Rattle.frames.specs.declared.Custom.{Custom}

pub both_left : (a b : Bool) → both a b ≡ true → a ≡ true
both_left true b e = refl
both_left false b e = e

pub both_right : (a b : Bool) → both a b ≡ true → b ≡ true
both_right true b e = e
both_right false b e = let z : ◌≡◌ {A = ℕ} 0 1 = cc in absurd (let w : ⊥ = omega arith in w)

-- the values of a custom data block's fields
pub record InRange (c : Custom) : Type 0 where
  pub profile : c.profile < 16
  pub offset : c.offset.0 < 4096
  pub blockcount : c.blockcount < 16

pub custom_range : (c : Custom) → custom_fits c ≡ true → InRange c
unfolding custom_fits
custom_range c e =
    let r = both_right (ltb c.profile 16) (both (ltb c.offset.0 4096) (ltb c.blockcount 16)) e in
    record {
      profile = ltb-true c.profile 16 (both_left (ltb c.profile 16)
          (both (ltb c.offset.0 4096) (ltb c.blockcount 16)) e);
      offset = ltb-true c.offset.0 4096 (both_left (ltb c.offset.0 4096) (ltb c.blockcount 16) r);
      blockcount = ltb-true c.blockcount 16 (both_right (ltb c.offset.0 4096) (ltb c.blockcount 16) r);
    }

-- and with RFU and ProtMode
pub record Selected (r : ℕ) (c : Custom) (p : ℕ) : Type 0 where
  pub rfu : r ≡ 0
  pub protmode : p < 16
  pub custom : custom_fits c ≡ true

pub select_range : (rfu : ℕ) (c : Custom) (protmode : ℕ) → select_fits rfu c protmode ≡ true → Selected rfu c protmode
unfolding select_fits
select_range rfu c protmode e =
    let r = both_right (eqb rfu 0) (both (ltb protmode 16) (custom_fits c)) e in
    record {
      rfu = eqb-true rfu 0 (both_left (eqb rfu 0) (both (ltb protmode 16) (custom_fits c)) e);
      protmode = ltb-true protmode 16 (both_left (ltb protmode 16) (custom_fits c) r);
      custom = both_right (ltb protmode 16) (custom_fits c) r;
    }

-- RFU of a message that a builder takes does not count
pub without_rfu : (rfu : ℕ) (c : Custom) (protmode : ℕ) → select_fits rfu c protmode ≡ true
    → select_fits 0 c protmode ≡ true
without_rfu rfu c protmode e = rw (select_range rfu c protmode e).rfu at e

-- a bit, and what it stands for
pub size_bit_lt : (s : BlockSize) → size_bit s < 2
unfolding block_size_bit
size_bit_lt Bits64 = omega arith
size_bit_lt Bits16 = omega arith

pub size_of_bit : (s : BlockSize) → size_of (size_bit s) ≡ s
unfolding size_of block_size_bit
size_of_bit Bits64 = refl
size_of_bit Bits16 = refl

pub bit_of_size : (b : ℕ) → b < 2 → size_bit (size_of b) ≡ b
unfolding size_of block_size_bit
bit_of_size zero h = refl
bit_of_size (suc zero) h = refl
bit_of_size (suc (suc b)) h = absurd (let w : ⊥ = omega arith in w)

pub bit_lt : (f : Bool) → bit_of f < 2
bit_lt true = omega arith
bit_lt false = omega arith

pub flag_of_bit : (f : Bool) → flag (bit_of f) ≡ f
flag_of_bit true = refl
flag_of_bit false = refl

pub bit_of_flag : (b : ℕ) → b < 2 → bit_of (flag b) ≡ b
bit_of_flag zero h = refl
bit_of_flag (suc zero) h = refl
bit_of_flag (suc (suc b)) h = absurd (let w : ⊥ = omega arith in w)
