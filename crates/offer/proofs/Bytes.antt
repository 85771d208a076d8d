-- Lists of bytes: what is sent is bytes where the keys, the draws, the challenge and the words are.
use mathlib.Core.Path.{◌≡◌, sym, ap₂, subst}
use mathlib.Core.Bool.{Bool, true, false}
use mathlib.Core.List.{List, [], ◌++◌}
use Prim.Native.Nat.{ℕ, zero, suc, ◌+◌, ◌*◌, ◌/◌, ◌%◌, ◌≤◌, ◌<◌}
use native.Mathlib.Omega.{arith}
use borrow.Author.Tests.{lt-ltb}
use lib.Dec.{lit<}
use lib.ListN.{length, drop, replicate, length-append}
use lib.Seq.{get_or-drop}
use Rattle.ground.specs.Bytes.{Bytes, two_bytes}
use Rattle.ground.specs.Choice.{pick, both}
use Rattle.field.proofs.Block.{Block}
use Rattle.aes.specs.AesEnc.{aes_enc}
use Rattle.aes.proofs.Forward.{enc_block}
use Rattle.memory.specs.declared.BlockSize.{BlockSize}
use Rattle.octets.specs.Parts.{bytes_from}
use Rattle.octets.proofs.Parts.{bytes_length}
use Rattle.frames.specs.Fields.{custom_fits, select_custom}
use Rattle.payload.proofs.Bytes.{joined_bytes}

-- ---- lists of bytes

pub drop_bytes : (n : ℕ) (s : List ℕ) → Bytes s → Bytes (drop n s)
drop_bytes n s h i = subst (λ (x : ℕ). x < 256) (sym (get_or-drop n s i 0)) (h (n + i))

pub none_bytes : Bytes []
none_bytes i = lit< tt

pub zeros_bytes : (n : ℕ) → Bytes (replicate n 0)
zeros_bytes zero i = lit< tt
zeros_bytes (suc n) zero = lit< tt
zeros_bytes (suc n) (suc i) = zeros_bytes n i

pub pick_bytes : (b : Bool) (s t : List ℕ) → Bytes s → Bytes t → Bytes (pick b s t)
pick_bytes true s t h k = h
pick_bytes false s t h k = k

-- a constant

pub two_bytes_lem : (c : ℕ) → c ≤ 0xFFFF → Bytes (two_bytes c)
two_bytes_lem c h zero = omega arith
two_bytes_lem c h (suc zero) = omega arith
two_bytes_lem c h (suc (suc i)) = lit< tt

-- three bytes give fields that fit their bits
pub select_custom_fits : (s : BlockSize) (x y z : ℕ) → x < 256 → y < 256 → z < 256
    → custom_fits (select_custom s x y z) ≡ true
unfolding custom_fits select_custom
select_custom_fits s x y z hx hy hz =
    ap₂ both (lt-ltb (x / 16) 16 (omega arith))
    (ap₂ both (lt-ltb (x % 16 * 256 + y) 4096 (omega arith)) (lt-ltb (z / 16) 16 (omega arith)))

-- ---- challenges, draws and the blocks made of them

-- ten bytes: the draws, and a challenge
pub record Ten (s : List ℕ) : Type 0 where
  pub ten : length s ≡ 10
  pub bytes : Bytes s

module _ (m : List ℕ) (h : Bytes m) where
  bytes_from_lem : (n i : ℕ) → Bytes (bytes_from m i n)
  unfolding bytes_from
  bytes_from_lem zero i k = lit< tt
  bytes_from_lem (suc n) i zero = h i
  bytes_from_lem (suc n) i (suc k) = bytes_from_lem n (suc i) k

  -- the three messages have their challenge in the same place
  pub challenge_ten : Ten (bytes_from m 2 10)
  challenge_ten = record { ten = bytes_length m 2 10; bytes = bytes_from_lem 10 2 }

-- AES-ENC of a constant, four draws and a challenge
pub block_block : (enc middle ichallenge : List ℕ) (c : ℕ) → Bytes enc → c ≤ 0xFFFF → length middle ≡ 4 → Bytes middle
    → Ten ichallenge
    → Block (aes_enc enc (two_bytes c ++ (middle ++ ichallenge)))
block_block enc middle ichallenge c k l e h t =
    let s = middle ++ ichallenge in
    let n : length s ≡ 14 = omega (arith, length-append middle ichallenge, t.ten) in
    enc_block enc (two_bytes c ++ s) k
    (record {
      sixteen = omega arith;
      bytes =
          joined_bytes (two_bytes c) s (two_bytes_lem c l) (joined_bytes middle ichallenge h t.bytes);
    })
