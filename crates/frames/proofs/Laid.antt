-- A message as the parts that are put into a room.
use mathlib.Core.Path.{◌≡◌, refl}
use mathlib.Core.List.{List, [], ◌∷◌, ◌++◌}
use Prim.Native.Nat.{ℕ, ◌+◌, ◌*◌, ◌-◌, ◌≤◌}
use native.Mathlib.Omega.{arith}
use native.Mathlib.Nat.{add-zero}
use lib.ListN.{length, take, get_or, replicate}
use Rattle.ground.specs.Bytes.{bit_of}
use Rattle.memory.specs.declared.BlockSize.{BlockSize}
use Rattle.memory.specs.declared.BlockSize.TheVariants.{Bits64, Bits16}
use Rattle.frames.specs.Blocks.{header_length}
use Rattle.frames.specs.Fields.{size_bit, select_bytes}
use Rattle.frames.specs.Header.{header_start, header_of}
use Rattle.frames.specs.Messages.{tam2_message, iam3_head}
use Rattle.frames.specs.declared.Custom.{Custom}
use Rattle.frames.specs.declared.Tam2.{Tam2}
use Rattle.frames.specs.declared.Iam3.{Iam3}

pub tam2_layout : (f : Tam2) (x : ℕ) (s : List ℕ) → f.rfu ≡ 0
    → x ≡ 0x20 + size_bit f.custom.blocksize * 16 + bit_of f.rev * 8
    → s ≡ select_bytes f.custom f.protmode → (x ∷ f.keyid ∷ []) ++ (f.ichallenge ++ s) ≡ tam2_message f
unfolding tam2_message
tam2_layout f x s h e q = rw (h, e, q, add-zero)

pub iam3_layout : (f : Iam3) (b : ℕ) (s : List ℕ) → f.rfu ≡ 0 → b ≡ size_bit f.custom.blocksize
    → s ≡ select_bytes f.custom f.protmode
    → ((0x58 + b * 4) ∷ get_or s 0 0 ∷ get_or s 1 0 ∷ get_or s 2 0 ∷ []) ++ f.iresponse ≡ iam3_head f
unfolding iam3_head select_bytes
iam3_layout f b s h e q = rw (h, e, q, add-zero)

pub header_least : (s : BlockSize) → 3 ≤ header_length s
unfolding header_length
header_least Bits64 = omega arith
header_least Bits16 = omega arith

-- the zeros that the header's code takes some of
abbrev padding : List ℕ
padding = 0 ∷ 0 ∷ 0 ∷ 0 ∷ 0 ∷ []

zeros : (s : BlockSize) → take (header_length s - 3) padding ≡ replicate (header_length s - 3) 0
unfolding header_length
zeros Bits64 = refl
zeros Bits16 = refl

zeros_length : (s : BlockSize) → 3 + length (take (header_length s - 3) padding) ≡ header_length s
unfolding header_length
zeros_length Bits64 = refl
zeros_length Bits16 = refl

module _ (c : Custom) (s : List ℕ) (k : ℕ) (e : s ≡ header_start c) (q : k ≡ header_length c.blocksize) where
  pub header_layout : s ++ take (k - 3) padding ≡ header_of c
  unfolding header_of
  header_layout = rw (e, q, zeros c.blocksize)

  pub header_fills : length s + length (take (k - 3) padding) ≡ header_length c.blocksize
  unfolding header_start
  header_fills = rw (e, q) (zeros_length c.blocksize)
