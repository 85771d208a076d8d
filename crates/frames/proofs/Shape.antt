-- What is built has the kind and the length of its message.
use Rattle.std.specs.Prelude.{Some}
use mathlib.Core.Path.{◌≡◌, refl, ap, ◌∙◌}
use mathlib.Core.Bool.{true}
use mathlib.Core.List.{List, ◌++◌}
use Prim.Native.Nat.{ℕ, suc, ◌+◌, ◌*◌, ◌-◌, ◌<◌}
use native.Mathlib.Omega.{arith}
use borrow.Author.Tests.{eq-eqb, le-leb}
use lib.ListN.{length, replicate, length-append, length-replicate}
use Rattle.frames.specs.Blocks.{header_length, blocks_length}
use Rattle.ground.specs.Bytes.{byte_at, bit_of}
use Rattle.frames.specs.Fields.{size_bit, custom_fits, select_bytes}
use Rattle.frames.specs.Header.{header_start, header_of}
use Rattle.frames.specs.Kinds.{kind_of}
use Rattle.frames.specs.Modes.{prot_mode_of}
use Rattle.frames.specs.declared.ProtMode.{ProtMode}
use Rattle.frames.specs.Lengths.{
  tam1_length,
  tam2_length,
  iam1_length,
  iam2_length,
  iam3_head_length,
  mam1_length,
  mam2_length,
  mac_length,
  iam3_mac_at,
  iam3_length,
  iam3_length_fits,
}
use Rattle.frames.specs.Messages.{
  tam1_message,
  tam2_message,
  iam1_message,
  iam2_message,
  iam3_head,
  mam1_message,
  mam2_message,
}
use Rattle.frames.specs.declared.Kind.TheVariants.{Tam1, Tam2, Iam1, Iam2, Iam3, Mam1, Mam2}
use Rattle.frames.specs.declared.Custom.{Custom}
use Rattle.frames.specs.declared.Tam1.{Tam1 as Tam1Fields}
use Rattle.frames.specs.declared.Tam2.{Tam2 as Tam2Fields}
use Rattle.frames.specs.declared.Iam1.{Iam1 as Iam1Fields}
use Rattle.frames.specs.declared.Iam2.{Iam2 as Iam2Fields}
use Rattle.frames.specs.declared.Iam3.{Iam3 as Iam3Fields}
use Rattle.frames.specs.declared.Mam1.{Mam1 as Mam1Fields}
use Rattle.frames.specs.declared.Mam2.{Mam2 as Mam2Fields}
use Rattle.frames.proofs.FirstByte.{tam1_kind, tam2_kind, iam1_kind, iam2_kind, iam3_kind, mam1_kind, mam2_kind}
use Rattle.frames.proofs.Laid.{header_least}
use Rattle.frames.proofs.Range.{size_bit_lt, bit_lt}
use Rattle.frames.proofs.Taken.{iam3_taken}

pub tam1_shape : (f : Tam1Fields) → length f.ichallenge ≡ 10 → f.rfu < 32
    → (length (tam1_message f) ≡ tam1_length) × (kind_of (byte_at (tam1_message f) 0) ≡ Tam1)
unfolding tam1_message
tam1_shape f e h = (ap (λ (n : ℕ). suc (suc n)) e, tam1_kind f.rfu h)

pub mam1_shape : (f : Mam1Fields) → length f.ichallenge ≡ 10 → f.rfu < 16
    → (length (mam1_message f) ≡ mam1_length) × (kind_of (byte_at (mam1_message f) 0) ≡ Mam1)
unfolding mam1_message
mam1_shape f e h = (ap (λ (n : ℕ). suc (suc n)) e, mam1_kind (0x80 + f.rfu) (omega arith) (omega arith))

pub iam1_shape : (f : Iam1Fields) → f.rfu < 16 → (length (iam1_message f) ≡ iam1_length)
    × (kind_of (byte_at (iam1_message f) 0) ≡ Iam1)
unfolding iam1_message
iam1_shape f h = (refl, iam1_kind (0x40 + f.rfu) (omega arith) (omega arith))

pub iam2_shape : (f : Iam2Fields) → length f.iresponse ≡ 16 → f.rfu < 8
    → (length (iam2_message f) ≡ iam2_length) × (kind_of (byte_at (iam2_message f) 0) ≡ Iam2)
unfolding iam2_message
iam2_shape f e h = (ap suc e, iam2_kind (0x50 + f.rfu) (omega arith) (omega arith))

pub mam2_shape : (f : Mam2Fields) → length f.iresponse ≡ 16 → f.rfu < 16
    → (length (mam2_message f) ≡ mam2_length) × (kind_of (byte_at (mam2_message f) 0) ≡ Mam2)
unfolding mam2_message
mam2_shape f e h = (ap suc e, mam2_kind (0x90 + f.rfu) (omega arith) (omega arith))

pub tam2_shape : (f : Tam2Fields) → length f.ichallenge ≡ 10 → f.rfu < 8
    → (length (tam2_message f) ≡ tam2_length) × (kind_of (byte_at (tam2_message f) 0) ≡ Tam2)
unfolding tam2_message select_bytes
tam2_shape f e h =
    let s = select_bytes f.custom f.protmode in
    let b = size_bit_lt f.custom.blocksize in
    let v = bit_lt f.rev in
    let x = 0x20 + size_bit f.custom.blocksize * 16 + bit_of f.rev * 8 + f.rfu in (
      ap (λ (n : ℕ). suc (suc n)) (length-append f.ichallenge s ∙ ap (λ (n : ℕ). n + 3) e),
      tam2_kind x (omega arith) (omega (arith, b, v)),
    )

module _ (f : Iam3Fields) (long : length f.iresponse ≡ 16) where
  pub iam3_head_lem : length (iam3_head f) ≡ iam3_head_length
  unfolding iam3_head select_bytes
  iam3_head_lem = ap (λ (n : ℕ). suc (suc (suc (suc n)))) long

  pub iam3_begins : (rest : List ℕ) → f.rfu < 4 → kind_of (byte_at (iam3_head f ++ rest) 0) ≡ Iam3
  unfolding iam3_head
  iam3_begins rest h =
      let b = size_bit_lt f.custom.blocksize in
      iam3_kind (0x58 + size_bit f.custom.blocksize * 4 + f.rfu) (omega arith) (omega (arith, b))

  -- with its data blocks and its MAC behind it the message is as long as its fields say
  pub iam3_whole_lem : (rest : List ℕ) (mode : ProtMode) → f.rfu < 4 → custom_fits f.custom ≡ true
      → f.protmode < 16 → prot_mode_of f.protmode ≡ Some mode
      → length rest ≡ blocks_length f.custom.blocksize true f.custom.blockcount + mac_length mode
      → iam3_length_fits (iam3_head f ++ rest) ≡ true
  unfolding iam3_length_fits iam3_length iam3_mac_at
  iam3_whole_lem rest mode h fit bits named e =
      let m = iam3_head f ++ rest in
      let n : length m ≡ 20 + blocks_length f.custom.blocksize true f.custom.blockcount + mac_length mode =
      omega (arith, length-append (iam3_head f) rest, iam3_head_lem) in
      rw (le-leb 4 (length m) (omega arith), iam3_taken f rest long h fit bits, named, eq-eqb _ _ n)

pub header_long : (c : Custom) → length (header_of c) ≡ header_length c.blocksize
unfolding header_of header_start
header_long c =
    let z : length {A = ℕ} (replicate (header_length c.blocksize - 3) 0) ≡ header_length c.blocksize - 3 =
    length-replicate {A = ℕ} (header_length c.blocksize - 3) 0 in
    omega (arith, z, header_least c.blocksize)
