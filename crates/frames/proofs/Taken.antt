-- A message that was built is taken apart into its fields again, where its fields fit their bits: for each of the
-- seven.
use mathlib.Core.Path.{◌≡◌, ap, ◌∙◌}
use mathlib.Core.Bool.{true}
use mathlib.Core.List.{List, ◌++◌}
use Prim.Native.Nat.{ℕ, ◌+◌, ◌*◌, ◌/◌, ◌%◌, ◌<◌}
use native.Mathlib.Omega.{arith}
use lib.ListN.{length, get_or}
use Rattle.ground.specs.Bytes.{bit_of, flag}
use Rattle.octets.specs.Parts.{bytes_from}
use Rattle.octets.proofs.Parts.{front, whole}
use Rattle.frames.specs.Fields.{size_bit, size_of, custom_fits, select_bytes, select_custom}
use Rattle.frames.specs.Messages.{
  tam1_message,
  tam1_of,
  tam2_message,
  tam2_of,
  iam1_message,
  iam1_of,
  iam2_message,
  iam2_of,
  iam3_head,
  iam3_of,
  mam1_message,
  mam1_of,
  mam2_message,
  mam2_of,
}
use Rattle.frames.specs.declared.Custom.{Custom}
use Rattle.frames.specs.declared.Tam1.{Tam1}
use Rattle.frames.specs.declared.Tam2.{Tam2}
use Rattle.frames.specs.declared.Iam1.{Iam1}
use Rattle.frames.specs.declared.Iam2.{Iam2}
use Rattle.frames.specs.declared.Iam3.{Iam3}
use Rattle.frames.specs.declared.Mam1.{Mam1}
use Rattle.frames.specs.declared.Mam2.{Mam2}
use Rattle.frames.proofs.Places.{behind}
use Rattle.frames.proofs.Range.{custom_range, size_bit_lt, size_of_bit, bit_lt, flag_of_bit}

-- the three bytes that TAM2 and IAM3 share
module _ (c : Custom) (p : ℕ) (fit : custom_fits c ≡ true) (lt : p < 16) where
  select_custom_lem : select_custom c.blocksize (c.profile * 16 + c.offset.0 / 256) (c.offset.0 % 256)
      (c.blockcount * 16 + p) ≡ c
  unfolding select_custom
  select_custom_lem =
      let r = custom_range c fit in
      let x : (c.profile * 16 + c.offset.0 / 256) / 16 ≡ c.profile = omega arith in
      let y : (c.profile * 16 + c.offset.0 / 256) % 16 * 256 + c.offset.0 % 256 ≡ c.offset.0 = omega arith in
      let z : (c.blockcount * 16 + p) / 16 ≡ c.blockcount = omega arith in
      λ i. record { blocksize = c.blocksize; profile = x i; offset = record { 0 = y i }; blockcount = z i }

  select_mode : (c.blockcount * 16 + p) % 16 ≡ p
  select_mode = omega arith

pub tam1_taken : (f : Tam1) → length f.ichallenge ≡ 10 → f.rfu < 32 → tam1_of (tam1_message f) ≡ f
unfolding tam1_of tam1_message bytes_from
tam1_taken f e h =
    let r : f.rfu % 32 ≡ f.rfu = omega arith in
    λ i. record { rfu = r i; keyid = f.keyid; ichallenge = whole f.ichallenge 10 e i }

pub mam1_taken : (f : Mam1) → length f.ichallenge ≡ 10 → f.rfu < 16 → mam1_of (mam1_message f) ≡ f
unfolding mam1_of mam1_message bytes_from
mam1_taken f e h =
    let r : (0x80 + f.rfu) % 16 ≡ f.rfu = omega arith in
    λ i. record { rfu = r i; keyid = f.keyid; ichallenge = whole f.ichallenge 10 e i }

pub iam1_taken : (f : Iam1) → f.rfu < 16 → iam1_of (iam1_message f) ≡ f
unfolding iam1_of iam1_message
iam1_taken f h =
    let r : (0x40 + f.rfu) % 16 ≡ f.rfu = omega arith in
    λ i. record { rfu = r i; keyid = f.keyid }

pub iam2_taken : (f : Iam2) → length f.iresponse ≡ 16 → f.rfu < 8 → iam2_of (iam2_message f) ≡ f
unfolding iam2_of iam2_message bytes_from
iam2_taken f e h =
    let r : (0x50 + f.rfu) % 8 ≡ f.rfu = omega arith in
    λ i. record { rfu = r i; iresponse = whole f.iresponse 16 e i }

pub mam2_taken : (f : Mam2) → length f.iresponse ≡ 16 → f.rfu < 16 → mam2_of (mam2_message f) ≡ f
unfolding mam2_of mam2_message bytes_from
mam2_taken f e h =
    let r : (0x90 + f.rfu) % 16 ≡ f.rfu = omega arith in
    λ i. record { rfu = r i; iresponse = whole f.iresponse 16 e i }

module _ (f : Tam2) (long : length f.ichallenge ≡ 10) (rfu : f.rfu < 8) (fit : custom_fits f.custom ≡ true)
    (mode : f.protmode < 16) where
  -- the message behind its first two bytes, and its first byte
  abbrev tam2_rest : List ℕ
  tam2_rest = f.ichallenge ++ select_bytes f.custom f.protmode

  abbrev tam2_first : ℕ
  tam2_first = 0x20 + size_bit f.custom.blocksize * 16 + bit_of f.rev * 8 + f.rfu

  tam2_custom : select_custom (size_of (tam2_first / 16 % 2)) (get_or tam2_rest 10 0) (get_or tam2_rest 11 0)
      (get_or tam2_rest 12 0) ≡ f.custom
  unfolding select_bytes
  tam2_custom =
      let s = select_bytes f.custom f.protmode in
      let b : tam2_first / 16 % 2 ≡ size_bit f.custom.blocksize =
      omega (arith, size_bit_lt f.custom.blocksize, bit_lt f.rev) in
      rw (
        b,
        size_of_bit f.custom.blocksize,
        behind f.ichallenge s 10 0 long,
        behind f.ichallenge s 10 1 long,
        behind f.ichallenge s 10 2 long,
      )
      (select_custom_lem f.custom f.protmode fit mode)

  tam2_mode : get_or tam2_rest 12 0 % 16 ≡ f.protmode
  unfolding select_bytes
  tam2_mode = rw (behind f.ichallenge (select_bytes f.custom f.protmode) 10 2 long)
      (select_mode f.custom f.protmode fit mode)

  pub tam2_taken : tam2_of (tam2_message f) ≡ f
  unfolding tam2_of tam2_message bytes_from
  tam2_taken =
      let v : flag (tam2_first / 8 % 2) ≡ f.rev =
      ap flag (let b : tam2_first / 8 % 2 ≡ bit_of f.rev =
      omega (arith, size_bit_lt f.custom.blocksize, bit_lt f.rev) in b) ∙ flag_of_bit f.rev in
      let r : tam2_first % 8 ≡ f.rfu = omega arith in
      λ i. record {
        rev = v i;
        rfu = r i;
        keyid = f.keyid;
        ichallenge = front f.ichallenge (select_bytes f.custom f.protmode) 10 long i;
        custom = tam2_custom i;
        protmode = tam2_mode i;
      }

-- of IAM3 the head, whatever follows it
module _ (f : Iam3) (rest : List ℕ) (long : length f.iresponse ≡ 16) (rfu : f.rfu < 4)
    (fit : custom_fits f.custom ≡ true) (mode : f.protmode < 16) where
  pub iam3_taken : iam3_of (iam3_head f ++ rest) ≡ f
  unfolding iam3_of iam3_head select_bytes bytes_from
  iam3_taken =
      let x = 0x58 + size_bit f.custom.blocksize * 4 + f.rfu in
      let b : x / 4 % 2 ≡ size_bit f.custom.blocksize = omega (arith, size_bit_lt f.custom.blocksize) in
      let r : x % 4 ≡ f.rfu = omega arith in
      let c : select_custom (size_of (x / 4 % 2)) (f.custom.profile * 16 + f.custom.offset.0 / 256)
      (f.custom.offset.0 % 256) (f.custom.blockcount * 16 + f.protmode) ≡ f.custom =
      rw (b, size_of_bit f.custom.blocksize) (select_custom_lem f.custom f.protmode fit mode) in
      λ i. record {
        rfu = r i;
        custom = c i;
        protmode = select_mode f.custom f.protmode fit mode i;
        iresponse = front f.iresponse rest 16 long i;
      }
