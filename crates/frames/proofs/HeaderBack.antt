-- The fields come back out of a header, so that no two custom data blocks have one header; and a header comes back out
-- of its fields.
use mathlib.Core.Path.{◌≡◌, sym, ap, ◌∙◌}
use mathlib.Core.Bool.{true}
use mathlib.Core.List.{List, [], ◌∷◌, ◌++◌}
use Prim.Native.Nat.{ℕ, ◌+◌, ◌*◌, ◌-◌, ◌/◌, ◌%◌}
use native.Mathlib.Omega.{arith}
use lib.ListN.{length, take, drop, replicate, length-replicate, get_or-replicate, length-drop, take-append-drop}
use lib.Seq.{ext_get_or, get_or-drop}
use Rattle.ground.specs.Bytes.{Bytes, byte_at}
use Rattle.octets.specs.Parts.{bytes_from}
use Rattle.octets.proofs.Parts.{bytes_taken}
use Rattle.frames.specs.Blocks.{header_length}
use Rattle.frames.specs.Fields.{size_bit, size_of, custom_fits}
use Rattle.frames.specs.Header.{header_start, header_of, header_custom}
use Rattle.frames.specs.declared.Custom.{Custom}
use Rattle.frames.proofs.Laid.{header_least}
use Rattle.frames.proofs.Range.{custom_range, size_bit_lt, size_of_bit, bit_of_size}

pub header_taken : (c : Custom) → custom_fits c ≡ true → header_custom (header_of c) ≡ c
unfolding header_custom header_of header_start
header_taken c fit =
    let r = custom_range c fit in
    let o = c.offset.0 in
    let x = size_bit c.blocksize * 128 + c.profile * 8 + o / 512 in
    let b : x / 128 ≡ size_bit c.blocksize = omega (arith, size_bit_lt c.blocksize) in
    let s : size_of (x / 128) ≡ c.blocksize = ap size_of b ∙ size_of_bit c.blocksize in
    let u : x / 8 ≡ size_bit c.blocksize * 16 + c.profile = omega arith in
    let p : x / 8 % 16 ≡ c.profile = omega (arith, size_bit_lt c.blocksize) in
    let v : x % 8 ≡ o / 512 = omega arith in
    let w : (o % 2 * 128 + c.blockcount * 8) / 128 ≡ o % 2 = omega arith in
    let q : x % 8 * 512 + o / 2 % 256 * 2 + (o % 2 * 128 + c.blockcount * 8) / 128 ≡ o = rw (v, w) (omega arith) in
    let n : (o % 2 * 128 + c.blockcount * 8) / 8 % 16 ≡ c.blockcount = omega arith in
    λ i. record { blocksize = s i; profile = p i; offset = record { 0 = q i }; blockcount = n i }

-- no two custom data blocks have one header
pub header_one : (c d : Custom) → custom_fits c ≡ true → custom_fits d ≡ true → header_of c ≡ header_of d → c ≡ d
header_one c d fc fd e = sym (header_taken c fc) ∙ ap header_custom e ∙ header_taken d fd

-- bytes that end with zeros, as many as a header has
module _ (h : List ℕ) (bytes : Bytes h) (long : length h ≡ header_length (size_of (byte_at h 0 / 128)))
    (three : byte_at h 2 % 8 ≡ 0) (rest : (i : ℕ) → byte_at h (3 + i) ≡ 0) where
  start_built : header_start (header_custom h) ≡ byte_at h 0 ∷ byte_at h 1 ∷ byte_at h 2 ∷ []
  unfolding header_start header_custom
  start_built =
      let x = byte_at h 0 in
      let y = byte_at h 1 in
      let z = byte_at h 2 in
      let o = x % 8 * 512 + y * 2 + z / 128 in
      let s : size_bit (size_of (x / 128)) ≡ x / 128 = bit_of_size (x / 128) (omega (arith, bytes 0)) in
      let a : size_bit (size_of (x / 128)) * 128 + x / 8 % 16 * 8 + o / 512 ≡ x =
      omega (arith, bytes 0, bytes 1, bytes 2) in
      let b : o / 2 % 256 ≡ y = omega (arith, bytes 0, bytes 1, bytes 2) in
      let c : o % 2 * 128 + z / 8 % 16 * 8 ≡ z = omega (arith, bytes 0, bytes 1, bytes 2) in
      λ i. a i ∷ b i ∷ c i ∷ []

  zeros_built : replicate (header_length (size_of (byte_at h 0 / 128)) - 3) 0 ≡ drop 3 h
  zeros_built =
      let n = header_length (size_of (byte_at h 0 / 128)) - 3 in
      let e : length {A = ℕ} (replicate n 0) ≡ n = length-replicate {A = ℕ} n 0 in
      ext_get_or 0 (replicate n 0) (drop 3 h) (e ∙ ap (λ (k : ℕ). k - 3) (sym long) ∙ sym (length-drop 3 h))
      (λ i lt. get_or-replicate n i 0 0 (omega (arith, e)) ∙ sym (get_or-drop 3 h i 0 ∙ rest i))

  pub header_built : header_of (header_custom h) ≡ h
  unfolding header_of bytes_from header_custom
  header_built =
      let t : byte_at h 0 ∷ byte_at h 1 ∷ byte_at h 2 ∷ [] ≡ take 3 h =
      bytes_taken h 3 (omega (arith, header_least (size_of (byte_at h 0 / 128)))) in
      (λ i. (start_built ∙ t) i ++ zeros_built i) ∙ take-append-drop 3 h
