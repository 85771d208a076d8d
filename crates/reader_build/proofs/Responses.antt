-- The block that the reader sends: it is sixteen bytes, and the tag's encryption opens it.
use mathlib.Core.Path.{◌≡◌, ap, ap₂, ◌∙◌}
use mathlib.Core.List.{List, ◌++◌}
use Prim.Native.Nat.{ℕ, zero, suc, ◌+◌, ◌*◌, ◌/◌, ◌%◌, ◌<◌}
use native.Mathlib.Omega.{arith}
use lib.ListN.{length, drop, length-append}
use Rattle.ground.specs.Bytes.{Bytes}
use Rattle.field.proofs.Block.{Block}
use Rattle.aes.specs.AesEnc.{aes_enc}
use Rattle.aes_inverse.proofs.Inverse.{dec_block, enc_dec}
use Rattle.frames.specs.Constants.{c_iam2, c_mam2, with_purpose}
use Rattle.frames.specs.Messages.{iam2_message, mam2_message}
use Rattle.payload.proofs.Bytes.{joined_bytes}
use Rattle.reader.specs.declared.Keys.{Keys}
use Rattle.reader_build.specs.Builds.{response, iam2_made, mam2_made}

-- a constant of 12 bits, and a Purpose, are two bytes
pub constant_bytes : (k purpose : ℕ) → k < 4096 → Bytes (with_purpose k purpose)
unfolding with_purpose
constant_bytes k purpose h zero = let e : k / 16 < 256 = omega arith in e
constant_bytes k purpose h (suc zero) = let e : k % 16 * 16 + purpose % 16 < 256 = omega arith in e
constant_bytes k purpose h (suc (suc i)) = omega arith

pub constant_two : (k purpose : ℕ) → length (with_purpose k purpose) ≡ 2
unfolding with_purpose
constant_two k purpose = omega arith

module _ (enc constant middle tchallenge : List ℕ) (k : Bytes enc) (c : Bytes constant) (m : Bytes middle)
    (t : Bytes tchallenge)
    (c2 : length constant ≡ 2) (m4 : length middle ≡ 4) (t10 : length tchallenge ≡ 10)
  where
    in_clear : Block (constant ++ (middle ++ tchallenge))
    in_clear = record {
      sixteen = omega (arith, length-append constant (middle ++ tchallenge), length-append middle tchallenge);
      bytes = joined_bytes constant (middle ++ tchallenge) c (joined_bytes middle tchallenge m t);
    }

    pub response_block : Block (response enc constant middle tchallenge)
    unfolding response
    response_block = dec_block enc (constant ++ (middle ++ tchallenge)) k in_clear

    pub response_opened : aes_enc enc (response enc constant middle tchallenge) ≡ constant ++ (middle ++ tchallenge)
    unfolding response
    response_opened = enc_dec enc (constant ++ (middle ++ tchallenge)) k in_clear

-- the messages that carry one, from their parts
module _ (keys : Keys) (purpose : ℕ) (tchallenge k r : List ℕ) where
  pub iam2_sent : (irnd : List ℕ) → k ≡ with_purpose c_iam2 purpose → r ≡ response keys.enc k irnd tchallenge
      → iam2_message (record { rfu = 0; iresponse = r }) ≡ iam2_made keys purpose irnd tchallenge
  unfolding iam2_made
  iam2_sent irnd e q = ap (λ (x : List ℕ). iam2_message (record { rfu = 0; iresponse = x }))
      (q ∙ ap (λ (x : List ℕ). response keys.enc x irnd tchallenge) e)

  pub mam2_sent : (ichallenge last : List ℕ) → k ≡ with_purpose c_mam2 purpose → last ≡ drop 6 ichallenge
      → r ≡ response keys.enc k last tchallenge
      → mam2_message (record { rfu = 0; iresponse = r }) ≡ mam2_made keys purpose ichallenge tchallenge
  unfolding mam2_made
  mam2_sent ichallenge last e l q =
      ap (λ (x : List ℕ). mam2_message (record { rfu = 0; iresponse = x }))
      (q ∙ ap₂ {C = List ℕ} (λ x y. response keys.enc x y tchallenge) e l)
