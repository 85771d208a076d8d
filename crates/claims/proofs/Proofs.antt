-- A block in the clear that the reader made for the tag's challenge holds as a proof.
use mathlib.Core.Path.{◌≡◌, ap, ap₂, ◌∙◌}
use mathlib.Core.Bool.{true}
use mathlib.Core.List.{List, ◌++◌}
use Prim.Native.Nat.{ℕ, ◌+◌, ◌*◌, ◌/◌, ◌%◌, ◌<◌}
use native.Mathlib.Omega.{arith}
use borrow.Author.Tests.{eq-eqb, ltb-true}
use lib.ListN.{length, take}
use lib.Seq.{take_at, take_all, drop_at}
use Rattle.ground.specs.Bytes.{Bytes}
use Rattle.ground.specs.Choice.{both}
use Rattle.aes.specs.AesEnc.{aes_enc}
use Rattle.sheet.specs.declared.Key.{Key}
use Rattle.frames.specs.Constants.{with_purpose}
use Rattle.entry.specs.declared.Session.{Session}
use Rattle.octets.specs.Alike.{same}
use Rattle.entry.specs.Opened.{constant_in, purpose_in, middle_in, challenge_in, purpose_allowed, iam_proof}
use Rattle.octets.proofs.Alike.{same_self}
use Rattle.reader.specs.declared.Keys.{Keys}
use Rattle.reader_build.specs.Builds.{purpose_fits, response}
use Rattle.reader_build.proofs.Responses.{constant_bytes, constant_two, response_block, response_opened}
use Rattle.claims.specs.Entry.{Array, Knows}

module _ (k purpose : ℕ) (middle tchallenge : List ℕ) (m4 : length middle ≡ 4) (t10 : length tchallenge ≡ 10) where
  -- the block, and its parts
  abbrev pub clear : List ℕ
  clear = with_purpose k purpose ++ (middle ++ tchallenge)

  constant_in_lem : constant_in clear ≡ k
  unfolding with_purpose
  constant_in_lem = let e : k / 16 * 16 + (k % 16 * 16 + purpose % 16) / 16 ≡ k = omega arith in e

  pub purpose_in_lem : purpose_fits purpose ≡ true → purpose_in clear ≡ purpose
  unfolding with_purpose purpose_fits
  purpose_in_lem e =
      let h = ltb-true purpose 16 e in
      let q : (k % 16 * 16 + purpose % 16) % 16 ≡ purpose = omega arith in q

  middle_in_lem : middle_in clear ≡ middle
  unfolding with_purpose
  middle_in_lem = take_at middle tchallenge 4 m4

  challenge_in_lem : challenge_in clear ≡ tchallenge
  unfolding with_purpose
  challenge_in_lem = ap (take 10) (drop_at middle tchallenge 4 m4) ∙ take_all 10 tchallenge (omega arith)

  module _ (held : Session) (e : held.tchallenge ≡ tchallenge) where
    pub iam_holds : iam_proof k held clear ≡ true
    unfolding iam_proof purpose_allowed
    iam_holds =
        ap₂ both (eq-eqb (constant_in clear) k constant_in_lem) (ap₂ same challenge_in_lem e ∙ same_self tchallenge)

    pub middle_holds : held.ichallenge ≡ middle → same (middle_in clear) held.ichallenge ≡ true
    middle_holds q = ap₂ same middle_in_lem q ∙ same_self middle

-- the block that the reader sends, and what the tag finds in it
module _ (keys : Keys) (key : Key) (k purpose : ℕ) (middle tchallenge : List ℕ) (knows : Knows keys key) (h : k < 4096)
    (m : Array 4 middle) (t : Array 10 tchallenge) where
  abbrev pub sent : List ℕ
  sent = response keys.enc (with_purpose k purpose) middle tchallenge

  pub sixteen : length sent ≡ 16
  sixteen =
      ap (λ (e : List ℕ). length (response e (with_purpose k purpose) middle tchallenge)) knows.has.enc
      ∙ (response_block key.enc (with_purpose k purpose) middle tchallenge knows.array.bytes
      (constant_bytes k purpose h) m.bytes t.bytes (constant_two k purpose) m.long t.long).sixteen

  pub opened : aes_enc key.enc sent ≡ clear k purpose middle tchallenge m.long t.long
  opened =
      ap (λ (e : List ℕ). aes_enc key.enc (response e (with_purpose k purpose) middle tchallenge)) knows.has.enc
      ∙ response_opened key.enc (with_purpose k purpose) middle tchallenge knows.array.bytes
      (constant_bytes k purpose h) m.bytes t.bytes (constant_two k purpose) m.long t.long

  pub sent_bytes : Bytes sent
  sent_bytes =
      rw knows.has.enc
      (response_block key.enc (with_purpose k purpose) middle tchallenge knows.array.bytes
      (constant_bytes k purpose h) m.bytes t.bytes (constant_two k purpose) m.long t.long).bytes
