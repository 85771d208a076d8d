-- The reader opens what the tag closed: blocks, challenges, and data.
use mathlib.Core.Path.{◌≡◌, sym, ap, ap₂, ◌∙◌}
use mathlib.Core.Bool.{true}
use mathlib.Core.List.{List, ◌++◌}
use Prim.Native.Nat.{ℕ, ◌≤◌}
use native.Mathlib.Omega.{arith}
use borrow.Author.Tests.{eq-eqb}
use lib.ListN.{length, take, drop, length-append, length-drop, take-append-drop}
use lib.Seq.{take_at, drop_at, take_all, length-take-le}
use Rattle.ground.proofs.Bytes.{two_bytes_lem}
use Rattle.ground.specs.Bytes.{Bytes, two_bytes}
use Rattle.ground.specs.Choice.{both}
use Rattle.ground.proofs.Checked.{passes, ends}
use Rattle.field.proofs.Block.{Block}
use Rattle.aes.specs.AesEnc.{aes_enc}
use Rattle.aes_inverse.specs.AesDec.{aes_dec}
use Rattle.aes_inverse.proofs.Inverse.{dec_enc}
use Rattle.modes.proofs.Whole.{bytes_take}
use Rattle.sheet.specs.declared.Key.{Key}
use Rattle.frames.specs.declared.Tam1.{Tam1}
use Rattle.frames.specs.declared.Mam1.{Mam1}
use Rattle.frames.specs.Constants.{c_tam1, c_mam1}
use Rattle.octets.specs.Alike.{same}
use Rattle.octets.proofs.Alike.{same_self}
use Rattle.payload.proofs.Lengths.{enc_sixteen}
use Rattle.tam.specs.Replies.{tam_block, tam1_reply}
use Rattle.entry.specs.Replies.{mam1_reply}
use Rattle.payload.proofs.Bytes.{joined_bytes}
use Rattle.offer.proofs.Bytes.{Ten, drop_bytes}
use Rattle.tam.proofs.ReplyLengths.{tam1_long}
use Rattle.entry.proofs.Mam1Reply.{mam1_long}
use Rattle.reader.specs.declared.Keys.{Keys}
use Rattle.reader_judge.specs.Findings.{nothing_more, issues}
use Rattle.reader_judge.specs.Judged.{tam1_finding, mam1_finding}
use Rattle.reader_judge.specs.Opened.{opened_block, block_fits, challenge_in}

-- ---- a block

module _ (k : ℕ) (middle challenge : List ℕ) (four : length middle ≡ 4) where
  pub plain_block : k ≤ 0xFFFF → Bytes middle → Ten challenge → Block (two_bytes k ++ (middle ++ challenge))
  plain_block l h t =
      let s = middle ++ challenge in
      let n : length s ≡ 14 = omega (arith, length-append middle challenge, t.ten) in
      record {
        sixteen = omega arith;
        bytes = joined_bytes (two_bytes k) s (two_bytes_lem k (omega arith))
            (joined_bytes middle challenge h t.bytes);
      }

  -- the reader sees in it what the tag put into it
  pub opens : (keys : Keys) (enc reply : List ℕ) → keys.enc ≡ enc → Bytes keys.enc → k ≤ 0xFFFF → Bytes middle
      → Ten challenge
      → take 16 reply ≡ aes_enc enc (two_bytes k ++ (middle ++ challenge))
      → opened_block keys reply ≡ two_bytes k ++ (middle ++ challenge)
  unfolding opened_block
  opens keys enc reply e b l h t q =
      ap (aes_dec keys.enc) (q ∙ ap (λ (i : List ℕ). aes_enc i (two_bytes k ++ (middle ++ challenge))) (sym e))
      ∙ dec_enc keys.enc (two_bytes k ++ (middle ++ challenge)) b (plain_block l h t)

  -- and its own challenge behind the constant
  pub block_right : block_fits (two_bytes k) challenge (two_bytes k ++ (middle ++ challenge)) ≡ true
  unfolding block_fits
  block_right = ap₂ both (same_self (two_bytes k)) (ap (λ (l : List ℕ). same l challenge)
      (drop_at middle challenge 4 four) ∙ same_self challenge)

-- ---- TAM1 and MAM1

module _ (keys : Keys) (key : Key) (e : keys.enc ≡ key.enc) (b : Bytes keys.enc) (draws : List ℕ) (d : Ten draws)
  where
    tam1_front : (f : Tam1) → take 16 (tam1_reply key f draws) ≡ aes_enc key.enc
        (two_bytes c_tam1 ++ (take 4 draws ++ f.ichallenge))
    unfolding tam1_reply tam_block
    tam1_front f = take_all 16 _ (omega (
      arith,
      enc_sixteen key.enc
          (two_bytes c_tam1 ++ (take 4 draws ++ f.ichallenge)),
    ))

    pub tam1_found : (f : Tam1) → Ten f.ichallenge → tam1_finding keys f (tam1_reply key f draws) ≡ nothing_more
    unfolding tam1_finding
    tam1_found f t =
        let middle = take 4 draws in
        let four : length middle ≡ 4 = length-take-le 4 draws (omega (arith, d.ten)) in
        let o = opens c_tam1 middle f.ichallenge four keys key.enc (tam1_reply key f draws) e b (omega arith)
        (bytes_take 4 draws d.bytes) t (tam1_front f) in
        let right = block_right c_tam1 middle f.ichallenge four in
        let fits = ap (block_fits (two_bytes c_tam1) f.ichallenge) o ∙ right in
        sym (passes _ _ _ _ (eq-eqb _ _ (tam1_long key f draws)) (passes _ _ _ _ fits (ends _ _)))

    mam1_front : (f : Mam1) → take 16 (mam1_reply key f draws) ≡ aes_enc key.enc
        (two_bytes c_mam1 ++ (drop 6 draws ++ f.ichallenge))
    unfolding mam1_reply
    mam1_front f = take_at _ (take 6 draws) 16 (enc_sixteen key.enc
        (two_bytes c_mam1 ++ (drop 6 draws ++ f.ichallenge)))

    -- the clear part, and the part that was in the block
    mam1_whole : (f : Mam1) → length (drop 6 draws) ≡ 4
        → challenge_in (two_bytes c_mam1 ++ (drop 6 draws ++ f.ichallenge)) (mam1_reply key f draws) ≡ draws
    unfolding mam1_reply challenge_in
    mam1_whole f four =
        let plain = two_bytes c_mam1 ++ (drop 6 draws ++ f.ichallenge) in
        ap₂ {C = List ℕ} (λ (x y : List ℕ). x ++ y) (drop_at (aes_enc key.enc plain) (take 6 draws) 16
        (enc_sixteen key.enc plain)) (take_at (drop 6 draws) f.ichallenge 4 four)
        ∙ take-append-drop 6 draws

    pub mam1_found : (f : Mam1) → Ten f.ichallenge → mam1_finding keys f (mam1_reply key f draws) ≡ issues draws
    unfolding mam1_finding
    mam1_found f t =
        let middle = drop 6 draws in
        let four : length middle ≡ 4 = omega (arith, length-drop 6 draws, d.ten) in
        let o = opens c_mam1 middle f.ichallenge four keys key.enc (mam1_reply key f draws) e b (omega arith)
        (drop_bytes 6 draws d.bytes) t (mam1_front f) in
        let right = block_right c_mam1 middle f.ichallenge four in
        let fits = ap (block_fits (two_bytes c_mam1) f.ichallenge) o ∙ right in
        sym (passes _ _ _ _ (eq-eqb _ _ (mam1_long key f draws d.ten)) (passes _ _ _ _ fits (ends _ _)))
        ∙ ap issues (ap (λ (l : List ℕ). challenge_in l (mam1_reply key f draws)) o ∙ mam1_whole f four)
