-- The reply to MAM1: from its parts, its length, its layout (Table 24), and that it is bytes.
use mathlib.Core.Path.{◌≡◌, refl, sym, ap, ap₂, ◌∙◌}
use mathlib.Core.List.{List, [], ◌∷◌, ◌++◌}
use Prim.Native.Nat.{ℕ}
use native.Mathlib.Omega.{arith}
use lib.ListN.{length, get_or, take, drop, length-append, length-drop}
use lib.Seq.{length-take-le}
use Rattle.ground.specs.Bytes.{Bytes, two_bytes}
use Rattle.aes.specs.AesEnc.{aes_enc}
use Rattle.modes.proofs.Whole.{bytes_take}
use Rattle.sheet.specs.declared.Key.{Key}
use Rattle.frames.specs.declared.Mam1.{Mam1}
use Rattle.frames.specs.Constants.{c_mam1}
use Rattle.frames.specs.Lengths.{mam1_reply_length}
use Rattle.frames.specs.Messages.{mam1_of}
use Rattle.octets.specs.Parts.{bytes_from}
use Rattle.octets.proofs.Parts.{bytes_length, bytes_drop, whole}
use Rattle.payload.proofs.Bytes.{last_four, joined_bytes}
use Rattle.payload.proofs.Lengths.{enc_sixteen}
use Rattle.offer.proofs.Bytes.{Ten, drop_bytes, challenge_ten, block_block}
use Rattle.entry.specs.Replies.{mam1_reply}

-- from its parts
pub mam1_made_lem : (key : Key) (m : Mam1) (draws k b e r : List ℕ) → length draws ≡ 10 → k ≡ two_bytes c_mam1
    → b ≡ k ++ ((get_or draws 6 0 ∷ get_or draws 7 0 ∷ get_or draws 8 0 ∷ get_or draws 9 0 ∷ []) ++ m.ichallenge)
    → e ≡ aes_enc key.enc b → r ≡ e ++ take 6 draws
    → r ≡ mam1_reply key m draws
unfolding mam1_reply
mam1_made_lem key m draws k b e r h p q s t =
    t ∙ ap (λ (l : List ℕ). l ++ take 6 draws)
    (s ∙ ap (aes_enc key.enc) (q ∙ ap₂ {C = List ℕ} (λ x y. x ++ (y ++ m.ichallenge)) p (last_four draws h)))

-- its length
pub mam1_long : (key : Key) (m : Mam1) (draws : List ℕ) → length draws ≡ 10
    → length (mam1_reply key m draws) ≡ mam1_reply_length
unfolding mam1_reply
mam1_long key m draws e =
    let b = aes_enc key.enc (two_bytes c_mam1 ++ (drop 6 draws ++ m.ichallenge)) in
    omega (
      arith,
      length-append b (take 6 draws),
      enc_sixteen key.enc
          (two_bytes c_mam1 ++ (drop 6 draws ++ m.ichallenge)),
      length-take-le 6 draws (omega arith),
    )

-- DA83, TChallenge[31:0], IChallenge; TChallenge[79:32].
pub mam1_layout : (key : Key) (m : Mam1) (draws : List ℕ)
    → mam1_reply key m draws ≡ aes_enc key.enc (two_bytes 0xDA83 ++ (drop 6 draws ++ m.ichallenge)) ++ take 6 draws
unfolding mam1_reply
mam1_layout key m draws = refl

-- the last 32 bits of the reader's challenge
pub challenge_kept : (m : List ℕ) → bytes_from (mam1_of m).ichallenge 6 4 ≡ drop 6 (mam1_of m).ichallenge
unfolding mam1_of
challenge_kept m =
    let s = bytes_from m 2 10 in
    sym (bytes_drop s 4 6) ∙ whole (drop 6 s) 4 (omega (arith, length-drop 6 s, bytes_length m 2 10))

-- bytes
pub mam1_challenge : (m : List ℕ) → Bytes m → Ten (mam1_of m).ichallenge
unfolding mam1_of
mam1_challenge m h = challenge_ten m h

module _ (draws : List ℕ) (d : Ten draws) (key : Key) (enc : Bytes key.enc) where
  pub mam1_bytes : (m : Mam1) → Ten m.ichallenge → Bytes (mam1_reply key m draws)
  unfolding mam1_reply
  mam1_bytes m t =
      joined_bytes (aes_enc key.enc (two_bytes c_mam1 ++ (drop 6 draws ++ m.ichallenge))) (take 6 draws)
      (block_block key.enc (drop 6 draws) m.ichallenge c_mam1 enc (omega arith)
      (omega (arith, length-drop 6 draws, d.ten)) (drop_bytes 6 draws d.bytes) t).bytes
      (bytes_take 6 draws d.bytes)
