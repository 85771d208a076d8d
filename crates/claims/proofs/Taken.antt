-- What a tag takes: a TAM1 in any state, with a reply that tells the draws and the challenge; and an empty message ends
-- in Initial, as a power-up does, so that what follows it is taken as from the start.
use Rattle.std.specs.Prelude.{Result, Ok}
use Rattle.offer.specs.Outcomes.{Outcome}
use Rattle.offer.specs.declared.Answer.TheVariants.{Replied}
use Rattle.offer.specs.declared.TagFault.{TagFault}
use mathlib.Core.Path.{◌≡◌, refl, sym, ap, ◌∙◌}
use mathlib.Core.List.{List, [], ◌++◌}
use Prim.Native.Nat.{ℕ, zero, suc, ◌<◌}
use native.Mathlib.Omega.{arith}
use borrow.Author.Tests.{eq-eqb}
use lib.ListN.{length, take, get_or, replicate}
use lib.Seq.{take-append_seam}
use Rattle.ground.specs.Bytes.{Bytes, two_bytes}
use Rattle.aes_inverse.specs.AesDec.{aes_dec}
use Rattle.aes_inverse.proofs.Inverse.{dec_enc}
use Rattle.modes.proofs.Whole.{bytes_take}
use Rattle.frames.specs.Constants.{c_tam1}
use Rattle.offer.specs.Checks.{judged}
use Rattle.offer.specs.Judged.{lending_checks}
use Rattle.offer.specs.Records.{offered}
use Rattle.offer.proofs.Bytes.{zeros_bytes}
use Rattle.offer.proofs.Lines.{passes, ends}
use Rattle.tam.specs.Replies.{tam_block, tam1_reply}
use Rattle.entry.specs.Sessions.{cleared}
use Rattle.tag.specs.States.{keyed, in_turn}
use Rattle.tag.specs.Answers.{Answer, replied, refused, answer_with, of_message, of_lending, effect_of}
use Rattle.tag.specs.Reactions.{stepped_of}
use Rattle.tag.specs.Plays.{Brought, Step, left_of}
use Rattle.reader_build.specs.Builds.{tam1_made}
use Rattle.claims.specs.Starts.{Start, setup_at, HasRecord, record_at}
use Rattle.claims.specs.ShutOut.{seen}
use Rattle.claims.proofs.Bench.{drawn, brings}
use Rattle.claims.proofs.EncKeys.{enc_array}
use Rattle.claims.proofs.Opens.{plain_block}
use Rattle.claims.proofs.Openings.{tam1_answered_lem}
use Rattle.claims.proofs.Reached.{call_at, answer_at, left_at, onward, woke}

-- ten draws, or a challenge
pub drawn_bytes : (n : ℕ) → n < 256 → Bytes (drawn n)
drawn_bytes n h zero = h
drawn_bytes n h (suc i) = zeros_bytes 9 i

-- an empty message
abbrev pub nothing : Brought
nothing = brings [] 0

module _ (s : Start) (h : HasRecord s) where
  -- the bench lends what it must
  pub lends : (n : ℕ) → judged (lending_checks (setup_at s).sizes (length (drawn n)) (length (replicate {A = ℕ} 172 0))
      (length s.identity) (length s.user)) ≡ Ok tt
  unfolding lending_checks
  lends n = sym (passes _ _ refl (passes _ _ refl (passes _ _ (eq-eqb _ _ h.identity)
      (passes _ _ (eq-eqb _ _ h.user) ends))))

  -- ---- the empty message

  pub rests : onward s (answer_at s nothing) ≡ woke s
  unfolding effect_of of_message refused
  rests = ap (λ (v : Result Unit TagFault). onward s (answer_with (setup_at s)
      (of_lending (call_at s nothing) (setup_at s) s.tag.session v))) (lends 0)

  -- ---- TAM1, with n first of the draws and i first of the challenge

  module _ (n i : ℕ) where
    abbrev pub tam1 : Brought
    tam1 = brings (tam1_made h.keyid (drawn i)) n

    abbrev pub tam1_answered : List ℕ
    tam1_answered =
        tam1_reply (record_at s h) (record { rfu = 0; keyid = h.keyid; ichallenge = drawn i }) (drawn n)

    tam1_taken : answer_at s tam1 ≡ answer_with (setup_at s) (replied (call_at s tam1) tam1_answered cleared)
    unfolding offered in_turn
    tam1_taken = tam1_answered_lem (call_at s tam1) (keyed s.tag s.table) h.keyid (drawn i)
        (record { bench = lends n; there = refl; turn = refl }) h.there refl refl

    pub tam1_seen : seen (left_at s tam1) ≡ (Ok (Replied (length tam1_answered)), tam1_answered)
    unfolding replied
    tam1_seen = ap (λ (a : Answer). seen (left_of stepped_of (Step tam1) a)) tam1_taken
        ∙ ap {B = Outcome × List ℕ} (λ l. (Ok (Replied (length tam1_answered)), l)) (take-append_seam tam1_answered _)

    tam1_opened : n < 256 → i < 256
        → aes_dec (record_at s h).enc tam1_answered ≡ two_bytes c_tam1 ++ (take 4 (drawn n) ++ drawn i)
    unfolding tam1_reply tam_block
    tam1_opened hn hi =
        dec_enc (record_at s h).enc _ (enc_array h.keyid s.table h.bytes h.there).bytes
        (plain_block c_tam1 (take 4 (drawn n)) (drawn i) refl (omega arith)
        (bytes_take 4 (drawn n) (drawn_bytes n hn)) (record { ten = refl; bytes = drawn_bytes i hi }))

  -- no cipher is computed: AES-DEC undoes AES-ENC
  pub tam1_tells : (n i m j : ℕ) → n < 256 → i < 256 → m < 256 → j < 256 → tam1_answered n i ≡ tam1_answered m j
      → (n ≡ m) × (i ≡ j)
  tam1_tells n i m j hn hi hm hj e =
      let q = sym (tam1_opened n i hn hi) ∙ ap (aes_dec (record_at s h).enc) e ∙ tam1_opened m j hm hj in
      (ap (λ (l : List ℕ). get_or l 2 0) q, ap (λ (l : List ℕ). get_or l 6 0) q)
