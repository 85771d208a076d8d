-- What is sent of a reply, and of a refusal.
use Rattle.std.specs.Prelude.{Result, Ok, Err}
use Rattle.offer.specs.declared.TagFault.{TagFault}
use mathlib.Core.Path.{◌≡◌, refl, sym, ap, ◌∙◌}
use mathlib.Core.List.{List}
use Prim.Native.Nat.{ℕ}
use lib.ListN.{length, take, replicate}
use Rattle.modes.specs.Room.{over}
use Rattle.payload.proofs.Overs.{over_taken}
use Rattle.frames.specs.Lengths.{reply_room}
use Rattle.offer.specs.Outcomes.{settled}
use Rattle.tam.specs.declared.Reply.{Reply}
use Rattle.tam.specs.Given.{reply_of}
use Rattle.entry.specs.declared.Reacted.{Reacted}
use Rattle.entry.specs.declared.Session.{Session}
use Rattle.entry.specs.Sessions.{cleared}
use Rattle.tag.specs.Answers.{Call, replied, refused, if_fine}
use Rattle.tag.specs.Reactions.{Reacts, Sends, told, bytes_of}

-- a reply in its room, and the bytes of it
module _ (bytes : List ℕ) (x : Result Reply TagFault) where
  pub in_room : (v : Result Unit TagFault) → x ≡ settled v (Ok (reply_of bytes)) Err → (y : Reply) → x ≡ Ok y
      → settled v (Ok bytes) Err ≡ Ok (take y.length y.room)
  in_room (Ok tt) e y h =
      let q : reply_of bytes ≡ y = cc in
      ap (λ (l : List ℕ). Ok l)
      (sym (over_taken bytes (replicate reply_room 0) (length bytes) refl) ∙ ap (λ (z : Reply). take z.length z.room) q)
  in_room (Err f) e y h = absurd cc

  pub in_none : (v : Result Unit TagFault) → x ≡ settled v (Ok (reply_of bytes)) Err → (f : TagFault) → x ≡ Err f
      → settled v (Ok bytes) Err ≡ Err f
  in_none (Ok tt) e f h = absurd cc
  in_none (Err g) e f h = ap (λ (k : TagFault). Err k) cc

-- TAM ends in Initial either way
pub nothing : (w : Result Unit TagFault) → cleared ≡ settled w cleared (λ f. cleared)
nothing (Ok tt) = refl
nothing (Err f) = refl

-- what is sent is what the message comes to
module _ (c : Call) (room : List ℕ) (r : Reacted) (after bytes : List ℕ) (s next : Session)
    (reply : Result (List ℕ) TagFault) (h : Sends reply s room r after)
  where
    pub reacts_sent : (v : Result Unit TagFault) → reply ≡ settled v (Ok bytes) Err → s ≡ settled v next (λ f. cleared)
        → Reacts (if_fine c v (replied c bytes next)) room r after
    unfolding if_fine replied refused
    reacts_sent (Ok tt) e n = record {
      outcome = h.outcome ∙ ap told e;
      session = h.session ∙ n;
      reply = h.sent ∙ ap (λ (x : Result (List ℕ) TagFault). over (bytes_of x) room) e;
    }
    reacts_sent (Err f) e n = record {
      outcome = h.outcome ∙ ap told e;
      session = h.session ∙ n;
      reply = h.sent ∙ ap (λ (x : Result (List ℕ) TagFault). over (bytes_of x) room) e;
    }
