-- What is next after a turn: a half that played its turn is not next.
use Rattle.std.specs.Prelude.{Result, Ok, Err}
use Rattle.offer.specs.Outcomes.{Outcome}
use Rattle.offer.specs.declared.Answer.TheVariants.{Replied, Entered}
use mathlib.Core.Path.{◌≡◌, refl, ap}
use mathlib.Core.Bool.{Bool, true, false}
use mathlib.Core.List.{List}
use Prim.Native.Nat.{ℕ}
use Rattle.ground.specs.Choice.{pick}
use Rattle.offer.specs.declared.TagFault.{TagFault}
use Rattle.reader.specs.declared.ReaderFault.{ReaderFault}
use Rattle.reader.specs.declared.ReaderFault.TheVariants.{OwnMessage}
use Rattle.plan.specs.declared.Plan.{Plan}
use Rattle.turns.specs.declared.Next.{Next}
use Rattle.turns.specs.declared.Next.TheVariants.{ReaderOpens, TagAnswers, ReaderCloses, TagEnds, Done}
use Rattle.turns.specs.declared.Next.TheVariants.{RefusedByTag, RefusedByReader}
use Rattle.turns.specs.declared.Standing.{Standing}
use Rattle.turns.specs.Standings.{Reply, readers, tags, verdict_next, ends_with}
use Rattle.plan.specs.Drafts.{Draft}
use Rattle.turns.specs.Sends.{sends}
use Rattle.turns.specs.Turns.{proves, meets, opened, closed, asked, ended, received, replied}

-- ---- any test of what is next, by the ways a turn can end

module _ (P : Next → Bool) (v : Bool) where
  chosen : (b : Bool) (s t : Standing) → P s.next ≡ v → (b ≡ false → P t.next ≡ v) → P (pick b s t).next ≡ v
  chosen true s t p q = p
  chosen false s t p q = q refl

  module _ (refused : (f : ReaderFault) → P (RefusedByReader f) ≡ v) where
    -- a message is sent, or the reader's side refuses to build it
    pub sends_next : (next : Next) (s : Standing) (d : Draft) → P next ≡ v → P (sends next s d).next ≡ v
    unfolding sends
    sends_next next s d h = chosen d.fit _ _ h (λ e. refused OwnMessage)

    pub meets_next : (p : Plan) (words challenge : List ℕ) (s : Standing) (verdict : Result Unit ReaderFault)
        → P TagEnds ≡ v → P (meets p words challenge s verdict).next ≡ v
    unfolding meets proves
    meets_next p words challenge s (Ok tt) h = sends_next TagEnds _ _ h
    meets_next p words challenge s (Err f) h = refused f

    verdict_next_lem : (verdict : Result Unit ReaderFault) → P Done ≡ v → P (verdict_next verdict) ≡ v
    unfolding verdict_next
    verdict_next_lem (Ok tt) h = h
    verdict_next_lem (Err f) h = refused f

    -- a reply is judged, or waits for the reader where it does not end the exchange
    module _ (p : Plan) (s : Standing) (done : P Done ≡ v)
        (waits : ends_with s.next p.method ≡ false → P ReaderCloses ≡ v) where
      received_next : (reply : Reply) → P (received p s reply).next ≡ v
      unfolding received ended
      received_next reply = chosen (ends_with s.next p.method) _ _ (verdict_next_lem _ done) waits

      pub replied_next : (room : List ℕ) (o : Outcome) → ((f : TagFault) → P (RefusedByTag f) ≡ v)
          → P (replied p s room o).next ≡ v
      unfolding replied
      replied_next room (Ok (Replied n)) k = received_next _
      replied_next room (Ok (Entered purpose)) k = received_next _
      replied_next room (Err f) k = k f

-- ---- the halves

-- after its turn the reader is not next
pub reader_played : (p : Plan) (words : List ℕ) (s : Standing) (k : Next) → s.next ≡ k
    → readers (asked p words s k).next ≡ false
unfolding asked opened closed readers
reader_played p words s ReaderOpens e = sends_next readers false (λ f. refl) TagAnswers s _ refl
reader_played p words s TagAnswers e = ap readers e
reader_played p words s ReaderCloses e = meets_next readers false (λ f. refl) p words _ s _ refl
reader_played p words s TagEnds e = ap readers e
reader_played p words s Done e = ap readers e
reader_played p words s (RefusedByTag f) e = ap readers e
reader_played p words s (RefusedByReader f) e = ap readers e

-- after its turn the tag is not next
pub tag_played : (p : Plan) (s : Standing) (room : List ℕ) (o : Outcome) → tags (replied p s room o).next ≡ false
unfolding tags
tag_played p s room o = replied_next tags false (λ f. refl) p s refl (λ e. refl) room o (λ f. refl)
