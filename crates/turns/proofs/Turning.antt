-- What the callees of a turn leave is what the definition of the turn says.
use Rattle.std.specs.Prelude.{Result, Ok, Err, ℕ}
use Rattle.reader.specs.declared.ReaderFault.{ReaderFault}
use Rattle.std.specs.Option.{unwrap_or}
use mathlib.Core.Path.{◌≡◌, refl, sym, ap, ap₂, subst, ◌∙◌}
use mathlib.Core.Bool.{Bool, true, false}
use mathlib.Core.List.{List}
use Prim.Native.Nat.{ℕ}
use lib.ListN.{length, replicate}
use Rattle.ground.specs.Choice.{pick}
use Rattle.modes.specs.Room.{over}
use Rattle.reader.specs.declared.ReaderFault.TheVariants.{OwnMessage}
use Rattle.reader_build.specs.Makes.{Makes, taken}
use Rattle.reader_judge.specs.declared.Accepted.{Accepted}
use Rattle.reader_judge.specs.declared.Worth.TheVariants.{NoData}
use Rattle.reader_judge.specs.Findings.{Finding, refused, Judges}
use Rattle.reader_judge.proofs.Whole.{found_in, judgement_whole, whole_refusal, whole_acceptance, said_count}
use Rattle.tag.specs.declared.Stepped.{Stepped}
use Rattle.tag.specs.States.{KeyedTag}
use Rattle.tag.specs.Answers.{Answer, answer_of}
use Rattle.tag.specs.Reactions.{lent, Steps}
use Rattle.turns.specs.declared.Next.{Next}
use Rattle.turns.specs.declared.Next.TheVariants.{Done, RefusedByReader}
use Rattle.plan.specs.declared.Plan.{Plan}
use Rattle.turns.specs.declared.Standing.{Standing}
use Rattle.turns.specs.Standings.{Reply, message_in, reply_in, message_zeros, reply_zeros, data_zeros, verdict_next}
use Rattle.turns.specs.Standings.{turned, sending, concludes}
use Rattle.plan.specs.Drafts.{Draft}
use Rattle.turns.specs.Sends.{sends, sends_made}
use Rattle.turns.specs.Turns.{Plays, finding_in, proves, meets, closed, ended_by, ended, replied, answered_by}

-- ---- the reader's messages

enough : (fit : Bool) → taken fit message_zeros ≡ fit
enough true = refl
enough false = refl

module _ (next : Next) (s : Standing) where
  picked : (b : Bool) (n : ℕ) (full zeros : List ℕ)
      → sends_made next s (pick b (Ok n) (Err OwnMessage)) (pick b full zeros)
      ≡ pick b (sending next s full n) (turned (RefusedByReader OwnMessage) s)
  unfolding sends_made
  picked true n full zeros = refl
  picked false n full zeros = refl

  -- what a builder made is sent as its draft says
  pub sends_made_lem : (d : Draft) (made : Result ℕ ReaderFault) (room : List ℕ)
      → Makes d.fit d.message message_zeros made room → sends_made next s made room ≡ sends next s d
  unfolding sends
  sends_made_lem d made room h =
      ap₂ {C = Standing} (λ x y. sends_made next s x y) h.says h.holds
      ∙ picked (taken d.fit message_zeros) (length d.message) (over d.message message_zeros) message_zeros
      ∙ ap (λ (b : Bool). pick b (sending next s (over d.message message_zeros) (length d.message))
      (turned (RefusedByReader OwnMessage) s)) (enough d.fit)

  pub sends_by : (h : Standing) (d : Draft) (made : Result ℕ ReaderFault) (room : List ℕ) (r : Standing)
      → r ≡ sends_made next h made room → h ≡ s → Makes d.fit d.message message_zeros made room
      → r ≡ sends next s d
  sends_by h d made room r e q m =
      e ∙ ap (λ (x : Standing). sends_made next x made room) q ∙ sends_made_lem d made room m

-- ---- the reader's judgement

module _ (p : Plan) (s : Standing) (j : Result Accepted ReaderFault) (room : List ℕ) (reply : Reply)
    (h : Judges (finding_in p s reply) data_zeros j room) where
  abbrev found : Finding
  found = finding_in p s reply

  as_accepted : (a : Accepted) → j ≡ Ok a → found ≡ found_in (Ok a) found.bytes
  unfolding finding_in
  as_accepted a e = whole_acceptance
      (judgement_whole p.keys (message_in s.sent) (reply_in reply) (length data_zeros)) (sym h.says ∙ e)

  as_refused : (f : ReaderFault) → j ≡ Err f → found ≡ refused f
  unfolding finding_in
  as_refused f e = whole_refusal
      (judgement_whole p.keys (message_in s.sent) (reply_in reply) (length data_zeros)) (sym h.says ∙ e)

  pub ended_accepted : (a : Accepted) (r : Standing) → j ≡ Ok a
      → r ≡ concludes Done s reply (record { bytes = room; count = a.«data»; worth = a.worth }) → r ≡ ended p s reply
  unfolding ended verdict_next
  ended_accepted a r e w =
      w
      ∙ ap₂ {C = Standing} (λ x n. concludes Done s reply (record { bytes = x; count = n; worth = a.worth }))
      h.holds (said_count found a (sym h.says ∙ e))
      ∙ sym (ap (λ (f : Finding). concludes (verdict_next f.verdict) s reply (record {
        bytes = over found.bytes data_zeros;
        count = length found.bytes;
        worth = f.worth;
      })) (as_accepted a e))

  pub ended_refused : (f : ReaderFault) (r : Standing) → j ≡ Err f
      → r ≡ concludes (RefusedByReader f) s reply (record { bytes = room; count = 0; worth = NoData })
      → r ≡ ended p s reply
  unfolding ended verdict_next
  ended_refused f r e w =
      w
      ∙ ap (λ (x : List ℕ). concludes (RefusedByReader f) s reply (record { bytes = x; count = 0; worth = NoData }))
      (h.holds ∙ ap (λ (x : Finding). over x.bytes data_zeros) (as_refused f e))
      ∙ sym (ap (ended_by s reply) (as_refused f e))

module _ (p : Plan) (s : Standing) (j : Result Accepted ReaderFault) (room words : List ℕ)
    (h : Judges (finding_in p s s.reply) data_zeros j room) where
  pub closed_accepted : (challenge : List ℕ) (a : Accepted) (r : Standing) → j ≡ Ok a
      → challenge ≡ unwrap_or a.challenge (replicate 10 0) → r ≡ proves p words challenge s → r ≡ closed p words s
  unfolding closed meets
  closed_accepted challenge a r e q w =
      w ∙ ap (λ (x : List ℕ). proves p words x s) q
      ∙ sym (ap (λ (f : Finding). meets p words f.challenge s f.verdict) (as_accepted p s j room s.reply h a e))

  pub closed_refused : (f : ReaderFault) (r : Standing) → j ≡ Err f → r ≡ turned (RefusedByReader f) s
      → r ≡ closed p words s
  unfolding closed meets
  closed_refused f r e w =
      w ∙ sym (ap (λ (x : Finding). meets p words x.challenge s x.verdict) (as_refused p s j room s.reply h f e))

-- ---- the tag's answer

-- the message and the draws in other words
pub steps_as : (tag : KeyedTag) (m n d e room i u after j w : List ℕ) (x : Stepped) → m ≡ n → d ≡ e
    → Steps (answer_of (lent m d room i u) tag) room x after j w
    → Steps (answer_of (lent n e room i u) tag) room x after j w
steps_as tag m n d e room i u after j w x p q h =
    subst (λ (y : List ℕ). Steps (answer_of (lent y e room i u) tag) room x after j w) p
    (subst (λ (y : List ℕ). Steps (answer_of (lent m y room i u) tag) room x after j w) q h)

pub answered_by_lem : (p : Plan) (s : Standing) (a : Answer) (x : Stepped) (room i u : List ℕ) (r : Standing)
    → Steps a reply_zeros x room i u → r ≡ replied p s room x.outcome
    → Plays (answered_by p s a) (record { standing = r; tag = x.tag }) i u
answered_by_lem p s a x room i u r h e = record {
  standing = e ∙ ap₂ {C = Standing} (λ y o. replied p s y o) h.reply h.outcome;
  tag = h.next;
  identity = h.identity;
  user = h.user;
}
