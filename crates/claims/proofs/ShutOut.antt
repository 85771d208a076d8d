-- False tags, shut out on every tag that has what a message takes: by a TAM1, which every tag with a key record takes
-- in every state, and of a made-up length by a message of its kind.
use Rattle.std.specs.Prelude.{Ok}
use Rattle.offer.specs.Outcomes.{Outcome}
use Rattle.offer.specs.declared.Answer.TheVariants.{Replied}
use mathlib.Core.Path.{◌≡◌, refl, sym, ap, ◌∙◌}
use mathlib.Core.List.{List, [], ◌∷◌, map}
use Prim.Native.Nat.{ℕ}
use native.Mathlib.Omega.{arith}
use lib.ListN.{length, take}
use Rattle.frames.specs.declared.Kind.{Kind}
use Rattle.frames.specs.Messages.{tam1_message}
use Rattle.offer.specs.Outcomes.{reply_length}
use Rattle.tag.specs.States.{keyed}
use Rattle.tag.specs.Plays.{Doing, Left}
use Rattle.reader_build.specs.Builds.{tam1_made}
use Rattle.claims.specs.Starts.{HasRecord, Takes}
use Rattle.claims.specs.ShutOut.{steps, last_of, seen, layout_length, ShutOut}
use Rattle.claims.specs.ShutOut.{RefusesEverything, OneFixedReply, LaterForShow, MadeUpLength}
use Rattle.claims.proofs.Reached.{call_at, left_at, reached, stays_all, last_is, of_last}
use Rattle.claims.proofs.ReplyLength.{answer_long}
use Rattle.claims.proofs.Taken.{tam1, tam1_answered, tam1_seen, tam1_tells}
use Rattle.claims.proofs.Served.{serves}

pub refuses_everything : ShutOut HasRecord RefusesEverything
unfolding steps
refuses_everything s h p says standard =
    of_last s p standard [] (tam1 s h 0 0) (λ x. (n : ℕ) → x.stepped.outcome ≡ Ok (Replied n) → ⊥)
    (says [] (tam1 s h 0 0)) (length (tam1_answered s h 0 0))
    (ap (λ (x : Outcome × List ℕ). x.0) (tam1_seen s h 0 0))

-- two TAM1 with other draws
pub one_fixed_reply : (reply : List ℕ) → ShutOut HasRecord (OneFixedReply reply)
unfolding steps
one_fixed_reply reply s h p says standard =
    let z =
    (tam1_tells s h 0 0 1 0 (omega arith) (omega arith) (omega arith) (omega arith) (sent 0 ∙ sym (sent 1))).0 in
    omega arith
  where
    sent : (n : ℕ) → tam1_answered s h n 0 ≡ reply
    sent n =
        let x = left_at s (tam1 s h n 0) in
        let told = ap (λ (y : Outcome × List ℕ). y.0) (tam1_seen s h n 0) in
        sym (ap (λ (y : Outcome × List ℕ). y.1) (tam1_seen s h n 0))
        ∙ ap (λ (o : Outcome). take (reply_length o) x.room) told
        ∙ of_last s p standard [] (tam1 s h n 0)
        (λ (x : Left). (k : ℕ) → x.stepped.outcome ≡ Ok (Replied k) → take k x.room ≡ reply)
        (says [] (tam1 s h n 0)) (length (tam1_answered s h n 0)) told

-- the first reply that is seen
abbrev first : List (Outcome × List ℕ) → List ℕ
first [] = []
first (x ∷ xs) = x.1

-- two TAM1 with other challenges
pub later_for_show : (ds : List Doing) → ShutOut HasRecord (LaterForShow ds)
unfolding tam1_made tam1_message
later_for_show ds s h p says standard =
    let t = reached s ds in
    let k = stays_all ds s h in
    let like = says (tam1 t k 0 0) (tam1 t k 0 1) (record { begins = refl; long = refl; draws = refl; room = refl }) in
    let e = sym (shown 0) ∙ ap first like ∙ shown 1 in
    let z = (tam1_tells t k 0 0 0 1 (omega arith) (omega arith) (omega arith) (omega arith) e).1 in
    omega arith
  where
    shown : (i : ℕ) → first (map seen (last_of p s ds (tam1 (reached s ds) (stays_all ds s h) 0 i)))
        ≡ tam1_answered (reached s ds) (stays_all ds s h) 0 i
    shown i =
        ap (λ (xs : List Left). first (map seen xs)) (last_is s p standard ds _)
        ∙ ap (λ (x : Outcome × List ℕ). x.1) (tam1_seen (reached s ds) (stays_all ds s h) 0 i)

pub made_up_length : (kind : Kind) → ShutOut (Takes kind) (MadeUpLength kind)
made_up_length kind s h p says standard =
    let v = serves kind s h in
    let t = reached s (steps v.before) in
    let long = answer_long (call_at t v.message) (keyed t.tag t.table) v.taken in
    of_last s p standard (steps v.before) v.message _ (says v.before v.message) v.begins v.taken
    (long ∙ ap (λ (k : Kind). layout_length k v.message.message) v.begins)
