-- Where a run of calls leads to, and what the standard's tag leaves of a message there. A key record that is there
-- stays, and the areas keep their sizes.
use mathlib.Core.Path.{◌≡◌, refl, ap, ◌∙◌, subst}
use mathlib.Core.List.{List, [], ◌∷◌, ◌++◌}
use lib.ListN.{length, drop}
use Rattle.tag.specs.States.{keyed, keyless, awake, powered_up}
use Rattle.tag.specs.Answers.{Answer, Call, answer_of}
use Rattle.tag.specs.Reactions.{lent, stepped_of}
use Rattle.tag.specs.Runs.{answer_to, run}
use Rattle.tag.specs.Plays.{Brought, Doing, Step, Wake, Left, events_of, left_of, left_all}
use Rattle.tag.proofs.Areas.{elsewhere}
use Rattle.claims.specs.Starts.{Start, HasRecord}
use Rattle.claims.specs.ShutOut.{Program, StandardOn, Each, last_of}
use Rattle.claims.proofs.OneTag.{defined, is_defined}

-- what a message comes to
abbrev pub call_at : Start → Brought → Call
call_at s b = lent b.message b.draws b.room s.identity s.user

abbrev pub answer_at : Start → Brought → Answer
answer_at s b = answer_of (call_at s b) (keyed s.tag s.table)

abbrev pub left_at : Start → Brought → Left
left_at s b = left_of stepped_of (Step b) (answer_at s b)

-- where an answer leads to, and a power-up
abbrev pub onward : Start → Answer → Start
onward s a = record { table = s.table; tag = keyless a.tag; identity = a.identity; user = a.user }

abbrev pub woke : Start → Start
woke s = record { table = s.table; tag = awake s.tag.terms; identity = s.identity; user = s.user }

abbrev pub next : Start → Doing → Start
next s (Step b) = onward s (answer_at s b)
next s Wake = woke s

abbrev pub reached : Start → List Doing → Start
reached s [] = s
reached s (d ∷ ds) = reached (next s d) ds

-- ---- what is left

last_left : (ds : List Doing) (s : Start) (b : Brought) → last_of defined s ds b ≡ left_at (reached s ds) b ∷ []
unfolding left_all run answer_to powered_up events_of
last_left [] s b = refl
last_left (Step c ∷ ds) s b = last_left ds (next s (Step c)) b
last_left (Wake ∷ ds) s b = last_left ds (woke s) b

module _ (s : Start) (p : Program) (h : StandardOn s p) (ds : List Doing) (b : Brought) where
  pub last_is : last_of p s ds b ≡ left_at (reached s ds) b ∷ []
  last_is = ap (drop (length ds)) (is_defined s p h (ds ++ (Step b ∷ []))) ∙ last_left ds s b

  -- what holds of all that is left holds of it
  pub of_last : (P : Left → Type 0) → Each P (last_of p s ds b) → P (left_at (reached s ds) b)
  unfolding Each
  of_last P e = (subst (λ (xs : List Left). Each P xs) last_is e).0

-- ---- what stays

stays : (d : Doing) (s : Start) → HasRecord s → HasRecord (next s d)
stays (Step b) s h =
    let e = elsewhere (call_at s b) (keyed s.tag s.table) in
    record {
      keyid = h.keyid;
      there = h.there;
      bytes = h.bytes;
      identity = e.identity_length ∙ h.identity;
      user = e.user_length ∙ h.user;
    }
stays Wake s h = record {
  keyid = h.keyid;
  there = h.there;
  bytes = h.bytes;
  identity = h.identity;
  user = h.user;
}

pub stays_all : (ds : List Doing) (s : Start) → HasRecord s → HasRecord (reached s ds)
stays_all [] s h = h
stays_all (d ∷ ds) s h = stays_all ds (next s d) (stays d s h)
