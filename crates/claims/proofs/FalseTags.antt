-- The five false tags are there: five programs, and each is what its name says, on every tag. Three of them are in all
-- else the standard's tag, or begin as it does; at power-up each does as it should.
use Rattle.std.specs.Prelude.{Ok, Err}
use Rattle.offer.specs.Outcomes.{Outcome}
use Rattle.offer.specs.declared.Answer.TheVariants.{Replied, Entered}
use mathlib.Core.Path.{◌≡◌, refl, sym, ap, ◌∙◌, subst}
use mathlib.Core.List.{List, [], ◌∷◌, map}
use Prim.Native.Nat.{ℕ, suc}
use native.Mathlib.Omega.{arith}
use lib.ListN.{length, take, drop, replicate}
use lib.Seq.{take-append_seam}
use Rattle.ground.specs.Bytes.{Bytes}
use Rattle.modes.specs.Room.{over}
use Rattle.frames.specs.declared.Kind.{Kind}
use Rattle.frames.specs.Blocks.{data_length}
use Rattle.offer.specs.declared.TagFault.TheVariants.{OtherError}
use Rattle.offer.specs.Outcomes.{number_given, reply_length}
use Rattle.entry.specs.declared.State.TheVariants.{IamInit}
use Rattle.tag.specs.States.{keyed, powered_up}
use Rattle.tag.specs.Answers.{Answer, replied, let_in}
use Rattle.tag.specs.Runs.{answer_to, run}
use Rattle.tag.specs.Reactions.{stepped_of}
use Rattle.tag.specs.Plays.{Brought, Doing, Step, Wake, Left, woken, events_of, left_of, left_all}
use Rattle.claims.specs.Starts.{Start, HasWritable}
use Rattle.claims.specs.ShutOut.{Program, steps, Each, last_of, seen, layout_length, LooksLike}
use Rattle.claims.specs.ShutOut.{RefusesEverything, OneFixedReply, NeverStores, LaterForShow, MadeUpLength}
use Rattle.claims.proofs.OneTag.{defined}
use Rattle.claims.proofs.Reached.{call_at, left_at, onward, woke, next}
use Rattle.claims.proofs.ReplyLength.{some_number, answer_long}
use Rattle.claims.proofs.Taken.{nothing, rests}
use Rattle.claims.proofs.Challenged.{waiting, iam1, iam1_taken, iam3, iam3_taken}

-- ---- a program call by call: what it does with a message, and where it goes on from

module _ (does : Start → Brought → Left) (goes : Start → Brought → Start) where
  unfoldable pub call_by_call : Program
  call_by_call s [] = []
  call_by_call s (Step b ∷ ds) = does s b ∷ call_by_call (goes s b) ds
  call_by_call s (Wake ∷ ds) = woken s.tag s.identity s.user ∷ call_by_call (woke s) ds

  abbrev pub gone : Start → List Doing → Start
  gone s [] = s
  gone s (Step b ∷ ds) = gone (goes s b) ds
  gone s (Wake ∷ ds) = gone (woke s) ds

  last_done : (ds : List Doing) (s : Start) (b : Brought) → last_of call_by_call s ds b ≡ does (gone s ds) b ∷ []
  unfolding call_by_call
  last_done [] s b = refl
  last_done (Step c ∷ ds) s b = last_done ds (goes s c) b
  last_done (Wake ∷ ds) s b = last_done ds (woke s) b

  each_done : (P : Left → Type 0) (ds : List Doing) (s : Start) (b : Brought) → P (does (gone s ds) b)
      → Each P (last_of call_by_call s ds b)
  unfolding Each
  each_done P ds s b h = subst (λ (xs : List Left). Each P xs) (sym (last_done ds s b)) (h, tt)

-- where the standard's tag goes on from
abbrev truly : Start → Brought → Start
truly s b = next s (Step b)

-- an answer of a tag that keeps everything as it is
abbrev says : Start → Outcome → List ℕ → Left
says s o room = record {
  stepped = record { outcome = o; tag = s.tag };
  room = room;
  identity = s.identity;
  user = s.user;
}

abbrev stands : Start → Brought → Start
stands s b = s

-- ---- the tag that refuses everything

pub refuser : Program
refuser = call_by_call (λ s b. says s (Err OtherError) b.room) stands

pub refuser_is : (s : Start) → RefusesEverything s refuser
unfolding refuser
refuser_is s bs b = each_done _ _ _ (steps bs) s b (λ n e. cc)

-- ---- the tag with a single fixed reply: whatever comes, these bytes

module _ (reply : List ℕ) where
  pub repeater : Program
  repeater = call_by_call (λ s b. says s (Ok (Replied (length reply))) (over reply b.room)) stands

  pub repeater_is : (s : Start) → OneFixedReply reply s repeater
  unfolding repeater
  repeater_is s bs b =
      each_done _ _ _ (steps bs) s b
      (λ n e. (let k : n ≡ length reply = cc in
      ap (λ (i : ℕ). take i (over reply b.room)) k ∙ take-append_seam reply (drop (length reply) b.room)))

-- ---- the tag that never stores: it answers as the standard's, and puts the areas back

abbrev unstored : Start → Brought → Left
unstored s b = record {
  stepped = (left_at s b).stepped;
  room = (left_at s b).room;
  identity = s.identity;
  user = s.user;
}

abbrev unstoring : Start → Brought → Start
unstoring s b = record {
  table = s.table;
  tag = (truly s b).tag;
  identity = s.identity;
  user = s.user;
}

pub non_storer : Program
non_storer = call_by_call unstored unstoring

areas_still : (bs : List Brought) (s : Start)
    → (let t = gone unstored unstoring s (steps bs) in (t.identity ≡ s.identity) × (t.user ≡ s.user))
unfolding steps
areas_still [] s = (refl, refl)
areas_still (b ∷ bs) s = areas_still bs (unstoring s b)

pub non_storer_is : (s : Start) → NeverStores s non_storer
unfolding non_storer
non_storer_is s bs b = each_done _ _ _ (steps bs) s b (areas_still bs s)

-- It lets the reader in all the same: an IAM3 that is built with the keys of the record, for a block that may be
-- written, is answered as the standard's tag answers it.
module _ (s : Start) (w : HasWritable s) (words : List ℕ) (bytes : Bytes words)
    (long : length words ≡ data_length w.custom.blocksize w.custom.blockcount) where
  abbrev before : List Brought
  before = nothing ∷ iam1 s w.holder ∷ []

  -- the tag goes on, the areas are put back
  abbrev tag_only : Start → Start
  tag_only t = record { table = s.table; tag = t.tag; identity = s.identity; user = s.user }

  leads : gone unstored unstoring s (steps before) ≡ waiting s w.holder IamInit (replicate 4 0)
  unfolding steps replied
  leads =
      ap (λ (t : Start). unstoring (tag_only t) (iam1 s w.holder)) (rests s w.holder)
      ∙ ap (λ (a : Answer). tag_only (onward (woke s) a)) (iam1_taken s w.holder w.iam1)

  pub non_storer_lets_in : map seen (last_of non_storer s (steps before) (iam3 s w words)) ≡ (Ok (Entered 0), []) ∷ []
  unfolding non_storer let_in
  non_storer_lets_in =
      ap (map seen) (last_done unstored unstoring (steps before) s (iam3 s w words))
      ∙ ap (λ (t : Start). seen (left_at t (iam3 s w words)) ∷ []) leads
      ∙ ap (λ (a : Answer). seen (left_of stepped_of (Step (iam3 s w words)) a) ∷ []) (iam3_taken s w words bytes long)

-- ---- the tag that answers its first call truly and later ones for show: with its draws, whatever is asked

abbrev draws_back : Start → Brought → Left
draws_back s b = says s (Ok (Replied (length b.draws))) (over b.draws b.room)

pub pretender : Program
pretender s [] = []
pretender s (Step b ∷ ds) = left_at s b ∷ call_by_call draws_back stands (next s (Step b)) ds
pretender s (Wake ∷ ds) = woken s.tag s.identity s.user ∷ call_by_call draws_back stands (woke s) ds

pub pretender_begins : (s : Start) (d : Doing) → pretender s (d ∷ []) ≡ defined s (d ∷ [])
unfolding pretender call_by_call left_all run answer_to powered_up events_of
pretender_begins s (Step b) = refl
pretender_begins s Wake = refl

shows : (s : Start) (b c : Brought) → LooksLike b c → seen (draws_back s b) ≡ seen (draws_back s c)
shows s b c l =
    λ i. seen (draws_back s (record { message = b.message; draws = l.draws i; room = l.room i }))

goes_on : (s : Start) (ds : List Doing) → LaterForShow ds s (call_by_call draws_back stands)
goes_on s ds b c l =
    ap (map seen) (last_done draws_back stands ds s b)
    ∙ ap (λ (x : Outcome × List ℕ). x ∷ []) (shows (gone draws_back stands s ds) b c l)
    ∙ sym (ap (map seen) (last_done draws_back stands ds s c))

pub pretender_is : (s : Start) (d : Doing) (ds : List Doing) → LaterForShow (d ∷ ds) s pretender
unfolding pretender
pretender_is s (Step a) ds = goes_on (next s (Step a)) ds
pretender_is s Wake ds = goes_on (woke s) ds

-- ---- the tag with a made-up length: it tells one byte more than it sends, and is in all else the standard's

abbrev one_more : Outcome → Outcome
one_more (Ok (Replied n)) = Ok (Replied (suc n))
one_more (Ok (Entered purpose)) = Ok (Replied 1)
one_more (Err f) = Err f

abbrev pub lengthened : Left → Left
lengthened x = record {
  stepped = record { outcome = one_more x.stepped.outcome; tag = x.stepped.tag };
  room = x.room;
  identity = x.identity;
  user = x.user;
}

pub lengthener : Program
lengthener = call_by_call (λ s b. lengthened (left_at s b)) truly

too_long : (o : Outcome) (k : ℕ) → (number_given o ≡ 0 → reply_length o ≡ k) → number_given (one_more o) ≡ 0
    → reply_length (one_more o) ≡ k → ⊥
too_long (Ok (Replied n)) k h z e = let q = h refl in omega arith
too_long (Ok (Entered purpose)) k h z e = let q = h refl in omega arith
too_long (Err f) k h z e = some_number f z

pub lengthener_is : (kind : Kind) (s : Start) → MadeUpLength kind s lengthener
unfolding lengthener
lengthener_is kind s bs b =
    each_done _ _ _ (steps bs) s b
    (λ e z l.
    let t = gone (λ s b. lengthened (left_at s b)) truly s (steps bs) in
    too_long (left_at t b).stepped.outcome (layout_length kind b.message)
    (λ q. answer_long (call_at t b) (keyed t.tag t.table) q
    ∙ ap (λ (k : Kind). layout_length k b.message) e) z l)

pub lengthener_answers : (bs : List Brought) (s : Start)
    → lengthener s (steps bs) ≡ map lengthened (defined s (steps bs))
unfolding lengthener call_by_call steps left_all run answer_to events_of
lengthener_answers [] s = refl
lengthener_answers (b ∷ bs) s =
    ap (λ (xs : List Left). lengthened (left_at s b) ∷ xs) (lengthener_answers bs (truly s b))
