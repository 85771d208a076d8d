-- Demand 2 shuts out false tags (the scope paper, "What we hold a promise to"). A program is what is left of every run
-- of calls; it is the standard's tag where each run is one of the calls that the contracts of `tag::step` and
-- `tag::power_up` allow (`Plays`). There is one such program, and none of the five below is it. What a program does on
-- one tag shuts it out, whichever tag that is, if only it has what the message takes by which the program shows.
use Rattle.std.specs.Prelude.{◌≡◌, List, [], ◌∷◌, ◌++◌, map, ℕ, length, take, drop, Ok}
use Rattle.offer.specs.Outcomes.{Outcome}
use Rattle.offer.specs.declared.Answer.TheVariants.{Replied}
use Rattle.ground.specs.Bytes.{byte_at}
use Rattle.frames.specs.declared.Kind.{Kind}
use Rattle.frames.specs.declared.Kind.TheVariants.{Tam1, Tam2, Iam1, Iam2, Iam3, Mam1, Mam2, Unsupported}
use Rattle.frames.specs.Kinds.{kind_of}
use Rattle.frames.specs.Lengths.{tam1_reply_length, tam2_reply_length, iam1_reply_length, mam1_reply_length}
use Rattle.frames.specs.Lengths.{empty_reply_length}
use Rattle.frames.specs.Modes.{in_mode, prot_mode_of}
use Rattle.frames.specs.Messages.{tam2_of}
use Rattle.offer.specs.Outcomes.{number_given, reply_length}
use Rattle.tag.specs.Plays.{Brought, Doing, Step, Left, Called, Plays}
use Rattle.claims.specs.Starts.{Start}

-- What a tag is played on, and the calls; and what each call leaves.
abbrev pub Program : Type 0
Program = Start → List Doing → List Left

-- The standard's tag, on one tag and on every tag.
abbrev pub StandardOn : Start → Program → Type 0
StandardOn s p = (ds : List Doing) → Plays s.table s.tag s.identity s.user ds (p s ds)

abbrev pub Standard : Program → Type 0
Standard p = (s : Start) → StandardOn s p

-- There is such a program, and there is no second one.
abbrev pub OneTag : Type 0
OneTag = (p q : Program) → Standard p → Standard q → (s : Start) (ds : List Doing) → p s ds ≡ q s ds

pub record SomeTag : Type 0 where
  pub program : Program
  pub standard : Standard program

-- ---- false tags

-- Messages alone. The false tags are told by what they do with these: at power-up a false tag may do as it should.
unfoldable pub steps : List Brought → List Doing
steps [] = []
steps (b ∷ bs) = Step b ∷ steps bs

-- Of everything that is left.
unfoldable pub Each : (Left → Type 0) → List Left → Type 0
Each P [] = Unit
Each P (x ∷ xs) = P x × Each P xs

-- What the message b leaves, after the calls ds.
abbrev pub last_of : Program → Start → List Doing → Brought → List Left
last_of p s ds b = drop (length ds) (p s (ds ++ (Step b ∷ [])))

-- Of each message and what it leaves, whatever messages came before.
abbrev pub Always : Start → Program → (Brought → Left → Type 0) → Type 0
Always s p P = (bs : List Brought) (b : Brought) → Each (P b) (last_of p s (steps bs) b)

-- The tag that refuses everything: no message ends in a reply.
abbrev pub RefusesEverything : Start → Program → Type 0
RefusesEverything s p = Always s p (λ b x. (n : ℕ) → x.stepped.outcome ≡ Ok (Replied n) → ⊥)

-- The tag with a single fixed reply: wherever it replies, the room starts with these bytes.
abbrev pub OneFixedReply : List ℕ → Start → Program → Type 0
OneFixedReply reply s p = Always s p (λ b x. (n : ℕ) → x.stepped.outcome ≡ Ok (Replied n) → take n x.room ≡ reply)

-- The tag that never stores: after every message both areas are as they were at the start.
abbrev pub NeverStores : Start → Program → Type 0
NeverStores s p = Always s p (λ b x. (x.identity ≡ s.identity) × (x.user ≡ s.user))

-- What a reader sees of a call: the outcome, and the bytes of the reply.
abbrev pub seen : Left → Outcome × List ℕ
seen x = (x.stepped.outcome, take (reply_length x.stepped.outcome) x.room)

-- Two messages of one length with the same first byte, so of one kind, and the same second, where the KeyID stands;
-- brought with the same draws and the same room.
pub record LooksLike (b c : Brought) : Type 0 where
  pub begins : take 2 b.message ≡ take 2 c.message
  pub long : length b.message ≡ length c.message
  pub draws : b.draws ≡ c.draws
  pub room : b.room ≡ c.room

-- The tag that answers its first message truly and a later one for show: of what is sent in the later one it takes
-- notice of the kind, the KeyID and the length, but of nothing else. `ds` is what came before, one message or more,
-- however it answered that.
abbrev pub LaterForShow : List Doing → Start → Program → Type 0
LaterForShow ds s p =
    (b c : Brought) → LooksLike b c → map seen (last_of p s ds b) ≡ map seen (last_of p s ds c)

-- The length of every reply, by the layout of clause 9.
unfoldable pub layout_length : Kind → List ℕ → ℕ
layout_length Tam1 m = tam1_reply_length
layout_length Tam2 m = in_mode (prot_mode_of (tam2_of m).protmode)
    (tam2_reply_length (tam2_of m).custom.blocksize (tam2_of m).rev (tam2_of m).custom.blockcount) empty_reply_length
layout_length Iam1 m = iam1_reply_length
layout_length Iam2 m = empty_reply_length
layout_length Iam3 m = empty_reply_length
layout_length Mam1 m = mam1_reply_length
layout_length Mam2 m = empty_reply_length
layout_length Unsupported m = empty_reply_length

-- The length that is told of a message that is taken is the layout's.
abbrev pub LengthTold : Brought → Left → Type 0
LengthTold b x =
    number_given x.stepped.outcome ≡ 0
    → reply_length x.stepped.outcome ≡ layout_length (kind_of (byte_at b.message 0)) b.message

-- A made-up length: to no message of this kind that is taken the layout's length is told.
abbrev pub MadeUpLength : Kind → Start → Program → Type 0
MadeUpLength kind s p =
    Always s p (λ b x.
    kind_of (byte_at b.message 0) ≡ kind
    → number_given x.stepped.outcome ≡ 0
    → reply_length x.stepped.outcome ≡ layout_length kind b.message
    → ⊥)

-- ---- shut out

-- On no tag that is such is it the standard's, were it on every other.
abbrev pub ShutOut : (Start → Type 0) → (Start → Program → Type 0) → Type 0
ShutOut Such False = (s : Start) → Such s → (p : Program) → False s p → StandardOn s p → ⊥

-- The layout fixes the length of every reply that the contract of `tag::step` allows.
abbrev pub LengthFixed : Type 0
LengthFixed =
    (s : Start) (b : Brought) (x : Left) → Called s.table s.tag s.identity s.user b x → LengthTold b x

-- So one made-up length is enough, told once, on whatever tag, and wherever in a run.
abbrev pub LengthsFixed : Type 0
LengthsFixed =
    (s : Start) (p : Program) → StandardOn s p → (ds : List Doing) (b : Brought)
    → Each (LengthTold b) (last_of p s ds b)
