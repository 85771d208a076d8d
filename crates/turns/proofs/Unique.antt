-- No second answer fits the contracts of the exported functions.
use mathlib.Core.Path.{◌≡◌, refl}
use mathlib.Core.List.{List}
use Prim.Native.Nat.{ℕ}
use Rattle.ground.specs.OneAnswer.{OneAnswer, one, ◌&◌}
use Rattle.turns.specs.declared.Played.{Played}
use Rattle.turns.specs.Turns.{Table, Plays}
use Rattle.turns.proofs.begin.Reads as begin
use Rattle.turns.proofs.begin.Kinds as begin-kinds
use Rattle.turns.proofs.number.Reads as number
use Rattle.turns.proofs.number.Kinds as number-kinds
use Rattle.turns.proofs.reader_next.Reads as reader-next
use Rattle.turns.proofs.reader_next.Kinds as reader-next-kinds
use Rattle.turns.proofs.tag_next.Reads as tag-next
use Rattle.turns.proofs.tag_next.Kinds as tag-next-kinds
use Rattle.turns.proofs.asks.act.Reads as asks
use Rattle.turns.proofs.asks.act.Kinds as asks-kinds
use Rattle.turns.proofs.answers.act.Reads as answers
use Rattle.turns.proofs.answers.act.Kinds as answers-kinds

pub begin_one : OneAnswer 0 begin-kinds.ps begin-kinds.r begin.Post
begin_one κs a x y v w p q = (one p q, refl)

pub number_one : OneAnswer 0 number-kinds.ps number-kinds.r number.Post
number_one κs a x y v w p q = (one p q, refl)

pub reader_next_one : OneAnswer 0 reader-next-kinds.ps reader-next-kinds.r reader-next.Post
reader_next_one κs a x y v w p q = (one p q, refl)

pub tag_next_one : OneAnswer 0 tag-next-kinds.ps tag-next-kinds.r tag-next.Post
tag_next_one κs a x y v w p q = (one p q, refl)

pub asks_one : OneAnswer 1 asks-kinds.ps asks-kinds.r asks.Post
asks_one κs a x y v w p q = (one p q, refl & refl & refl)

-- what is returned is what the turns come to
pub returned : (t : Table) (r : Played) (i u : List ℕ) → Plays t r i u
    → r ≡ record { standing = t.standing; tag = t.tag }
returned t r i u h = λ j. record { standing = h.standing j; tag = h.tag j }

pub answers_one : OneAnswer 4 answers-kinds.ps answers-kinds.r answers.Post
answers_one κs a x y v w p q = (
  one (returned _ x _ _ p) (returned _ y _ _ q),
  refl & refl & refl & refl & refl & one p.identity q.identity & one p.user q.user & refl,
)
