-- After number 40 nothing changes, and number 41, exactly.
use mathlib.Core.Path.{◌≡◌, refl}
use mathlib.Core.Bool.{Bool, true, false}
use mathlib.Core.List.{List}
use Prim.Native.Nat.{ℕ}
use native.Mathlib.Omega.{arith}
use borrow.Author.Tests.{eqb-true}
use lib.Dec.{eqb}
use Rattle.ground.specs.Choice.{pick}
use Rattle.offer.specs.declared.TagFault.{TagFault}
use Rattle.offer.specs.declared.TagFault.TheVariants.{OtherError, NotSupported, MemoryOverrun, MemoryWriteError}
use Rattle.offer.specs.declared.TagFault.TheVariants.{OutOfTurn, ProofWrong, BenchFault}
use Rattle.offer.specs.Outcomes.{number_of as tag_number}
use Rattle.reader.specs.declared.ReaderFault.{ReaderFault}
use Rattle.reader.specs.declared.ReaderFault.TheVariants.{ReplyLength, ChallengeWrong, MacWrong, HeaderWrong}
use Rattle.reader.specs.declared.ReaderFault.TheVariants.{OwnMessage}
use Rattle.reader.specs.Numbers.{number_of as reader_number}
use Rattle.tag.specs.declared.Tag.{Tag}
use Rattle.turns.specs.declared.Next.{Next}
use Rattle.turns.specs.declared.Next.TheVariants.{ReaderOpens, TagAnswers, ReaderCloses, TagEnds, Done}
use Rattle.turns.specs.declared.Next.TheVariants.{RefusedByTag, RefusedByReader}
use Rattle.turns.specs.Standings.{unbegun, is_over, waiting, number_of}
use Rattle.turns.specs.Turns.{Setting, table}
use Rattle.exchange.specs.Runs.{played_of}
use Rattle.exchange_claims.proofs.Stepping.{settled_stays}

-- After 40 nothing changes, whatever is played.
pub unbegun_stays : (x : Setting) (n : ℕ) (tag : Tag) (identity user : List ℕ)
    → played_of x n (table unbegun.standing tag identity user) ≡ table unbegun.standing tag identity user
unbegun_stays x n tag identity user = settled_stays x n _ refl refl

-- ---- 41

used_up : (b : Bool) → pick {A = ℕ} b 41 0 ≡ 41 → b ≡ true
used_up true e = refl
used_up false e = absurd (omega (arith, e))

waits_none : (left : ℕ) → waiting left ≡ 41 → left ≡ 0
unfolding waiting
waits_none left e = eqb-true left 0 (used_up (eqb left 0) e)

not_tags : (f : TagFault) → tag_number f ≡ 41 → ⊥
not_tags OtherError e = omega (arith, e)
not_tags NotSupported e = omega (arith, e)
not_tags MemoryOverrun e = omega (arith, e)
not_tags MemoryWriteError e = omega (arith, e)
not_tags OutOfTurn e = omega (arith, e)
not_tags ProofWrong e = omega (arith, e)
not_tags BenchFault e = omega (arith, e)

not_readers : (f : ReaderFault) → reader_number f ≡ 41 → ⊥
not_readers ReplyLength e = omega (arith, e)
not_readers ChallengeWrong e = omega (arith, e)
not_readers MacWrong e = omega (arith, e)
not_readers HeaderWrong e = omega (arith, e)
not_readers OwnMessage e = omega (arith, e)

-- 41 is given only where the limit is used up and the exchange has not ended ...
pub forty_one_only : (next : Next) (left : ℕ) → number_of next left ≡ 41 → (is_over next ≡ false) × (left ≡ 0)
unfolding number_of is_over
forty_one_only ReaderOpens left e = (refl, waits_none left e)
forty_one_only TagAnswers left e = (refl, waits_none left e)
forty_one_only ReaderCloses left e = (refl, waits_none left e)
forty_one_only TagEnds left e = (refl, waits_none left e)
forty_one_only Done left e = absurd (omega (arith, e))
forty_one_only (RefusedByTag f) left e = absurd (not_tags f e)
forty_one_only (RefusedByReader f) left e = absurd (not_readers f e)

ended_not : true ≡ false → ⊥
ended_not e = let z : ◌≡◌ {A = ℕ} 0 1 = cc in absurd (omega arith)

-- ... and always there.
pub forty_one : (next : Next) → is_over next ≡ false → number_of next 0 ≡ 41
unfolding number_of is_over waiting
forty_one ReaderOpens e = refl
forty_one TagAnswers e = refl
forty_one ReaderCloses e = refl
forty_one TagEnds e = refl
forty_one Done e = absurd (ended_not e)
forty_one (RefusedByTag f) e = absurd (ended_not e)
forty_one (RefusedByReader f) e = absurd (ended_not e)
