-- There is one standard's tag: the definition's run.
use mathlib.Core.Path.{◌≡◌, refl, sym, ◌∙◌}
use mathlib.Core.List.{List, [], ◌∷◌}
use Rattle.tag.specs.States.{keyed, powered_up}
use Rattle.tag.specs.Runs.{answer_to, run}
use Rattle.tag.specs.Reactions.{stepped_of}
use Rattle.tag.specs.Plays.{Doing, Step, Wake, OneByOne, Plays, events_of, left_all}
use Rattle.tag.proofs.Played.{played}
use Rattle.claims.specs.Starts.{Start}
use Rattle.claims.specs.ShutOut.{Program, StandardOn, OneTag, SomeTag}

abbrev pub defined : Program
defined s ds = left_all stepped_of ds (run (keyed s.tag s.table) s.identity s.user (events_of ds))

-- a program that is the standard's on a tag is the definition's run there
pub is_defined : (s : Start) (p : Program) → StandardOn s p → (ds : List Doing) → p s ds ≡ defined s ds
is_defined s p h ds = played ds _ s.table s.tag s.identity s.user (h ds)

pub one_tag : OneTag
one_tag p q hp hq s ds = is_defined s p (hp s) ds ∙ sym (is_defined s q (hq s) ds)

plays : (ds : List Doing) (s : Start) → Plays s.table s.tag s.identity s.user ds (defined s ds)
unfolding OneByOne left_all run answer_to powered_up events_of
plays [] s = tt
plays (Step b ∷ ds) s = (
  record { outcome = refl; number = refl; next = refl; reply = refl; identity = refl; user = refl },
  plays ds (record { table = s.table; tag = _; identity = _; user = _ }),
)
plays (Wake ∷ ds) s = (refl, plays ds (record { table = s.table; tag = _; identity = _; user = _ }))

pub some_tag : SomeTag
some_tag = record { program = defined; standard = λ s ds. plays ds s }
