-- No second answer fits, said over a function's own clauses: what its contract says is written out, and is the clause
-- by computation. So it is said of the functions over `&mut` of a struct, and over a struct that holds a reference.
use Rattle.std.specs.Prelude.{◌≡◌}
use seplogic.Ra.Ura.{Ura}
use base.Logic.{SProp}
use prog.Memory.{Memory}
use prog.Routine.{Routine}
use types.Logic.{Logic}
use contract.Lifetimes.{Lfts}
use contract.Monad.{Fun, fact}
use denote.Triple.Clauses.{Ended, Clauses, AtExit, Lasts, at_exit}
use denote.Triple.Entry.{Args, Res}

module _ (T : Ended) where
  -- A function's clauses, as the source has them; and a fact of the arguments, the result, and what is lent, at exit.
  abbrev pub Contract : Type 2
  Contract = (M : Type 1) (𝓤 : Ura M) (𝓛 : Logic 𝓤) → (Memory → SProp 𝓤) → (Routine → Fun 𝓤) → Clauses 𝓤 T

  abbrev pub Fact : Type 1
  Fact = (κs : Lfts T.signature.lifetimes) → Args T.signature κs → Res T.signature κs → AtExit T κs → Type 0

  -- The `ensures` states this fact.
  abbrev pub States : Contract → Fact → Type 2
  States c Post =
      (M : Type 1) (𝓤 : Ura M) (𝓛 : Logic 𝓤) (mem : Memory → SProp 𝓤) (run : Routine → Fun 𝓤)
      (κs : Lfts T.signature.lifetimes) (a : Args T.signature κs)
      (g : (c M 𝓤 𝓛 mem run κs a).ghost) (r : Res T.signature κs) (e : AtExit T κs)
      → (c M 𝓤 𝓛 mem run κs a).ensures g r e ≡ fact 𝓤 (Post κs a r e)

  -- Two outcomes that it allows on the same arguments are the same: the result, and the last value of each `&mut`.
  abbrev pub OneWalked : Contract → Fact → Type 2
  OneWalked c Post =
      States c Post
      × ((κs : Lfts T.signature.lifetimes) (a : Args T.signature κs) (x y : Res T.signature κs)
      (v w : Lasts T κs a) → Post κs a x (at_exit T κs a v) → Post κs a y (at_exit T κs a w) → (x ≡ y) × (v ≡ w))
