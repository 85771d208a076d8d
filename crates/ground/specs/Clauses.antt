-- A function's contract as the checker reads it from the source (`Post`): what it says, and what it gives. A theorem in
-- one of these forms no longer checks where the contract cites another definition.
use Rattle.std.specs.Prelude.{◌≡◌, List, ℕ}
use contract.Lifetimes.{Lfts}
use borrow.Fn.Kind.{ParamKind, ResultKind}
use borrow.Fn.Kinds.{Dens, Out, res_t, ended_of}
use denote.Triple.Clauses.{AtExit}

-- Of the arguments, the result and what is lent at exit it says just this.
abbrev pub Says : (n : ℕ) (ps : List (ParamKind n)) (r : ResultKind n) → Out n ps r → Out n ps r → Type 1
Says n ps r Post P =
    (κs : Lfts n) (a : Dens κs ps) (x : (res_t r κs).Denot) (e : AtExit (ended_of n ps r) κs)
    → Post κs a x e ≡ P κs a x e

-- Whatever it allows has this.
abbrev pub Gives : (n : ℕ) (ps : List (ParamKind n)) (r : ResultKind n) → Out n ps r → Out n ps r → Type 0
Gives n ps r Post P =
    (κs : Lfts n) (a : Dens κs ps) (x : (res_t r κs).Denot) (e : AtExit (ended_of n ps r) κs)
    → Post κs a x e
    → P κs a x e
