-- Demand 1 for each turn: the reader's turn changes neither the tag nor an area; a turn that the tag refuses sends
-- nothing, writes no word, and leaves the tag as demand 1 says.
use Rattle.std.specs.Prelude.{Err}
use mathlib.Core.Path.{◌≡◌, refl, ap}
use mathlib.Core.List.{List}
use Prim.Native.Nat.{ℕ}
use Rattle.offer.specs.declared.TagFault.{TagFault}
use Rattle.tag.specs.States.{keyed, keyless, session_after}
use Rattle.tag.proofs.Unchanged.{refusal_unchanged}
use Rattle.plan.specs.declared.Plan.{Plan}
use Rattle.turns.specs.declared.Next.TheVariants.{RefusedByTag}
use Rattle.turns.specs.Standings.{turned}
use Rattle.turns.specs.Turns.{Table, answer_in, answered, asked_in, replied}

-- What a turn that the tag refused leaves: no reply, no byte of an area changed; the tag in Initial with nothing held
-- (1 to 6) or as it was (7).
pub record LeftAlone (f : TagFault) (t after : Table) : Type 0 where
  pub standing : after.standing ≡ turned (RefusedByTag f) t.standing
  pub tag : after.tag ≡ record { terms = t.tag.terms; session = session_after f t.tag.session }
  pub identity : after.identity ≡ t.identity
  pub user : after.user ≡ t.user

pub refused_turn : (p : Plan) (keys draws : List ℕ) (t : Table) (f : TagFault)
    → (answer_in keys draws t).outcome ≡ Err f → LeftAlone f t (answered p keys draws t)
unfolding answered replied
refused_turn p keys draws t f e =
    let u = refusal_unchanged _ (keyed t.tag keys) f e in
    record {
      standing = ap (replied p t.standing _) e;
      tag = ap keyless u.tag;
      identity = u.identity;
      user = u.user;
    }

-- The reader's turn, whatever it comes to.
pub reader_touches_nothing : (p : Plan) (words : List ℕ) (t : Table)
    → ((asked_in p words t).tag ≡ t.tag) × ((asked_in p words t).identity ≡ t.identity)
    × ((asked_in p words t).user ≡ t.user)
unfolding asked_in
reader_touches_nothing p words t = (refl, refl, refl)
