-- M-100 and Annex A: while a challenge waits for its answer, an exchange of IAM or MAM ends after two turns with the
-- tag's 5, and leaves the tag in Initial; tried again, it is done after four (Done).
use Rattle.std.specs.Prelude.{◌≡◌, true, false, List, ℕ, ◌+◌, ◌≤◌, length, Ok}
use Rattle.frames.specs.declared.Kind.{Kind}
use Rattle.frames.specs.declared.Kind.TheVariants.{Tam1, Tam2, Iam1, Mam1}
use Rattle.offer.specs.declared.TagFault.TheVariants.{OutOfTurn}
use Rattle.offer.specs.Checks.{judged}
use Rattle.offer.specs.Judged.{lending_checks}
use Rattle.offer.specs.Records.{offered}
use Rattle.entry.specs.Sessions.{cleared}
use Rattle.tag.specs.declared.Tag.{Tag}
use Rattle.tag.specs.States.{at_rest, keyed}
use Rattle.plan.specs.declared.Method.{Method}
use Rattle.plan.specs.declared.Method.TheVariants.{
  Tam1 as PicksTam1,
  Tam2 as PicksTam2,
  Iam2 as PicksIam2,
  Iam3 as PicksIam3,
  Mam as PicksMam,
}
use Rattle.turns.specs.declared.Next.TheVariants.{RefusedByTag}
use Rattle.turns.specs.Standings.{fresh, has_two, number_of}
use Rattle.turns.specs.Turns.{Table, table, Setting}
use Rattle.exchange.specs.Runs.{played_of}
use Rattle.exchange_claims.specs.Done.{first_call, with_session}

-- The kind of the message that opens an exchange.
abbrev pub opening_kind : Method → Kind
opening_kind PicksTam1 = Tam1
opening_kind PicksTam2 = Tam2
opening_kind PicksIam2 = Iam1
opening_kind PicksIam3 = Iam1
opening_kind PicksMam = Mam1

-- Ended by the tag's 5, the tag in Initial with nothing held, and no byte of an area changed.
pub record EndedByFive (t : Table) (tag : Tag) (identity user : List ℕ) : Type 0 where
  pub next : t.standing.next ≡ RefusedByTag OutOfTurn
  pub number : number_of t.standing.next t.standing.left ≡ 5
  pub holds : t.tag ≡ with_session tag cleared
  pub identity_kept : t.identity ≡ identity
  pub user_kept : t.user ≡ user

abbrev pub EndsOutOfTurn : Type 0
EndsOutOfTurn =
    (x : Setting) (limit : ℕ) (tag : Tag) (identity user : List ℕ)
    → has_two x.plan.method ≡ false
    → 2 ≤ limit
    → (let c = first_call x identity user in
    let setup = (keyed tag x.keys).setup in
    judged (lending_checks setup.sizes (length c.draws) c.room (length identity) (length user)) ≡ Ok tt
    → offered setup.features (opening_kind x.plan.method) ≡ true
    → at_rest tag.session.state ≡ false
    → length x.plan.ichallenge ≡ 10
    → (n : ℕ) → EndedByFive (played_of x (2 + n) (table (fresh limit) tag identity user)) tag identity user)
