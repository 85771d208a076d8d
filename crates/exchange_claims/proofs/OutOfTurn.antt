-- An opening of IAM or MAM that is out of its turn ends the exchange in the tag's turn.
use Rattle.std.specs.Prelude.{Ok}
use mathlib.Core.Path.{◌≡◌, refl, sym, ap, ap₂, ◌∙◌}
use mathlib.Core.Bool.{Bool, true, false}
use mathlib.Core.List.{List, [], ◌∷◌}
use Prim.Native.Nat.{ℕ, ◌+◌, ◌-◌, ◌≤◌}
use native.Mathlib.Omega.{arith}
use lib.Dec.{eqb}
use lib.ListN.{length, take}
use Rattle.ground.specs.Bytes.{byte_at}
use Rattle.ground.specs.Choice.{pick}
use Rattle.frames.specs.declared.Kind.{Kind}
use Rattle.frames.specs.Kinds.{kind_of, iam_kind}
use Rattle.frames.specs.Messages.{iam1_message}
use Rattle.frames.proofs.Shape.{mam1_shape}
use Rattle.offer.specs.declared.TagFault.TheVariants.{NotSupported, OutOfTurn}
use Rattle.offer.specs.Checks.{judged}
use Rattle.offer.specs.Judged.{lending_checks}
use Rattle.offer.specs.Records.{offered}
use Rattle.entry.specs.declared.State.{State}
use Rattle.entry.specs.Sessions.{cleared}
use Rattle.tag.specs.Answers.{
  Effect,
  Call,
  refused,
  answer_with,
  by_kind,
  in_order,
  of_message,
  of_lending,
  effect_of,
  answer_of,
}
use Rattle.tag.specs.Reactions.{lent}
use Rattle.tag.specs.States.{KeyedTag, at_rest, in_turn, keyed}
use Rattle.reader_build.specs.Builds.{iam1_made, mam1_made}
use Rattle.plan.specs.declared.Method.{Method}
use Rattle.plan.specs.declared.Method.TheVariants.{
  Tam1 as PicksTam1,
  Tam2 as PicksTam2,
  Iam2 as PicksIam2,
  Iam3 as PicksIam3,
  Mam as PicksMam,
}
use Rattle.turns.specs.declared.Next.TheVariants.{TagAnswers, RefusedByTag}
use Rattle.plan.specs.declared.Plan.{Plan}
use Rattle.turns.specs.Standings.{reply_zeros, readers, tags, has_two, draws_of, number_of, turned, turn_of}
use Rattle.plan.specs.Drafts.{opening}
use Rattle.turns.specs.Turns.{replied, Table, table, answered_by, answered}
use Rattle.exchange.specs.Runs.{played_of}
use Rattle.exchange_claims.proofs.Stepping.{one_turn, by_turns, tag_turn, played_turns, played_plus, settled_stays}
use Rattle.exchange_claims.specs.Done.{first_call, with_session}
use Rattle.exchange_claims.specs.OutOfTurn.{opening_kind, EndsOutOfTurn}
use Rattle.exchange_claims.proofs.TwoTurns.{whose_turn, start, sent, there, opens}

-- a message that the tag offers, but out of its turn
module _ (c : Call) (tag : KeyedTag) (kind : Kind)
    (bench : judged (lending_checks tag.setup.sizes (length c.draws) c.room (length c.identity)
    (length c.user)) ≡ Ok tt)
    (known : offered tag.setup.features kind ≡ true) (turn : in_turn tag.session.state kind ≡ false) where
  of_message_lem : (m : List ℕ) → 1 ≤ length m → kind_of (byte_at m 0) ≡ kind
      → of_message c tag.setup tag.session m ≡ refused c OutOfTurn cleared
  unfolding of_message in_order
  of_message_lem [] h e = absurd (let z : ⊥ = omega arith in z)
  of_message_lem (first ∷ rest) h e =
      ap (in_order c tag.setup tag.session) e
      ∙ ap₂ {C = Effect} (λ (y z : Bool). pick y (pick z (by_kind c tag.setup tag.session kind)
      (refused c OutOfTurn cleared)) (refused c NotSupported cleared)) known turn

  pub out_of_turn : 1 ≤ length c.message → kind_of (byte_at c.message 0) ≡ kind
      → answer_of c tag ≡ answer_with tag.setup (refused c OutOfTurn cleared)
  unfolding effect_of
  out_of_turn h e =
      ap (answer_with tag.setup) (ap (of_lending c tag.setup tag.session) bench ∙ of_message_lem c.message h e)

-- an opening of IAM or MAM is fit, is no empty message, begins as its kind says, and is taken only at rest
pub record Opening (p : Plan) (m : Method) : Type 0 where
  pub fit : (opening p m).fit ≡ true
  pub long : 1 ≤ length (opening p m).message
  pub begins : kind_of (byte_at (opening p m).message 0) ≡ opening_kind m

opening_is : (p : Plan) → length p.ichallenge ≡ 10 → (m : Method) → has_two m ≡ false → Opening p m
unfolding opening has_two iam1_made mam1_made iam1_message kind_of iam_kind
opening_is p ten PicksTam1 h = absurd (let z : ◌≡◌ {A = ℕ} 0 1 = cc in omega arith)
opening_is p ten PicksTam2 h = absurd (let z : ◌≡◌ {A = ℕ} 0 1 = cc in omega arith)
opening_is p ten PicksIam2 h = record { fit = refl; long = omega arith; begins = refl }
opening_is p ten PicksIam3 h = record { fit = refl; long = omega arith; begins = refl }
opening_is p ten PicksMam h =
    let shape = mam1_shape (record { rfu = 0; keyid = p.keyid; ichallenge = p.ichallenge }) ten (omega arith) in
    record { fit = refl; long = omega (arith, shape.0); begins = shape.1 }

turn_of_lem : (p : Plan) (state : State) (m : Method) → has_two m ≡ false → at_rest state ≡ false
    → in_turn state (opening_kind m) ≡ false
unfolding has_two in_turn
turn_of_lem p state PicksTam1 h r = absurd (let z : ◌≡◌ {A = ℕ} 0 1 = cc in omega arith)
turn_of_lem p state PicksTam2 h r = absurd (let z : ◌≡◌ {A = ℕ} 0 1 = cc in omega arith)
turn_of_lem p state PicksIam2 h r = r
turn_of_lem p state PicksIam3 h r = r
turn_of_lem p state PicksMam h r = r

pub ends_out_of_turn : EndsOutOfTurn
unfolding by_turns answered tags readers draws_of replied refused number_of
ends_out_of_turn x limit tag identity user four enough bench known busy ten n =
    let m = x.plan.method in
    let o = opening_is x.plan ten m four in
    let s = sent x limit tag identity user in
    let e = out_of_turn (first_call x identity user) (keyed tag x.keys) (opening_kind m) bench known
    (turn_of_lem x.plan tag.session.state m four busy) o.long o.begins in
    let over' = table (turned (RefusedByTag OutOfTurn) s) (with_session tag cleared) identity user in
    let two : played_of x 2 (start x limit tag identity user) ≡ over'
    = played_turns x 2 (start x limit tag identity user)
    ∙ ap (one_turn x) (opens x limit tag identity user enough o.fit)
    ∙ tag_turn x (table s tag identity user) (whose_turn tags TagAnswers (limit - 1) (omega arith))
    ∙ ap (λ (l : List ℕ). answered_by x.plan s
    (answer_of (lent l (take 10 x.draws) reply_zeros identity user) (keyed tag x.keys)))
    (there x limit tag identity user)
    ∙ ap (answered_by x.plan s) e in
    let all : played_of x (2 + n) (start x limit tag identity user) ≡ over'
    = sym (played_plus x 2 n (start x limit tag identity user))
    ∙ ap (played_of x n) two
    ∙ settled_stays x n over' (nobody (limit - 1 - 1)) (nobody (limit - 1 - 1)) in
    record {
      next = ap (λ (t : Table). t.standing.next) all;
      number = ap (λ (t : Table). number_of t.standing.next t.standing.left) all;
      holds = ap (λ (t : Table). t.tag) all;
      identity_kept = ap (λ (t : Table). t.identity) all;
      user_kept = ap (λ (t : Table). t.user) all;
    }
  where
    nobody : (left : ℕ) → turn_of (λ y. false) (RefusedByTag OutOfTurn) left ≡ false
    nobody left = none (eqb left 0)
      where
        none : (b : Bool) → pick b false false ≡ false
        none true = refl
        none false = refl
