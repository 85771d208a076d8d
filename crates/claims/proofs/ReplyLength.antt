-- The layout fixes the length of every reply.
use Rattle.std.specs.Prelude.{Result, Ok, Err}
use mathlib.Core.Path.{◌≡◌, refl, sym, ap, ◌∙◌, subst}
use mathlib.Core.Bool.{Bool, true, false}
use mathlib.Core.List.{List, [], ◌∷◌}
use Prim.Native.Nat.{ℕ}
use native.Mathlib.Omega.{arith}
use borrow.Author.Tests.{eqb-true}
use lib.ListN.{length}
use Rattle.ground.specs.Bytes.{byte_at}
use Rattle.ground.specs.Choice.{pick}
use Rattle.memory.specs.Areas.{window_of}
use Rattle.sheet.specs.Setups.{Setup}
use Rattle.frames.specs.declared.Kind.{Kind}
use Rattle.frames.specs.declared.Kind.TheVariants.{Tam1, Tam2, Iam1, Iam2, Iam3, Mam1, Mam2, Unsupported}
use Rattle.frames.specs.Kinds.{kind_of}
use Rattle.frames.specs.Lengths.{empty_reply_length}
use Rattle.frames.specs.Messages.{tam1_of, tam2_of, mam1_of}
use Rattle.offer.specs.declared.TagFault.{TagFault}
use Rattle.offer.specs.declared.TagFault.TheVariants.{OtherError, NotSupported, MemoryOverrun, MemoryWriteError}
use Rattle.offer.specs.declared.TagFault.TheVariants.{OutOfTurn, ProofWrong, BenchFault}
use Rattle.offer.specs.Outcomes.{number_of, number_given, reply_length}
use Rattle.entry.specs.declared.Session.{Session}
use Rattle.tag.specs.States.{KeyedTag, keyed}
use Rattle.entry.specs.Sessions.{cleared}
use Rattle.tag.specs.States.{in_turn}
use Rattle.offer.specs.Checks.{judged}
use Rattle.keytable.specs.Named.{key_with}
use Rattle.offer.specs.Records.{offered, block_asked}
use Rattle.offer.specs.Judged.{lending_checks}
use Rattle.tag.specs.Answers.{
  Effect,
  Call,
  refused,
  replied,
  let_in,
  tam1_answer,
  tam2_answer,
  iam1_answer,
  iam2_answer,
  iam3_answer,
  mam1_answer,
  mam2_answer,
  by_kind,
  in_order,
  of_message,
  of_lending,
  if_fine,
  effect_of,
}
use Rattle.tag.specs.Plays.{Left}
use Rattle.tag.proofs.Cases.{fine_case}
use Rattle.offer.proofs.Lines.{first_holds}
use Rattle.tam.proofs.ReplyLengths.{tam1_long, tam2_length_lem}
use Rattle.entry.proofs.Mam1Reply.{mam1_long}
use Rattle.tam.proofs.Tam2Asked.{words_most}
use Rattle.claims.specs.ShutOut.{Each, layout_length, LengthTold, LengthFixed, LengthsFixed}
use Rattle.claims.proofs.Reached.{call_at, reached, last_is}

-- the number of a refusal is none
pub some_number : (f : TagFault) → number_of f ≡ 0 → ⊥
some_number OtherError e = omega arith
some_number NotSupported e = omega arith
some_number MemoryOverrun e = omega arith
some_number MemoryWriteError e = omega arith
some_number OutOfTurn e = omega arith
some_number ProofWrong e = omega arith
some_number BenchFault e = omega arith

-- what a message does that, where it is taken, is told to send k bytes
abbrev Long : ℕ → Effect → Type 0
Long k e = number_given e.outcome ≡ 0 → reply_length e.outcome ≡ k

module _ (c : Call) where
  refusal_long : (k : ℕ) (s : Session) (f : TagFault) → Long k (refused c f s)
  unfolding refused
  refusal_long k s f e = absurd (some_number f e)

  reply_long : (k : ℕ) (reply : List ℕ) (s : Session) → length reply ≡ k → Long k (replied c reply s)
  unfolding replied
  reply_long k reply s h e = h

  entry_long : (purpose : ℕ) (identity user : List ℕ) → Long empty_reply_length (let_in c purpose identity user)
  unfolding let_in
  entry_long purpose identity user e = refl

  fine_long : (k : ℕ) (v : Result Unit TagFault) (e : Effect) → Long k e → Long k (if_fine c v e)
  fine_long k = fine_case c (Long k) (refusal_long k cleared)

  picked_long : (k : ℕ) (t : Bool) (x y : Effect) → Long k x → Long k y → Long k (pick t x y)
  picked_long k true x y hx hy = hx
  picked_long k false x y hx hy = hy

  module _ (setup : Setup) (held : Session) (ten : length c.draws ≡ 10) where
    kind_long : (kind : Kind) → Long (layout_length kind c.message) (by_kind c setup held kind)
    unfolding layout_length by_kind tam1_answer tam2_answer iam1_answer iam2_answer iam3_answer mam1_answer mam2_answer
    kind_long Tam1 = fine_long _ _ _ (reply_long _ _ _
        (tam1_long (key_with (tam1_of c.message).keyid setup.keys) (tam1_of c.message) c.draws))
    kind_long Tam2 =
        let f = tam2_of c.message in
        fine_long _ _ _ (reply_long _ _ _ (tam2_length_lem (key_with f.keyid setup.keys) f
        (window_of c.identity c.user (block_asked setup.profiles f.custom)) c.draws
        (words_most setup.profiles f.custom c.identity c.user)))
    kind_long Iam1 = fine_long _ _ _ (reply_long _ _ _ ten)
    kind_long Iam2 = fine_long _ _ _ (entry_long _ _ _)
    kind_long Iam3 = fine_long _ _ _ (entry_long _ _ _)
    kind_long Mam1 = fine_long _ _ _ (reply_long _ _ _
        (mam1_long (key_with (mam1_of c.message).keyid setup.keys) (mam1_of c.message) c.draws ten))
    kind_long Mam2 = fine_long _ _ _ (entry_long _ _ _)
    kind_long Unsupported = refusal_long _ cleared NotSupported

    message_long : (m : List ℕ) → c.message ≡ m
        → Long (layout_length (kind_of (byte_at m 0)) c.message) (of_message c setup held m)
    unfolding of_message in_order
    message_long [] e = refusal_long _ cleared OtherError
    message_long (first ∷ rest) e =
        let k = layout_length (kind_of first) c.message in
        picked_long k (offered setup.features (kind_of first)) _ (refused c NotSupported cleared)
        (picked_long k (in_turn held.state (kind_of first)) (by_kind c setup held (kind_of first))
        (refused c OutOfTurn cleared) (kind_long (kind_of first)) (refusal_long k cleared OutOfTurn))
        (refusal_long k cleared NotSupported)

  module _ (tag : KeyedTag) where
    abbrev verdict : Result Unit TagFault
    verdict = judged (lending_checks tag.setup.sizes (length c.draws) c.room (length c.identity)
        (length c.user))

    bench_long : (v : Result Unit TagFault) → verdict ≡ v
        → Long (layout_length (kind_of (byte_at c.message 0)) c.message) (of_lending c tag.setup tag.session v)
    unfolding lending_checks
    bench_long (Ok tt) e = message_long tag.setup tag.session (eqb-true (length c.draws) 10 (first_holds _ _ e))
        c.message refl
    bench_long (Err f) e = refusal_long _ tag.session f

    pub answer_long : Long (layout_length (kind_of (byte_at c.message 0)) c.message) (effect_of c tag)
    unfolding effect_of
    answer_long = bench_long verdict refl

pub length_fixed : LengthFixed
length_fixed s b x h e =
    ap reply_length h.outcome
    ∙ answer_long (call_at s b) (keyed s.tag s.table) (sym h.number ∙ e)

pub lengths_fixed : LengthsFixed
unfolding Each
lengths_fixed s p h ds b =
    let t = reached s ds in
    subst (λ (xs : List Left). Each (LengthTold b) xs) (sym (last_is s p h ds b))
    (answer_long (call_at t b) (keyed t.tag t.table), tt)
