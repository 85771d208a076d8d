-- The premises of recovery and of Fixed hold: on the bench of examples an IAM1 is taken, and the reader recovers the
-- challenge. No cipher is computed.
use Rattle.sheet.specs.Sheet.{verdict_of}
use Rattle.std.specs.Prelude.{Ok}
use mathlib.Core.Path.{◌≡◌, sym, ap, refl, subst}
use mathlib.Core.Bool.{false}
use mathlib.Core.List.{List, []}
use Prim.Native.Nat.{ℕ, zero, suc}
use native.Mathlib.Omega.{arith}
use lib.Dec.{lit<}
use lib.ListN.{length, take, replicate}
use Rattle.modes.specs.Room.{over}
use Rattle.sheet.specs.Limits.{key_limit, profile_limit}
use Rattle.ground.specs.Bytes.{Bytes, byte_at}
use Rattle.sheet.specs.KeyTable.{keys_in, records_in}
use Rattle.sheet.specs.Records.{key_of}
use Rattle.sheet.specs.Within.{Within}
use Rattle.sheet_laws.proofs.Sheets.{accepted}
use Rattle.frames.specs.Kinds.{kind_of, iam_kind}
use Rattle.frames.specs.Lengths.{length_fits}
use Rattle.frames.specs.Messages.{iam1_of}
use Rattle.tag.specs.States.{KeyedTag, keyed, at_rest, in_turn}
use Rattle.entry.specs.Sessions.{cleared}
use Rattle.ground.specs.Checks.{judged_to}
use Rattle.keytable.specs.Named.{has_key, key_with}
use Rattle.offer.specs.Records.{offered}
use Rattle.offer.specs.Judged.{lending_checks, opening_checks}
use Rattle.offer.proofs.Bytes.{zeros_bytes}
use Rattle.tag.specs.Answers.{Call, refused, replied, if_fine, iam1_answer, by_kind, in_order, of_message, effect_of}
use Rattle.tag.specs.Answers.{answer_of}
use Rattle.tag.specs.Reactions.{lent}
use Rattle.tag.specs.Plays.{Called}
use Rattle.reader.specs.declared.Keys.{Keys}
use Rattle.reader_judge.specs.Findings.{said_of, Judges}
use Rattle.reader_judge.specs.Judged.{iam1_finding, of_kind, judgement_of}
use Rattle.reader_judge.specs.Judged as judge
use Rattle.reader.specs.Own.{fields_fit, own_fits}
use Rattle.reader_judge.proofs.Judging.{judges}
use Rattle.claims.specs.Fixed.{trnd_in, remade}
use Rattle.claims.specs.Recovery.{keyid_used, key_used, Shares, Fit, due}
use Rattle.claims.proofs.Bench.{key, terms, table, setup, its_setup, sheet, sheet_read, said, bench, user, drawn}
use Rattle.claims.proofs.Bench.{brings, iam1, answered, are_bytes}
use Rattle.claims.proofs.Fixed.{fixed}
use Rattle.claims.proofs.RecoveryCode.{recovery_code}

-- the setup is one that a sheet says
within : Within key_limit setup
within =
    let taken = ap verdict_of sheet_read in
    subst (Within key_limit) said (accepted key_limit sheet (are_bytes sheet refl) taken).0

-- bytes
asked : Bytes iam1
asked zero = lit< tt
asked (suc zero) = lit< tt
asked (suc (suc i)) = lit< tt

-- the reader has the keys
abbrev keys : Keys
keys = record { enc = replicate 16 0; mac = false; mackey = replicate 16 0 }

abbrev call : Call
call = lent iam1 (drawn 0) (replicate 172 0) [] user

-- the tag, with its keys
abbrev tag : KeyedTag
tag = keyed bench table

fit : Fit call tag keys
unfolding bench
fit = record {
  setup = subst (Within key_limit) (sym its_setup) within;
  message = asked;
  draws = zeros_bytes 10;
  identity =
      λ i. lit< tt;
  user = zeros_bytes 8;
  enc = zeros_bytes 16;
}

shares : Shares keys (key_used tag iam1)
unfolding bench keys_in records_in key_of keyid_used kind_of iam_kind iam1_of key_with key_limit
shares = record { has = record { enc = refl; mackey = refl }; mac = refl }

called : Called table bench [] user (brings iam1 0) (answered 0)
unfolding terms keys_in records_in key_of bench cleared at_rest in_turn judged_to offered has_key lending_checks
    opening_checks effect_of of_message in_order by_kind iam1_answer if_fine replied refused kind_of iam_kind
    length_fits iam1_of key_limit profile_limit
called = record { outcome = refl; number = refl; next = refl; reply = refl; identity = refl; user = refl }

-- what the step left, as far as it says, goes to the judge, who finds what is due
pub challenge_recovered : (room : List ℕ) → 144 ≡ length room
    → (let found = judgement_of keys iam1 (take 10 (over (drawn 0) (replicate 172 0))) (length room) in
    Judges (due call tag (answer_of call tag) (kind_of (byte_at iam1 0))) room (said_of found) (over found.bytes room))
challenge_recovered room e =
    recovery_code table bench [] user (brings iam1 0) (answered 0) keys room _ _ called fit shares (omega arith) tt
    (judges (judgement_of keys iam1 (take 10 (over (drawn 0) (replicate 172 0))) (length room)) room _ _ refl refl)

-- an accepted reply is made again
taken : (judgement_of keys iam1 (drawn 0) 144).verdict ≡ Ok tt
unfolding judgement_of of_kind judge.by_kind iam1_finding judged_to own_fits fields_fit length_fits kind_of iam_kind
    iam1_of
taken = refl

pub reply_fixed : drawn 0 ≡ remade key iam1 (trnd_in keys (drawn 0)) (judgement_of keys iam1 (drawn 0) 144)
    (kind_of (byte_at iam1 0))
reply_fixed =
    fixed keys key iam1 (drawn 0) 144 (record { has = record { enc = refl; mackey = refl }; mac = refl })
    (zeros_bytes 16) (zeros_bytes 10) taken
