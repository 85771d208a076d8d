-- No premise is hollow: the theorems of demand 1, applied to something of which they hold. (Demand 2's examples are in
-- ShutOutExamples and Entered, demand 3's in the crate `silence`.)
use Rattle.std.specs.Prelude.{None, Err}
use Rattle.modes.specs.declared.ChainingFault.TheVariants.{BlocksOrRoom}
use mathlib.Core.Path.{◌≡◌, refl, ap}
use mathlib.Core.Logic.{◌⊎◌}
use mathlib.Core.Bool.{true, false}
use mathlib.Core.List.{List, []}
use Prim.Native.Nat.{ℕ}
use Rattle.modes.specs.Room as room
use Rattle.sheet.specs.declared.SheetFault.TheVariants.{Cut}
use Rattle.sheet.specs.Kinds as sheet
use Rattle.sheet.specs.Setups.{nothing_gathered, empty_terms}
use Rattle.sheet.specs.Judgement.{judged_of}
use Rattle.sheet.specs.Limits.{key_limit}
use Rattle.sheet.specs.Sheet.{read_of, verdict_of, terms_read, keys_read}
use Rattle.sheet_laws.proofs.Examples.{example_12}
use Rattle.offer.specs.declared.TagFault.TheVariants.{OtherError}
use Rattle.entry.specs.Sessions.{cleared}
use Rattle.ground.specs.Checks.{judged_to}
use Rattle.offer.specs.Judged.{lending_checks}
use Rattle.tag.specs.Answers.{effect_of, of_message, refused}
use Rattle.tag.specs.Plays.{Called}
use Rattle.reader.specs.declared.ReaderFault.TheVariants.{OwnMessage}
use Rattle.reader.specs.declared.Keys.{Keys}
use Rattle.reader.specs.Numbers as reader
use Rattle.reader_judge.specs.Judged.{judgement_of}
use Rattle.claims.specs.Answered.{Among, sheet_numbers, TagRefused, JudgeRefused}
use Rattle.claims.proofs.Answered.{tag_answers, sheet_answers, record_answers, chain_answers, layer_answers}
use Rattle.claims.proofs.AnsweredReader.{judge_answers, builder_answers}
use Rattle.claims.proofs.Bench.{terms, table, bench, user, brings, unanswered}

called : Called table bench [] user (brings [] 0) unanswered
unfolding effect_of judged_to lending_checks of_message refused bench terms cleared
called = record { outcome = refl; number = refl; next = refl; reply = refl; identity = refl; user = refl }

pub tag_refused : TagRefused bench [] user (brings [] 0) unanswered OtherError
tag_refused = tag_answers table bench [] user (brings [] 0) unanswered OtherError called refl

pub judge_refused : (keys : Keys) → JudgeRefused (judgement_of keys [] [] 0) [] [] OwnMessage
unfolding judgement_of
judge_refused keys = judge_answers keys [] [] [] (Err OwnMessage) [] OwnMessage
    (record { says = refl; number = refl; holds = refl }) refl

pub builder_refused : (reader.number_of OwnMessage ≡ 24) × (◌≡◌ {A = List ℕ} [] [])
builder_refused = builder_answers true [] [] (Err OwnMessage) [] OwnMessage
    (record { says = refl; number = refl; holds = refl }) refl

pub sheet_refused : Among sheet_numbers (sheet.number_of Cut) × (terms_read (read_of key_limit []) ≡ empty_terms)
    × (keys_read (read_of key_limit []) ≡ 0)
sheet_refused = sheet_answers [] Cut 0 (ap verdict_of (example_12 key_limit))

pub record_refused : Among sheet_numbers (sheet.number_of Cut) × ((judged_of key_limit [] nothing_gathered).gathered ≡
    nothing_gathered)
unfolding judged_of
record_refused = record_answers [] nothing_gathered Cut refl

pub chain_refused : (room.number_of (Err BlocksOrRoom) ≡ 0)
    ⊎ ((room.number_of (Err BlocksOrRoom) ≡ 8) × (◌≡◌ {A = List ℕ} [] []))
chain_refused = chain_answers false [] [] (Err BlocksOrRoom) [] (record { says = refl; number = refl; leaves = refl })

pub layer_refused : ◌≡◌ {A = List ℕ} [] []
layer_refused = layer_answers false 0 [] [] None [] (record { says = refl; holds = refl }) refl
