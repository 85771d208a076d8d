-- The premises of Entry hold: on the bench of examples a reader that has the keys is let in by IAM2, by MAM2, and by an
-- IAM3 that writes; and no longer where the power went in between. No cipher is computed.
use mathlib.Core.Path.{◌≡◌, refl}
use mathlib.Core.Bool.{true, false}
use mathlib.Core.List.{List, [], ◌∷◌}
use Prim.Native.Nat.{ℕ, zero, suc, ◌<◌}
use native.Mathlib.Omega.{arith}
use lib.ListN.{get_or, replicate}
use Rattle.memory.specs.declared.Area.TheVariants.{Identity, User}
use Rattle.memory.specs.declared.BlockSize.TheVariants.{Bits64}
use Rattle.memory.specs.Address.{address_of, step_of, last_word, profile_end, overruns}
use Rattle.memory.specs.Areas.{stored_in}
use Rattle.memory.specs.Rights.{permitted, meets_any, some_locked}
use Rattle.sheet.specs.Limits.{key_limit, profile_limit, lock_limit}
use Rattle.frames.specs.declared.Custom.{Custom}
use Rattle.frames.specs.declared.Kind.TheVariants.{Iam2, Iam3, Mam2}
use Rattle.frames.specs.Asked.{block_asked as words_asked}
use Rattle.frames.specs.Blocks.{data_length, block_bytes}
use Rattle.frames.specs.Fields.{custom_fits}
use Rattle.frames.specs.Kinds.{kind_of, iam_kind}
use Rattle.frames.specs.Modes.{has_mac, prot_mode_of}
use Rattle.frames.specs.Messages.{iam2_message}
use Rattle.entry.specs.declared.State.{State}
use Rattle.entry.specs.declared.State.TheVariants.{IamInit, MamInit}
use Rattle.offer.specs.declared.TagFault.TheVariants.{OutOfTurn}
use Rattle.entry.specs.Sessions.{cleared}
use Rattle.tag.specs.States.{KeyedTag, holding, powered_up}
use Rattle.tag.specs.States.{in_turn}
use Rattle.ground.specs.Checks.{judged_to}
use Rattle.offer.specs.Judged.{lending_checks}
use Rattle.offer.proofs.Bytes.{zeros_bytes}
use Rattle.keytable.specs.Named.{key_with}
use Rattle.offer.specs.Records.{offered, size_offered, mode_offered, mode_served, mode_supported, slot_named}
use Rattle.offer.specs.Records.{block_asked}
use Rattle.tag.specs.Answers.{Call, effect_of, answer_with, answer_of, of_message, in_order, refused, let_in}
use Rattle.tag.specs.Runs.{PowerUp, answer_to}
use Rattle.tag.specs.Reactions.{lent}
use Rattle.reader.specs.declared.Keys.{Keys}
use Rattle.reader.specs.Own.{mode_fits, mode_served as reader_serves}
use Rattle.reader_build.specs.Builds.{purpose_fits, data_fits, iam2_made, mam2_made, iam3_made, iam3_fits}
use Rattle.claims.specs.Entry.{Knows, Waits, Writable}
use Rattle.claims.proofs.Entry.{iam2_enters, mam2_enters}
use Rattle.claims.proofs.EntryIam3.{iam3_enters}
use Rattle.claims.proofs.Bench.{terms, setup, user, drawn}
use Rattle.claims.proofs.Challenged.{ten, four, purpose_0}

-- the tag after an IAM1 or a MAM1 whose draws are zeros, and a call
abbrev pub waiting : State → KeyedTag
waiting state =
    holding setup (record { state = state; keyid = 0; tchallenge = drawn 0; ichallenge = replicate 4 0 })

abbrev pub call : List ℕ → Call
call message = lent message (drawn 0) (replicate 172 0) [] user

-- the reader has the keys
abbrev keys : Keys
keys = record { enc = replicate 16 0; mac = false; mackey = replicate 16 0 }

knows : (state : State) → Knows keys (key_with (waiting state).session.keyid (waiting state).setup.keys)
unfolding setup terms key_with key_limit
knows state = record {
  has = record { enc = refl; mackey = refl };
  array = record { long = refl; bytes = zeros_bytes 16 };
}

-- ---- IAM2 and MAM2

abbrev iam2 : Call
iam2 = call (iam2_made keys 0 (replicate 4 0) (drawn 0))

iam2_waits : Waits iam2 (waiting IamInit) Iam2
unfolding judged_to lending_checks offered in_turn setup terms
iam2_waits = record { bench = refl; there = refl; turn = refl }

pub iam2_entered : answer_of iam2 (waiting IamInit) ≡ answer_with setup (let_in iam2 0 [] user)
iam2_entered = iam2_enters iam2 (waiting IamInit) keys 0 (replicate 4 0) iam2_waits (knows IamInit) ten four purpose_0
    refl

-- The power goes before it comes: the same message of the same reader is out of turn, since no challenge outlives it.
pub iam2_after_power :
    answer_of iam2 (answer_to (waiting IamInit) [] user PowerUp).tag
    ≡ answer_with setup (refused iam2 OutOfTurn cleared)
unfolding answer_to powered_up effect_of of_message in_order judged_to lending_checks offered in_turn cleared
    setup terms iam2_made iam2_message kind_of iam_kind
iam2_after_power = refl

abbrev mam2 : Call
mam2 = call (mam2_made keys 0 (replicate 10 0) (drawn 0))

mam2_waits : Waits mam2 (waiting MamInit) Mam2
unfolding judged_to lending_checks offered in_turn setup terms
mam2_waits = record { bench = refl; there = refl; turn = refl }

pub mam2_entered : answer_of mam2 (waiting MamInit) ≡ answer_with setup (let_in mam2 0 [] user)
mam2_entered = mam2_enters mam2 (waiting MamInit) keys 0 (replicate 10 0) mam2_waits (knows MamInit) ten ten refl
    purpose_0 refl

-- ---- IAM3: ProtMode 0, one 64-bit block at Offset 0 of profile 0

abbrev pub custom : Custom
custom = record { blocksize = Bits64; profile = 0; offset = record { 0 = 0 }; blockcount = 0 }

abbrev pub words : List ℕ
words = 1 ∷ replicate 7 0

words_bytes : (i : ℕ) → get_or words i 0 < 256
words_bytes zero = omega arith
words_bytes (suc i) = zeros_bytes 7 i

unfoldable pub iam3 : List ℕ
iam3 = iam3_made keys custom 0 0 (replicate 4 0) (drawn 0) words

iam3_waits : Waits (call iam3) (waiting IamInit) Iam3
unfolding judged_to lending_checks offered in_turn setup terms
iam3_waits = record { bench = refl; there = refl; turn = refl }

fits : iam3_fits keys custom 0 0 8 ≡ true
unfolding iam3_fits mode_fits reader_serves prot_mode_of has_mac purpose_fits data_fits data_length block_bytes
    custom_fits
fits = refl

pub writable : Writable setup (key_with 0 setup.keys) custom 0
unfolding setup terms mode_supported mode_served mode_offered prot_mode_of has_mac key_with slot_named permitted
    size_offered overruns last_word profile_end block_asked words_asked address_of step_of some_locked meets_any
    key_limit profile_limit lock_limit
writable = record { mode = refl; present = refl; right = refl; size = refl; inside = refl; unlocked = refl }

pub iam3_entered : answer_of (call iam3) (waiting IamInit)
    ≡ answer_with setup (let_in (call iam3) 0 (stored_in Identity (block_asked setup.profiles custom) words [])
    (stored_in User (block_asked setup.profiles custom) words user))
unfolding iam3
iam3_entered = iam3_enters (call iam3) (waiting IamInit) keys custom 0 0 (replicate 4 0) words iam3_waits
    (knows IamInit) ten four words_bytes fits writable refl
