-- A tag with a key record that has issued a challenge, and what it then takes: IAM2, MAM2, and an IAM3 whose words are
-- stored. The reader's side built each of them with the keys of the record.
use Rattle.std.specs.Prelude.{Option}
use Rattle.frames.specs.declared.ProtMode.{ProtMode}
use mathlib.Core.Path.{◌≡◌, refl, ap, ap₂, ◌∙◌}
use mathlib.Core.Bool.{true, false}
use mathlib.Core.List.{List, [], ◌∷◌}
use Prim.Native.Nat.{ℕ, ◌+◌, ◌*◌}
use native.Mathlib.Omega.{arith}
use borrow.Author.Tests.{eq-eqb}
use lib.ListN.{length, drop, replicate}
use Rattle.ground.specs.Bytes.{Bytes, byte_at}
use Rattle.ground.specs.Choice.{both, implies}
use Rattle.memory.specs.declared.Area.TheVariants.{Identity, User}
use Rattle.memory.specs.Areas.{stored_in}
use Rattle.frames.specs.declared.Kind.TheVariants.{Iam1, Iam3, Mam1}
use Rattle.frames.specs.Blocks.{data_length}
use Rattle.frames.specs.Kinds.{kind_of}
use Rattle.frames.specs.Messages.{iam3_head}
use Rattle.frames.specs.Fields.{size_bit, select_bytes}
use Rattle.frames.specs.Modes.{has_mac, in_mode}
use Rattle.frames.proofs.FirstByte.{iam3_kind}
use Rattle.frames.proofs.Range.{size_bit_lt}
use Rattle.offer.specs.Records.{offered, mode_offered, mode_served, block_asked}
use Rattle.offer.proofs.Bytes.{zeros_bytes}
use Rattle.offer.proofs.Passed.{both_second, mode_named}
use Rattle.entry.specs.declared.State.{State}
use Rattle.entry.specs.declared.State.TheVariants.{IamInit, MamInit}
use Rattle.entry.specs.Sessions.{cleared}
use Rattle.entry.specs.Replies.{mam1_reply}
use Rattle.tag.specs.States.{keyed, at_rest, in_turn}
use Rattle.tag.specs.Answers.{replied, let_in, answer_with}
use Rattle.tag.specs.Plays.{Brought, Step}
use Rattle.reader.specs.declared.Keys.{Keys}
use Rattle.reader.specs.Own.{mode_fits, mode_served as reader_serves}
use Rattle.reader_build.specs.Builds.{purpose_fits, data_fits, iam1_made, iam2_made, mam1_made, mam2_made}
use Rattle.reader_build.specs.Builds.{iam3_whole, iam3_in_mode, iam3_made, iam3_fits}
use Rattle.claims.specs.Entry.{Array, Knows}
use Rattle.claims.specs.Starts.{Start, setup_at, HasRecord, record_at, HasWritable}
use Rattle.claims.specs.ShutOut.{steps}
use Rattle.claims.proofs.Bench.{drawn, brings}
use Rattle.claims.proofs.EncKeys.{enc_array}
use Rattle.claims.proofs.Entry.{iam2_enters, mam2_enters}
use Rattle.claims.proofs.EntryIam3.{iam3_enters}
use Rattle.claims.proofs.Openings.{iam1_answered, mam1_answered}
use Rattle.claims.proofs.Reached.{call_at, answer_at, onward, woke, next, reached}
use Rattle.claims.proofs.Taken.{lends, nothing, rests, drawn_bytes}

pub ten : Array 10 (drawn 0)
ten = record { long = refl; bytes = drawn_bytes 0 (omega arith) }

pub four : Array 4 (replicate 4 0)
four = record { long = refl; bytes = zeros_bytes 4 }

pub purpose_0 : purpose_fits 0 ≡ true
unfolding purpose_fits
purpose_0 = refl

module _ (s : Start) (h : HasRecord s) where
  -- the reader has the keys of the record
  abbrev keys : Keys
  keys = record { enc = (record_at s h).enc; mac = (record_at s h).mac; mackey = (record_at s h).mackey }

  knows : Knows keys (record_at s h)
  knows = record {
    has = record { enc = refl; mackey = refl };
    array = enc_array h.keyid s.table h.bytes h.there;
  }

  -- the tag once the challenge is out: ten zeros, and what it holds of the reader's own
  abbrev pub waiting : State → List ℕ → Start
  waiting state ichallenge = record {
    table = s.table;
    tag = record {
      terms = s.tag.terms;
      session = record { state = state; keyid = h.keyid; tchallenge = drawn 0; ichallenge = ichallenge };
    };
    identity = s.identity;
    user = s.user;
  }

  -- ---- IAM1 and IAM2

  abbrev pub iam1 : Brought
  iam1 = brings (iam1_made h.keyid) 0

  abbrev pub iam2 : Brought
  iam2 = brings (iam2_made keys 0 (replicate 4 0) (drawn 0)) 0

  module _ (feature : offered (setup_at s).features Iam1 ≡ true) where
    pub iam1_taken : answer_at (woke s) iam1
        ≡ answer_with (setup_at s) (replied (call_at s iam1) (drawn 0)
        (record { state = IamInit; keyid = h.keyid; tchallenge = drawn 0; ichallenge = replicate 4 0 }))
    unfolding in_turn at_rest cleared
    iam1_taken = iam1_answered (call_at s iam1) (keyed (woke s).tag s.table) h.keyid
        (record { bench = lends s h 0; there = feature; turn = refl }) h.there refl

    pub iam1_leads : reached s (steps (nothing ∷ iam1 ∷ [])) ≡ waiting IamInit (replicate 4 0)
    unfolding steps replied
    iam1_leads = ap (λ (t : Start). next t (Step iam1)) (rests s h) ∙ ap (onward (woke s)) iam1_taken

    pub iam2_taken : answer_at (waiting IamInit (replicate 4 0)) iam2
        ≡ answer_with (setup_at s) (let_in (call_at s iam2) 0 s.identity s.user)
    unfolding offered in_turn
    iam2_taken = iam2_enters (call_at s iam2) (keyed (waiting IamInit (replicate 4 0)).tag s.table) keys 0
        (replicate 4 0) (record { bench = lends s h 0; there = feature; turn = refl }) knows ten four purpose_0 refl

  -- ---- MAM1 and MAM2

  abbrev pub mam1 : Brought
  mam1 = brings (mam1_made h.keyid (drawn 0)) 0

  abbrev pub mam2 : Brought
  mam2 = brings (mam2_made keys 0 (drawn 0) (drawn 0)) 0

  module _ (feature : offered (setup_at s).features Mam1 ≡ true) where
    pub mam1_taken : answer_at (woke s) mam1
        ≡ answer_with (setup_at s) (replied (call_at s mam1) (mam1_reply (record_at s h)
        (record { rfu = 0; keyid = h.keyid; ichallenge = drawn 0 }) (drawn 0))
        (record { state = MamInit; keyid = h.keyid; tchallenge = drawn 0; ichallenge = drop 6 (drawn 0) }))
    unfolding in_turn at_rest cleared
    mam1_taken = mam1_answered (call_at s mam1) (keyed (woke s).tag s.table) h.keyid (drawn 0)
        (record { bench = lends s h 0; there = feature; turn = refl }) h.there refl refl

    pub mam1_leads : reached s (steps (nothing ∷ mam1 ∷ [])) ≡ waiting MamInit (drop 6 (drawn 0))
    unfolding steps replied
    mam1_leads = ap (λ (t : Start). next t (Step mam1)) (rests s h) ∙ ap (onward (woke s)) mam1_taken

    pub mam2_taken : answer_at (waiting MamInit (drop 6 (drawn 0))) mam2
        ≡ answer_with (setup_at s) (let_in (call_at s mam2) 0 s.identity s.user)
    unfolding offered in_turn
    mam2_taken = mam2_enters (call_at s mam2) (keyed (waiting MamInit (drop 6 (drawn 0))).tag s.table) keys 0
        (drawn 0) (record { bench = lends s h 0; there = feature; turn = refl }) knows ten ten refl purpose_0 refl

-- ---- IAM3

module _ (s : Start) (w : HasWritable s) (words : List ℕ) where
  abbrev held : HasRecord s
  held = w.holder

  abbrev pub iam3 : Brought
  iam3 = brings (iam3_made (keys s held) w.custom w.protmode 0 (replicate 4 0) (drawn 0) words) 0

  -- the ProtMode that it says
  mode_fits_lem : mode_fits (keys s held) w.protmode ≡ true
  unfolding mode_fits mode_served reader_serves
  mode_fits_lem =
      let m = mode_named (setup_at s).features (record_at s held) w.protmode w.writable.mode in
      ap (λ (x : Option ProtMode). in_mode x (reader_serves (keys s held)) false) m.named
      ∙ both_second (mode_offered (setup_at s).features m.mode)
      (implies (has_mac m.mode) (record_at s held).mac) m.holds

  pub iam3_begins : kind_of (byte_at iam3.message 0) ≡ Iam3
  unfolding iam3_made iam3_in_mode iam3_whole iam3_head select_bytes
  iam3_begins =
      let m = mode_named (setup_at s).features (record_at s held) w.protmode w.writable.mode in
      let b = size_bit_lt w.custom.blocksize in
      rw m.named (iam3_kind (0x58 + size_bit w.custom.blocksize * 4 + 0) (omega arith) (omega (arith, b)))

  module _ (bytes : Bytes words) (long : length words ≡ data_length w.custom.blocksize w.custom.blockcount) where
    fits : iam3_fits (keys s held) w.custom w.protmode 0 (length words) ≡ true
    unfolding iam3_fits data_fits
    fits = ap₂ both mode_fits_lem (ap₂ both purpose_0 (ap₂ both (eq-eqb _ _ long) w.nameable))

    pub iam3_taken : answer_at (waiting s held IamInit (replicate 4 0)) iam3
        ≡ answer_with (setup_at s) (let_in (call_at s iam3) 0
        (stored_in Identity (block_asked (setup_at s).profiles w.custom) words s.identity)
        (stored_in User (block_asked (setup_at s).profiles w.custom) words s.user))
    unfolding in_turn
    iam3_taken = iam3_enters (call_at s iam3) (keyed (waiting s held IamInit (replicate 4 0)).tag s.table)
        (keys s held) w.custom w.protmode 0 (replicate 4 0) words
        (record { bench = lends s held 0; there = w.iam3; turn = refl }) (knows s held) ten four bytes fits
        w.writable refl
