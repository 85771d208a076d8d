-- No premise is hollow: the bench of examples takes every kind of message, also as its sheet has it, and on it none of
-- the five programs of FalseTags is the standard's tag.
use Rattle.sheet.specs.Sheet.{verdict_of}
use mathlib.Core.Path.{◌≡◌, refl, sym, ap, subst}
use mathlib.Core.Bool.{true}
use mathlib.Core.List.{List, [], ◌∷◌}
use Prim.Native.Nat.{ℕ, ◌*◌}
use Rattle.sheet.specs.Setups.{Setup}
use Rattle.sheet.specs.Limits.{profile_limit, lock_limit}
use Rattle.sheet.specs.KeyTable.{keys_in, records_in}
use Rattle.sheet.specs.Records.{key_of}
use Rattle.memory.specs.Address.{address_of, step_of, last_word, profile_end, overruns}
use Rattle.memory.specs.Areas.{area_of, within}
use Rattle.memory.specs.Rights.{permitted, meets_any, some_locked}
use Rattle.frames.specs.declared.Kind.{Kind}
use Rattle.frames.specs.declared.Kind.TheVariants.{Tam1, Tam2, Iam1, Iam2, Iam3, Mam1, Mam2, Unsupported}
use Rattle.frames.specs.Asked.{block_asked as words_asked}
use Rattle.frames.specs.Fields.{custom_fits}
use Rattle.frames.specs.Modes.{has_mac, prot_mode_of}
use Rattle.keytable.specs.Named.{has_key, key_with}
use Rattle.offer.specs.Records.{offered, size_offered, rev_offered, mode_offered, mode_served, mode_supported}
use Rattle.offer.specs.Records.{slot_named}
use Rattle.offer.specs.Records.{block_asked}
use Rattle.entry.specs.Sessions.{cleared}
use Rattle.tag.specs.Plays.{Brought, Step}
use Rattle.claims.specs.Entry.{Writable}
use Rattle.claims.specs.Starts.{Start, HasRecord, HasFeature, HasReadable, HasWritable, Takes, SheetLent, start_of}
use Rattle.claims.specs.ShutOut.{StandardOn}
use Rattle.claims.proofs.Bench.{terms, table, setup, sheet, sheet_read, said, bench, user, are_bytes}
use Rattle.claims.proofs.Entered.{custom, writable}
use Rattle.claims.proofs.FalseTags.{refuser, refuser_is, repeater, repeater_is}
use Rattle.claims.proofs.FalseTags.{non_storer, non_storer_is, pretender, pretender_is}
use Rattle.claims.proofs.FalseTags.{lengthener, lengthener_is}
use Rattle.claims.proofs.NeverStores.{never_stores}
use Rattle.claims.proofs.SheetStarts.{sheet_has_writable}
use Rattle.claims.proofs.ShutOut.{refuses_everything, one_fixed_reply, later_for_show, made_up_length}

abbrev start : Start
start = record { table = table; tag = bench; identity = []; user = user }

has_record : HasRecord start
unfolding bench terms keys_in records_in key_of has_key
has_record = record { keyid = 0; there = refl; bytes = are_bytes table refl; identity = refl; user = refl }

has_readable : HasReadable start
unfolding bench terms keys_in records_in key_of custom_fits mode_supported mode_served mode_offered prot_mode_of has_mac
    key_with slot_named permitted size_offered rev_offered overruns last_word profile_end block_asked words_asked
    address_of step_of profile_limit has_record
has_readable = record {
  holder = has_record;
  rev = true;
  custom = custom;
  protmode = 0;
  nameable = refl;
  readable = record { size = refl; revision = refl; present = refl; right = refl; inside = refl; mode = refl };
}

has_writable : HasWritable start
unfolding bench terms keys_in records_in key_of offered custom_fits mode_supported mode_served mode_offered prot_mode_of
    has_mac key_with slot_named permitted size_offered overruns last_word profile_end block_asked words_asked address_of
    step_of some_locked meets_any area_of within profile_limit lock_limit has_record
has_writable = record {
  holder = has_record;
  iam1 = refl;
  iam3 = refl;
  custom = custom;
  protmode = 0;
  nameable = refl;
  writable = record { mode = refl; present = refl; right = refl; size = refl; inside = refl; unlocked = refl };
  lies = refl;
}

iam_offered : HasFeature Iam1 start
unfolding bench terms offered
iam_offered = record { holder = has_record; feature = refl }

mam_offered : HasFeature Mam1 start
unfolding bench terms offered
mam_offered = record { holder = has_record; feature = refl }

pub takes : (kind : Kind) → (kind ≡ Unsupported → ⊥) → Takes kind start
takes Tam1 n = has_record
takes Tam2 n = has_readable
takes Iam1 n = iam_offered
takes Iam2 n = iam_offered
takes Iam3 n = has_writable
takes Mam1 n = mam_offered
takes Mam2 n = mam_offered
takes Unsupported n = n refl

-- the same from its sheet on

lent : SheetLent sheet [] user
unfolding setup terms
lent = record {
  bytes = are_bytes sheet refl;
  taken = ap verdict_of sheet_read;
  identity_length = sym (ap (λ (s : Setup). s.sizes.identity * 2) said);
  user_length = sym (ap (λ (s : Setup). s.sizes.user * 2) said);
}

pub sheet_writable : HasWritable (start_of sheet [] user cleared)
unfolding setup terms has_key custom_fits
sheet_writable =
    sheet_has_writable sheet [] user cleared 0 custom 0 lent (ap (λ (s : Setup). has_key 0 s.keys) said)
    (ap (λ (s : Setup). s.features.iam3) said) refl
    (subst (λ (s : Setup). Writable s (key_with 0 s.keys) custom 0) (sym said) writable)

pub refuser_out : StandardOn start refuser → ⊥
refuser_out = refuses_everything start has_record refuser (refuser_is start)

pub repeater_out : (reply : List ℕ) → StandardOn start (repeater reply) → ⊥
repeater_out reply = one_fixed_reply reply start has_record (repeater reply) (repeater_is reply start)

pub non_storer_out : StandardOn start non_storer → ⊥
non_storer_out = never_stores start has_writable non_storer (non_storer_is start)

pub pretender_out : (b : Brought) → StandardOn start pretender → ⊥
pretender_out b = later_for_show (Step b ∷ []) start has_record pretender (pretender_is start (Step b) [])

pub lengthener_out : (kind : Kind) → (kind ≡ Unsupported → ⊥) → StandardOn start lengthener → ⊥
lengthener_out kind n = made_up_length kind start (takes kind n) lengthener (lengthener_is kind start)
