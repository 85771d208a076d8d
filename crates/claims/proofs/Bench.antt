-- One tag for examples: the tag of a sheet with Rev 1, IAM1, IAM2, IAM3 and MAM, ProtMode 0, a user area of four words,
-- a key record of KeyID 00 and one profile, which it may use.
use Rattle.sheet.specs.declared.SheetRefusal.{SheetRefusal}
use Rattle.std.specs.Prelude.{Ok, Err, Result}
use Rattle.offer.specs.declared.Answer.TheVariants.{Replied}
use mathlib.Core.Path.{◌≡◌, refl, ap, ◌∙◌}
use mathlib.Core.Bool.{Bool, true, false}
use mathlib.Core.List.{List, [], ◌∷◌, ◌++◌}
use Prim.Native.Nat.{ℕ}
use borrow.Author.Tests.{ltb-true}
use lib.Dec.{ltb}
use lib.ListN.{set, replicate}
use Rattle.ground.specs.Bytes.{Bytes}
use Rattle.ground.specs.Choice.{both}
use Rattle.ground.proofs.Bytes.{bytes_none, bytes_cons}
use Rattle.modes.specs.Room.{over}
use Rattle.memory.specs.declared.Area.TheVariants.{User}
use Rattle.sheet.specs.declared.Key.{Key}
use Rattle.sheet.specs.declared.Terms.{Terms}
use Rattle.sheet.specs.declared.Reading.{Reading}
use Rattle.sheet.specs.Setups.{Setup, setup_of}
use Rattle.sheet.specs.KeyTable.{records_in, keys_in, key_table}
use Rattle.sheet.specs.Limits.{key_limit, profile_limit, lock_limit, word_limit}
use Rattle.sheet.specs.Kinds.{kind_of, in_order}
use Rattle.sheet.specs.Setups.{no_slot, no_lock, empty_terms, no_marks, nothing_gathered}
use Rattle.octets.specs.Alike.{all_zero}
use Rattle.sheet.specs.Records.{area_of, words_in, inside, features_rule, features_of, sizes_rule, sizes_of}
use Rattle.sheet.specs.Records.{key_rule, key_of, profile_rule, slot_of}
use Rattle.sheet.specs.Judgement.{too_many, opened_of, with_features, with_sizes, with_key, with_profile, record_of}
use Rattle.sheet.specs.Judgement.{judged_of}
use Rattle.sheet.specs.Sheet.{after, walk, read_of, whole, said_of, terms_read, keys_read}
use Rattle.frames.proofs.Range.{both_left, both_right}
use Rattle.offer.specs.declared.TagFault.TheVariants.{OtherError}
use Rattle.entry.specs.declared.State.TheVariants.{IamInit}
use Rattle.tag.specs.declared.Tag.{Tag}
use Rattle.tag.specs.States.{awake}
use Rattle.tag.specs.Plays.{Brought, Left}

abbrev pub key : Key
key = record { id = 0; mac = false; mpi = 1; enc = replicate 16 0; mackey = replicate 16 0 }

unfoldable pub terms : Terms
terms = record {
  features = record {
    blocksize1 = false;
    rev0 = false;
    rev1 = true;
    iam = true;
    iam3 = true;
    mam = true;
    mode0 = true;
    mode1 = false;
    mode2 = false;
    mode3 = false;
  };
  sizes = record { identity = 0; user = 4 };
  profiles = set (replicate profile_limit no_slot) 0
      (record { present = true; profile = record { area = User; base = record { 0 = 0 }; words = 4 } });
  locks = record { count = 0; table = replicate lock_limit no_lock };
}

-- its key table
abbrev pub table : List ℕ
table = 0x03 ∷ 0x00 ∷ 0x00 ∷ 0x00 ∷ 0x01 ∷ replicate 16 0 ++ replicate 16 0

unfoldable pub setup : Setup
setup = record {
  features = terms.features;
  sizes = terms.sizes;
  keys = key ∷ [];
  profiles = terms.profiles;
  locks = terms.locks;
}

pub its_setup : setup_of terms table ≡ setup
unfolding setup keys_in records_in key_of
its_setup = refl

-- its sheet
abbrev pub sheet : List ℕ
sheet =
    0x01 ∷ 0x3C ∷ 0x01
    ∷ 0x02 ∷ 0x00 ∷ 0x00 ∷ 0x00 ∷ 0x04
    ∷ table
    ++ (0x04 ∷ 0x00 ∷ 0x01 ∷ 0x00 ∷ 0x00 ∷ 0x00 ∷ 0x04
    ∷ 0x06 ∷ [])

pub sheet_read : read_of key_limit sheet ≡ whole terms 1
unfolding terms read_of walk after judged_of opened_of too_many kind_of in_order record_of with_features with_sizes
    with_key with_profile features_rule features_of sizes_rule sizes_of key_rule profile_rule slot_of inside words_in
    area_of all_zero word_limit key_limit profile_limit lock_limit nothing_gathered no_marks empty_terms
sheet_read = refl

pub said : said_of key_limit sheet ≡ setup
unfolding said_of key_table
said =
    ap (λ (r : Result Reading SheetRefusal). setup_of (terms_read r) (key_table sheet (keys_read r))) sheet_read
    ∙ its_setup

unfoldable pub bench : Tag
bench = awake terms

-- its areas
abbrev pub user : List ℕ
user = replicate 8 0

-- a call: a message, ten draws of which the first is n, and a room
abbrev pub drawn : ℕ → List ℕ
drawn n = n ∷ replicate 9 0

abbrev pub brings : List ℕ → ℕ → Brought
brings message n = record { message = message; draws = drawn n; room = replicate 172 0 }

-- IAM1 for KeyID 00
abbrev pub iam1 : List ℕ
iam1 = 0x40 ∷ 0x00 ∷ []

-- what an IAM1 with these draws leaves: they are its reply, and its challenge
abbrev pub answered : ℕ → Left
answered n = record {
  stepped = record {
    outcome = Ok (Replied 10);
    tag = record {
      terms = terms;
      session = record { state = IamInit; keyid = 0; tchallenge = drawn n; ichallenge = replicate 4 0 };
    };
  };
  room = over (drawn n) (replicate 172 0);
  identity = [];
  user = user;
}

-- what an empty message leaves: number 1
abbrev pub unanswered : Left
unanswered = record {
  stepped = record { outcome = Err OtherError; tag = bench };
  room = replicate 172 0;
  identity =
      [];
  user = user;
}

-- written out, bytes are seen to be bytes
abbrev below : List ℕ → Bool
below [] = true
below (x ∷ s) = both (ltb x 256) (below s)

pub are_bytes : (s : List ℕ) → below s ≡ true → Bytes s
are_bytes [] e = bytes_none
are_bytes (x ∷ s) e =
    bytes_cons x s (ltb-true x 256 (both_left (ltb x 256) (below s) e))
    (are_bytes s (both_right (ltb x 256) (below s) e))
