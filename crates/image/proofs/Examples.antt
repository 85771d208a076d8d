-- Bytes that are a tag's, and bytes that are none.
use mathlib.Core.Path.{◌≡◌, refl}
use mathlib.Core.Bool.{true, false}
use mathlib.Core.List.{List, [], ◌∷◌}
use lib.ListN.{replicate}
use Prim.Native.Nat.{ℕ}
use Rattle.octets.specs.Parts.{bytes_from}
use Rattle.octets.specs.Alike.{all_zero}
use Rattle.sheet.specs.KeyTable.{records_in, keys_in}
use Rattle.sheet.specs.Limits.{key_limit, profile_limit, lock_limit}
use Rattle.sheet.specs.Setups.{empty_terms, no_features, no_slot, no_lock}
use Rattle.sheet.specs.Writer.{features_body, sizes_body, profile_body, lock_body}
use Rattle.memory.specs.Address.{area_number}
use Rattle.entry.specs.Sessions.{cleared}
use Rattle.keytable.specs.Named.{has_key}
use Rattle.tag.specs.States.{at_rest, key_fits}
use Rattle.image.specs.Image.{bodies, image_of, session_in, table_in, rests, is_tag}

abbrev pub zeros : List ℕ
zeros = replicate 793 0

-- Zeros are the tag of the smallest sheet, powered up: it has no memory and no key, and so takes no message.
pub zeros_image : image_of cleared empty_terms [] ≡ zeros
unfolding image_of cleared empty_terms no_features no_slot no_lock features_body sizes_body profile_body lock_body
    bodies profile_limit lock_limit area_number
zeros_image = refl

pub zeros_tag : is_tag zeros ≡ true
unfolding is_tag session_in table_in bytes_from rests at_rest key_fits all_zero lock_limit key_limit
zeros_tag = refl

-- a fifth state; a KeyID that is held in Initial; a challenge that waits where no record has its KeyID
pub fifth_state : is_tag (4 ∷ replicate 792 0) ≡ false
unfolding is_tag
fifth_state = refl

pub held_at_rest : is_tag (0 ∷ 1 ∷ replicate 791 0) ≡ false
unfolding is_tag session_in table_in bytes_from rests at_rest key_fits all_zero lock_limit key_limit
held_at_rest = refl

pub no_record : is_tag (1 ∷ replicate 792 0) ≡ false
unfolding is_tag session_in table_in bytes_from key_fits keys_in records_in has_key lock_limit key_limit
no_record = refl
