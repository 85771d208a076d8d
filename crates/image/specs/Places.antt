-- Where the parts of an image stand: 793 bytes, in which a caller keeps a tag. Numbers go most significant first.
-- 0 state, 1 KeyID, 2 TChallenge, 12 IChallenge[31:0]; what the sheet says from 16 on. Each place is the end of the
-- part before it (proofs/Laid, `places`).
use Rattle.std.specs.Prelude.{ℕ}

-- the body of record 01, and that of record 02
abbrev pub features_at : ℕ
features_at = 16

abbrev pub sizes_at : ℕ
sizes_at = 18

-- sixteen profiles, each the body of its record 04 with 1 for its number, or all zero
abbrev pub profiles_at : ℕ
profiles_at = 22

-- how many locks there are, in one byte, and sixteen of them, each the body of its record 05, or all zero
abbrev pub lock_count_at : ℕ
lock_count_at = 118

abbrev pub locks_at : ℕ
locks_at = 119

-- how many key records there are, in two bytes, and room for as many as a sheet may have, as they stand in it
abbrev pub key_count_at : ℕ
key_count_at = 199

abbrev pub key_table_at : ℕ
key_table_at = 201

abbrev pub key_room : ℕ
key_room = 592

abbrev pub image_length : ℕ
image_length = 793
