-- The limits of the scope paper, "The tag sheet". In specs/ each number stands here alone; the code has it once more,
-- as the constants KEY_LIMIT, PROFILE_LIMIT, LOCK_LIMIT and WORD_LIMIT, which no proof admits at another value.
use Rattle.std.specs.Prelude.{ℕ, ◌+◌, ◌*◌}
use Rattle.sheet.specs.Kinds.{record_length, keys_at}
use Rattle.sheet.specs.declared.Kind.TheVariants.{KeyRecord, ProfileRecord, LockRecord, EndRecord}

-- Up to 16 records of kind 03. The rules below take this limit as a parameter; the contracts cite them at this one.
unfoldable pub key_limit : ℕ
key_limit = 16

-- up to 16 of kind 04; also how many profile numbers there are: 0 to 15
unfoldable pub profile_limit : ℕ
profile_limit = 16

-- up to 16 of kind 05
unfoldable pub lock_limit : ℕ
lock_limit = 16

-- the words of an area: at most 1,024
unfoldable pub word_limit : ℕ
word_limit = 1024

-- The longest sheet under a limit of key records: 01, 02, and as many of the others as there may be. 809 bytes at 16.
unfoldable pub longest_sheet : ℕ → ℕ
longest_sheet limit =
    keys_at
    + record_length KeyRecord * limit
    + record_length ProfileRecord * profile_limit
    + record_length LockRecord * lock_limit
    + record_length EndRecord
