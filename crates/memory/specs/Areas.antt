-- The bytes of the addressed words in the two lent areas: the scope paper, "Memory" and "Numbers the tag gives".
use Rattle.std.specs.Prelude.{ℕ, ◌+◌, ◌*◌, Bool, cond, ◌&&◌, List, [], ◌++◌, length, take, drop, leb, eqb}
use Rattle.memory.specs.declared.Area.{Area}
use Rattle.memory.specs.declared.Area.TheVariants.{Identity, User}
use Rattle.memory.specs.declared.Block.{Block}
use Rattle.memory.specs.Address.{same_area}

-- the bytes of a word of 16 bits
abbrev pub word_bytes : ℕ
word_bytes = 2

-- where the block's bytes start in its area, and how many they are
abbrev pub first_byte : Block → ℕ
first_byte block = block.first.0 * word_bytes

abbrev pub byte_count : Block → ℕ
byte_count block = block.words * word_bytes

-- the one of the two areas that is named
unfoldable pub area_of : Area → List ℕ → List ℕ → List ℕ
area_of Identity identity user = identity
area_of User identity user = user

-- every byte of the block lies in its area
unfoldable pub within : Block → List ℕ → Bool
within block area = leb (first_byte block + byte_count block) (length area)

-- the block's bytes in its area; none where they run past it
unfoldable pub part_of : Block → List ℕ → List ℕ
part_of block area = cond (within block area) (take (byte_count block) (drop (first_byte block) area)) []

-- "Memory": the block is shown as a part of one of the two areas
unfoldable pub window_of : List ℕ → List ℕ → Block → List ℕ
window_of identity user block = part_of block (area_of block.area identity user)

-- the area with `bytes` in the place of the block's bytes; as it was where `bytes` are not so many, or the block runs
-- past the area
unfoldable pub written : Block → List ℕ → List ℕ → List ℕ
written block bytes area =
    cond (within block area && eqb (length bytes) (byte_count block))
    (take (first_byte block) area ++ (bytes ++ drop (first_byte block + byte_count block) area))
    area

-- "Numbers the tag gives": the addressed words are written and no others. Of the two areas, `name` changes only where
-- the block lies in it
unfoldable pub stored_in : Area → Block → List ℕ → List ℕ → List ℕ
stored_in name block bytes area = cond (same_area name block.area) (written block bytes area) area
