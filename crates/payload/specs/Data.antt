-- Custom data in D blocks of 128 bits (9.2): a header, in TAM2 Rev 1 and in IAM3, the data, and zeros. `rev` says
-- whether there is a header.
use Rattle.std.specs.Prelude.{ℕ, ◌-◌, Bool, List, [], ◌++◌, length, take, drop, replicate}
use Rattle.ground.specs.Choice.{pick, both, implies}
use Rattle.octets.specs.Alike.{same, all_zero}
use Rattle.frames.specs.declared.Custom.{Custom}
use Rattle.frames.specs.Blocks.{header_length, header_part, data_length, carried, blocks_length}
use Rattle.frames.specs.Fields.{custom_fits}
use Rattle.frames.specs.Header.{header_of}

-- 9.2: s, and zeros up to n bytes.
unfoldable pub filled : ℕ → List ℕ → List ℕ
filled n s = s ++ replicate (n - length s) 0

-- 9.2: header, data, and zeros to the last whole 128-bit block.
unfoldable pub carried_data : Bool → Custom → List ℕ → List ℕ
carried_data rev c words = filled (blocks_length c.blocksize rev c.blockcount) (pick rev (header_of c) [] ++ words)

-- 9.2, 9.4.7, 9.5.8: where there is a header, it says what the message's fields say.
unfoldable pub header_fits : Bool → Custom → List ℕ → Bool
header_fits rev c p = implies rev (both (custom_fits c) (same (take (header_length c.blocksize) p) (header_of c)))

-- 9.2: the data, behind the header and before the filler.
unfoldable pub words_in : Bool → Custom → List ℕ → List ℕ
words_in rev c p = take (data_length c.blocksize c.blockcount) (drop (header_part c.blocksize rev) p)

-- 9.2: everything behind header and data is zeros.
unfoldable pub filler_fits : Bool → Custom → List ℕ → Bool
filler_fits rev c p = all_zero (drop (carried c.blocksize rev c.blockcount) p)
