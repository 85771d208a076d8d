-- What the reader opens of a reply: 9.4.4, 9.4.7, 9.6.4. The tag made its block by AES-ENC, so the reader opens it by
-- AES-DEC.
use Rattle.std.specs.Prelude.{ℕ, Bool, List, ◌++◌, take, drop}
use Rattle.ground.specs.Choice.{pick, both}
use Rattle.aes_inverse.specs.AesDec.{aes_dec}
use Rattle.modes_inverse.specs.CbcInv.{cbc_dec_aes_inv}
use Rattle.frames.specs.declared.Tam2.{Tam2}
use Rattle.frames.specs.Blocks.{blocks_length}
use Rattle.frames.specs.Lengths.{auth_length}
use Rattle.octets.specs.Alike.{same}
use Rattle.frames.specs.declared.ProtMode.{ProtMode}
use Rattle.frames.specs.Modes.{encrypts}
use Rattle.reader.specs.declared.Keys.{Keys}

-- The block that a reply starts with, opened.
unfoldable pub opened_block : Keys → List ℕ → List ℕ
opened_block keys reply = aes_dec keys.enc (take 16 reply)

-- 9.4.4, 9.4.7, 9.6.4: it starts with the constant and ends with the reader's own challenge. The four bytes between
-- them are the tag's.
unfoldable pub block_fits : List ℕ → List ℕ → List ℕ → Bool
block_fits constant ichallenge b = both (same (take 2 b) constant) (same (drop 6 b) ichallenge)

-- 9.6.4: the tag's challenge, its first 48 bits in the clear behind the block, its last 32 in the opened block.
unfoldable pub challenge_in : List ℕ → List ℕ → List ℕ
challenge_in b reply = drop 16 reply ++ take 4 (drop 2 b)

-- Tables 7 to 14: the D blocks behind the authentication block, as they came.
abbrev pub data_sent : Tam2 → List ℕ → List ℕ
data_sent f reply = take (blocks_length f.custom.blocksize f.rev f.custom.blockcount) (drop auth_length reply)

-- 9.4.7: header, data and filler in the clear. The chain starts with the authentication block as it came.
unfoldable pub opened_data : Keys → ProtMode → Tam2 → List ℕ → List ℕ
opened_data keys mode f reply = pick (encrypts mode)
    (cbc_dec_aes_inv (take auth_length reply) keys.enc (data_sent f reply)) (data_sent f reply)
