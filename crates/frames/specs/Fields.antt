-- Fields shared by several messages.
use Rattle.std.specs.Prelude.{ℕ, ◌+◌, ◌*◌, ◌/◌, ◌%◌, Bool, List, [], ◌∷◌, ltb}
use Rattle.memory.specs.Address.{block_size_bit}
unfoldable pub use Rattle.memory.specs.Address.{size_of}
use Rattle.memory.specs.declared.BlockSize.{BlockSize}
use Rattle.ground.specs.Choice.{both}
use Rattle.frames.specs.declared.Custom.{Custom}

-- 9.2, BlockSize: memory's, 0 for 64-bit blocks and 1 for 16-bit blocks
abbrev pub size_bit : BlockSize → ℕ
size_bit s = block_size_bit s

-- 9.2: Profile has 4 bits, Offset 12, BlockCount 4
unfoldable pub custom_fits : Custom → Bool
custom_fits c = both (ltb c.profile 16) (both (ltb c.offset.0 4096) (ltb c.blockcount 16))

-- Tables 6 and 18: Profile[3:0], Offset[11:0], BlockCount[3:0], ProtMode[3:0], in three bytes
unfoldable pub select_bytes : Custom → ℕ → List ℕ
select_bytes c protmode =
    (c.profile * 16 + c.offset.0 / 256) ∷ c.offset.0 % 256 ∷ (c.blockcount * 16 + protmode) ∷ []

-- the same three bytes x, y and z taken apart
unfoldable pub select_custom : BlockSize → ℕ → ℕ → ℕ → Custom
select_custom s x y z = record {
  blocksize = s;
  profile = x / 16;
  offset = record { 0 = x % 16 * 256 + y };
  blockcount =
      z / 16;
}

abbrev pub select_prot_mode : ℕ → ℕ
select_prot_mode z = z % 16
