-- HEADER (9.2).
use Rattle.std.specs.Prelude.{ℕ, ◌+◌, ◌*◌, ◌-◌, ◌/◌, ◌%◌, List, [], ◌∷◌, ◌++◌, replicate}
use Rattle.ground.specs.Bytes.{byte_at}
use Rattle.frames.specs.Fields.{size_bit, size_of}
use Rattle.frames.specs.Blocks.{header_length}
use Rattle.frames.specs.declared.Custom.{Custom}

-- 9.2: BlockSize[0:0], Profile[3:0], Offset[11:0], BlockCount[3:0], and three zero bits
unfoldable pub header_start : Custom → List ℕ
header_start c =
    (size_bit c.blocksize * 128 + c.profile * 8 + c.offset.0 / 512)
    ∷ c.offset.0 / 2 % 256
    ∷ (c.offset.0 % 2 * 128 + c.blockcount * 8)
    ∷ []

-- the same, with zeros to the header's length
unfoldable pub header_of : Custom → List ℕ
header_of c = header_start c ++ replicate (header_length c.blocksize - 3) 0

-- the fields of a header's bytes
unfoldable pub header_custom : List ℕ → Custom
header_custom h = record {
  blocksize = size_of (byte_at h 0 / 128);
  profile = byte_at h 0 / 8 % 16;
  offset = record { 0 = byte_at h 0 % 8 * 512 + byte_at h 1 * 2 + byte_at h 2 / 128 };
  blockcount = byte_at h 2 / 8 % 16;
}
