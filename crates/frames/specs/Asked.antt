-- The block of memory that a message's custom data name.
use Rattle.std.specs.Prelude.{◌+◌}
use Rattle.memory.specs.Address.{address_of}
use Rattle.memory.specs.declared.Profile.{Profile}
use Rattle.memory.specs.declared.Block.{Block}
use Rattle.frames.specs.declared.Custom.{Custom}

-- 9.2, Offset and BlockCount: the value n of BlockCount stands for n + 1 data blocks, from Offset data blocks after the
-- profile's first word on
unfoldable pub block_asked : Profile → Custom → Block
block_asked p c = address_of p c.blocksize c.offset (c.blockcount + 1)
