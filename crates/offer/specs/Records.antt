-- What a setup offers: 9.2, 9.4.5, the scope paper's feature record; and the slot and the words that a message names.
use Rattle.std.specs.Prelude.{ℕ, Bool, true, false, List, get_or}
use Rattle.ground.specs.Choice.{both, implies}
use Rattle.memory.specs.declared.BlockSize.{BlockSize}
use Rattle.memory.specs.declared.BlockSize.TheVariants.{Bits64, Bits16}
use Rattle.memory.specs.declared.Block.{Block}
use Rattle.sheet.specs.declared.Features.{Features}
use Rattle.sheet.specs.declared.Key.{Key}
use Rattle.sheet.specs.declared.Slot.{Slot}
use Rattle.sheet.specs.Setups.{no_slot}
use Rattle.frames.specs.declared.Kind.{Kind}
use Rattle.frames.specs.declared.Kind.TheVariants.{Tam1, Tam2, Iam1, Iam2, Iam3, Mam1, Mam2, Unsupported}
use Rattle.frames.specs.declared.Custom.{Custom}
use Rattle.frames.specs.Asked.{block_asked as words_asked}
use Rattle.frames.specs.declared.ProtMode.{ProtMode}
use Rattle.frames.specs.declared.ProtMode.TheVariants.{Plaintext, Cbc, Cmac, CbcCmac}
use Rattle.frames.specs.Modes.{has_mac, in_mode, prot_mode_of}

-- The method, the step and the feature are there. TAM is always; IAM, IAM3 and MAM as the sheet says.
unfoldable pub offered : Features → Kind → Bool
offered f Tam1 = true
offered f Tam2 = true
offered f Iam1 = f.iam
offered f Iam2 = f.iam
offered f Iam3 = f.iam3
offered f Mam1 = f.mam
offered f Mam2 = f.mam
offered f Unsupported = false

-- 9.4.5: 64-bit blocks are always supported, 16-bit blocks as the sheet says.
unfoldable pub size_offered : Features → BlockSize → Bool
size_offered f Bits64 = true
size_offered f Bits16 = f.blocksize1

-- TAM2_Rev 1 or 0.
unfoldable pub rev_offered : Features → Bool → Bool
rev_offered f true = f.rev1
rev_offered f false = f.rev0

-- The ProtMode is one of the sheet's.
unfoldable pub mode_offered : Features → ProtMode → Bool
mode_offered f Plaintext = f.mode0
mode_offered f Cbc = f.mode1
mode_offered f Cmac = f.mode2
mode_offered f CbcCmac = f.mode3

-- The same, and where it has a MAC the record has a key for it (9.2).
unfoldable pub mode_served : Features → Key → ProtMode → Bool
mode_served f key mode = both (mode_offered f mode) (implies (has_mac mode) key.mac)

-- The field says such a mode.
unfoldable pub mode_supported : Features → Key → ℕ → Bool
mode_supported f key protmode = in_mode (prot_mode_of protmode) (mode_served f key) false

-- The slot of a profile's number.
unfoldable pub slot_named : List Slot → ℕ → Slot
slot_named profiles profile = get_or profiles profile no_slot

-- 9.2: the words that a message asks for, in the profile of its number.
unfoldable pub block_asked : List Slot → Custom → Block
block_asked profiles c = words_asked (slot_named profiles c.profile).profile c
