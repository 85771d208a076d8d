-- What is judged of a TAM2 before anything is done, in the order of 9.4.5 and of the scope paper. The line is built of
-- its parts, each judged by a function of its own; the whole is the last definition. (TAM1's is the opening line.)
use Rattle.std.specs.Prelude.{ℕ, not, List, [], ◌∷◌, eqb}
use Rattle.ground.specs.Checks.{Check, ◌else◌}
use Rattle.memory.specs.Address.{overruns}
use Rattle.memory.specs.Rights.{permitted}
use Rattle.memory.specs.declared.Block.{Block}
use Rattle.sheet.specs.declared.Features.{Features}
use Rattle.sheet.specs.declared.Key.{Key}
use Rattle.sheet.specs.declared.Slot.{Slot}
use Rattle.sheet.specs.Setups.{Setup}
use Rattle.frames.specs.declared.Kind.TheVariants.{Tam2}
use Rattle.frames.specs.declared.Tam2.{Tam2 as Tam2Fields}
use Rattle.frames.specs.Lengths.{length_fits}
use Rattle.frames.specs.Messages.{tam2_of}
use Rattle.offer.specs.declared.TagFault.{TagFault}
use Rattle.offer.specs.declared.TagFault.TheVariants.{OtherError, NotSupported, MemoryOverrun}
use Rattle.keytable.specs.Named.{has_key, key_with}
use Rattle.offer.specs.Records.{size_offered, rev_offered, mode_supported, slot_named, block_asked}

-- With the slot and the block that it names: profile, right, memory, ProtMode.
abbrev pub tam2_block_checks : Features → Key → Tam2Fields → Slot → Block → List (Check TagFault)
tam2_block_checks features key f slot block =
    (slot.present else NotSupported)
    ∷ (permitted key.mpi f.custom.profile else NotSupported)
    ∷ (not (overruns slot.profile block) else MemoryOverrun)
    ∷ (mode_supported features key f.protmode else NotSupported)
    ∷ []

-- BlockSize, Rev, RFU, key, and the block.
abbrev pub tam2_field_checks : Setup → Tam2Fields → List (Check TagFault)
tam2_field_checks setup f =
    (size_offered setup.features f.custom.blocksize else NotSupported)
    ∷ (rev_offered setup.features f.rev else NotSupported)
    ∷ (eqb f.rfu 0 else NotSupported)
    ∷ (has_key f.keyid setup.keys else NotSupported)
    ∷ tam2_block_checks setup.features (key_with f.keyid setup.keys) f
    (slot_named setup.profiles f.custom.profile)
    (block_asked setup.profiles f.custom)

unfoldable pub tam2_checks : Setup → List ℕ → List (Check TagFault)
tam2_checks setup m = (length_fits Tam2 m else OtherError) ∷ tam2_field_checks setup (tam2_of m)
