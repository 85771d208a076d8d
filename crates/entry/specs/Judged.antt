-- What is judged of IAM2, MAM2 and IAM3 before anything is done, in the order of the clauses and of the scope paper. A
-- line is built of its parts, each judged by a function of its own.
use Rattle.std.specs.Prelude.{ℕ, Bool, not, List, [], ◌∷◌, ◌++◌, eqb}
use Rattle.ground.specs.Choice.{both}
use Rattle.ground.specs.Checks.{Check, ◌else◌}
use Rattle.aes.specs.AesEnc.{aes_enc}
use Rattle.memory.specs.Address.{overruns}
use Rattle.memory.specs.Rights.{permitted, some_locked}
use Rattle.memory.specs.declared.Block.{Block}
use Rattle.sheet.specs.declared.Key.{Key}
use Rattle.sheet.specs.declared.Slot.{Slot}
use Rattle.sheet.specs.declared.Terms.{Terms}
use Rattle.sheet.specs.Setups.{Setup, terms_of}
use Rattle.frames.specs.declared.Kind.{Kind}
use Rattle.frames.specs.declared.Kind.TheVariants.{Iam2, Iam3, Mam2}
use Rattle.frames.specs.declared.Iam3.{Iam3 as Iam3Fields}
use Rattle.frames.specs.Constants.{c_iam2}
use Rattle.frames.specs.Messages.{iam2_of, iam3_of, mam2_of}
use Rattle.frames.specs.Lengths.{length_fits}
use Rattle.offer.specs.declared.TagFault.{TagFault}
use Rattle.offer.specs.declared.TagFault.TheVariants.{
  OtherError,
  NotSupported,
  MemoryOverrun,
  MemoryWriteError,
  ProofWrong,
}
use Rattle.keytable.specs.Named.{key_with}
use Rattle.offer.specs.Records.{size_offered, mode_supported, slot_named, block_asked}
use Rattle.entry.specs.declared.Session.{Session}
use Rattle.entry.specs.Opened.{iam_proof, mam_proof, iam3_proof}

-- IAM2 and MAM2: length, RFU, and the proof in what the reader sent.
abbrev pub closing_checks : Bool → ℕ → Kind → List ℕ → List (Check TagFault)
closing_checks proof rfu kind m =
    (length_fits kind m else OtherError)
    ∷ (eqb rfu 0 else NotSupported)
    ∷ (proof else ProofWrong)
    ∷ []

-- 9.5.5
unfoldable pub iam2_checks : List Key → Session → List ℕ → List (Check TagFault)
iam2_checks keys held m =
    closing_checks (iam_proof c_iam2 held (aes_enc (key_with held.keyid keys).enc (iam2_of m).iresponse))
    (iam2_of m).rfu Iam2 m

-- 9.6.5
unfoldable pub mam2_checks : List Key → Session → List ℕ → List (Check TagFault)
mam2_checks keys held m =
    closing_checks (mam_proof held (aes_enc (key_with held.keyid keys).enc (mam2_of m).iresponse))
    (mam2_of m).rfu Mam2 m

-- IAM3, with the slot and the block that it names: profile, right, memory, lock. A block size that is not supported is
-- a block that is not supported: Memory Overrun.
abbrev pub iam3_block_checks : Terms → Key → Iam3Fields → Slot → Block → List (Check TagFault)
iam3_block_checks terms key f slot block =
    let offers = size_offered terms.features f.custom.blocksize in
    (slot.present else NotSupported)
    ∷ (permitted key.mpi f.custom.profile else NotSupported)
    ∷ (both offers (not (overruns slot.profile block)) else MemoryOverrun)
    ∷ (not (some_locked terms.locks.table terms.locks.count block) else MemoryWriteError)
    ∷ []

-- All between the length and the proof, with the record that is held: ProtMode, RFU, and the block.
abbrev pub iam3_middle_checks : Terms → Key → Iam3Fields → List (Check TagFault)
iam3_middle_checks terms key f =
    (mode_supported terms.features key f.protmode else NotSupported)
    ∷ (eqb f.rfu 0 else NotSupported)
    ∷ iam3_block_checks terms key f (slot_named terms.profiles f.custom.profile)
    (block_asked terms.profiles f.custom)

-- All but the proof.
abbrev pub iam3_field_checks : Terms → Key → List ℕ → List (Check TagFault)
iam3_field_checks terms key m = (length_fits Iam3 m else OtherError) ∷ iam3_middle_checks terms key (iam3_of m)

-- 9.5.8
unfoldable pub iam3_checks : Setup → Session → List ℕ → List (Check TagFault)
iam3_checks setup held m =
    let key = key_with held.keyid setup.keys in
    iam3_field_checks (terms_of setup) key m ++ ((iam3_proof key held (iam3_of m) m else ProofWrong) ∷ [])
