-- No second answer fits the contract of an exported function.
use mathlib.Core.Path.{refl}
use Rattle.ground.specs.OneAnswer.{OneAnswer, one}
use Rattle.offer.proofs.U8FromTagFault.from.Reads as fault-number
use Rattle.offer.proofs.U8FromTagFault.from.Kinds as fault-number-kinds
use Rattle.offer.proofs.number.Reads as number
use Rattle.offer.proofs.number.Kinds as number-kinds
use Rattle.offer.proofs.reply_length.Reads as reply-length
use Rattle.offer.proofs.reply_length.Kinds as reply-length-kinds
use Rattle.offer.proofs.records.offered.Reads as offered
use Rattle.offer.proofs.records.offered.Kinds as offered-kinds
use Rattle.offer.proofs.records.size_offered.Reads as size-offered
use Rattle.offer.proofs.records.size_offered.Kinds as size-offered-kinds
use Rattle.offer.proofs.records.rev_offered.Reads as rev-offered
use Rattle.offer.proofs.records.rev_offered.Kinds as rev-offered-kinds
use Rattle.offer.proofs.records.mode_supported.Reads as mode-supported
use Rattle.offer.proofs.records.mode_supported.Kinds as mode-supported-kinds
use Rattle.offer.proofs.records.slot.Reads as slot
use Rattle.offer.proofs.records.slot.Kinds as slot-kinds
use Rattle.offer.proofs.records.block_asked.Reads as block-asked
use Rattle.offer.proofs.records.block_asked.Kinds as block-asked-kinds
use Rattle.offer.proofs.records.words_asked.Reads as words-asked
use Rattle.offer.proofs.records.words_asked.Kinds as words-asked-kinds
use Rattle.offer.proofs.judged.lending.Reads as lending
use Rattle.offer.proofs.judged.lending.Kinds as lending-kinds
use Rattle.offer.proofs.judged.opening.Reads as opening
use Rattle.offer.proofs.judged.opening.Kinds as opening-kinds

pub fault_number_one : OneAnswer 0 fault-number-kinds.ps fault-number-kinds.r fault-number.Post
fault_number_one κs a x y v w p q = (one p q, refl)

pub number_one : OneAnswer 0 number-kinds.ps number-kinds.r number.Post
number_one κs a x y v w p q = (one p q, refl)

pub reply_length_one : OneAnswer 0 reply-length-kinds.ps reply-length-kinds.r reply-length.Post
reply_length_one κs a x y v w p q = (one p q, refl)

pub offered_one : OneAnswer 0 offered-kinds.ps offered-kinds.r offered.Post
offered_one κs a x y v w p q = (one p q, refl)

pub size_offered_one : OneAnswer 0 size-offered-kinds.ps size-offered-kinds.r size-offered.Post
size_offered_one κs a x y v w p q = (one p q, refl)

pub rev_offered_one : OneAnswer 0 rev-offered-kinds.ps rev-offered-kinds.r rev-offered.Post
rev_offered_one κs a x y v w p q = (one p q, refl)

pub mode_supported_one : OneAnswer 0 mode-supported-kinds.ps mode-supported-kinds.r mode-supported.Post
mode_supported_one κs a x y v w p q = (one p q, refl)

pub slot_one : OneAnswer 0 slot-kinds.ps slot-kinds.r slot.Post
slot_one κs a x y v w p q = (one p q, refl)

pub block_asked_one : OneAnswer 0 block-asked-kinds.ps block-asked-kinds.r block-asked.Post
block_asked_one κs a x y v w p q = (one p q, refl)

pub words_asked_one : OneAnswer 0 words-asked-kinds.ps words-asked-kinds.r words-asked.Post
words_asked_one κs a x y v w p q = (one p q, refl)

pub lending_one : OneAnswer 0 lending-kinds.ps lending-kinds.r lending.Post
lending_one κs a x y v w p q = (one p q, refl)

pub opening_one : OneAnswer 2 opening-kinds.ps opening-kinds.r opening.Post
opening_one κs a x y v w p q = (one p q, refl)
