-- No second answer fits the contract of an exported function, as the check reads it from the source.
use mathlib.Core.Path.{refl}
use Rattle.ground.specs.OneAnswer.{OneAnswer, OneLent, one, ◌&◌}
use Rattle.memory.proofs.U8FromArea.from.Reads as area_number
use Rattle.memory.proofs.U8FromArea.from.Kinds as area_number-kinds
use Rattle.memory.proofs.BlockSizeFromU8.from.Reads as size
use Rattle.memory.proofs.BlockSizeFromU8.from.Kinds as size-kinds
use Rattle.memory.proofs.U8FromBlockSize.from.Reads as size_bit
use Rattle.memory.proofs.U8FromBlockSize.from.Kinds as size_bit-kinds
use Rattle.memory.proofs.step.Reads as step
use Rattle.memory.proofs.step.Kinds as step-kinds
use Rattle.memory.proofs.address.Reads as address
use Rattle.memory.proofs.address.Kinds as address-kinds
use Rattle.memory.proofs.fits.Reads as fits
use Rattle.memory.proofs.fits.Kinds as fits-kinds
use Rattle.memory.proofs.window.Reads as window
use Rattle.memory.proofs.window.Kinds as window-kinds
use Rattle.memory.proofs.store.Reads as store
use Rattle.memory.proofs.store.Kinds as store-kinds
use Rattle.memory.proofs.locked.Reads as locked
use Rattle.memory.proofs.locked.Kinds as locked-kinds
use Rattle.memory.proofs.permits.Reads as permits
use Rattle.memory.proofs.permits.Kinds as permits-kinds

pub area_number_one : OneAnswer 0 area_number-kinds.ps area_number-kinds.r area_number.Post
area_number_one κs a x y v w p q = (one p q, refl)

pub size_one : OneAnswer 0 size-kinds.ps size-kinds.r size.Post
size_one κs a x y v w p q = (one p q, refl)

pub size_bit_one : OneAnswer 0 size_bit-kinds.ps size_bit-kinds.r size_bit.Post
size_bit_one κs a x y v w p q = (one p.0 q.0, refl)

pub step_one : OneAnswer 0 step-kinds.ps step-kinds.r step.Post
step_one κs a x y v w p q = (one p q, refl)

pub address_one : OneAnswer 0 address-kinds.ps address-kinds.r address.Post
address_one κs a x y v w p q = (one p q, refl)

pub fits_one : OneAnswer 0 fits-kinds.ps fits-kinds.r fits.Post
fits_one κs a x y v w p q = (one p q, refl)

-- of the part: its bytes
pub window_one : OneLent 1 window-kinds.ps 0 tt window.Post
window_one κs a x y v w p q = (one p q, refl)

-- of the two areas: both, as they are left
pub store_one : OneAnswer 3 store-kinds.ps store-kinds.r store.Post
store_one κs a x y v w p q = (refl, one p.0 q.0 & one p.1 q.1 & refl)

pub locked_one : OneAnswer 0 locked-kinds.ps locked-kinds.r locked.Post
locked_one κs a x y v w p q = (one p q, refl)

pub permits_one : OneAnswer 0 permits-kinds.ps permits-kinds.r permits.Post
permits_one κs a x y v w p q = (one p q, refl)
