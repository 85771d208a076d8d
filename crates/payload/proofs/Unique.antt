-- No second answer fits the contract of an exported function: for a function that answers a value, the value; for one
-- that builds into a room, its answer and what the room holds afterwards.
use mathlib.Core.Path.{refl}
use Rattle.ground.specs.OneAnswer.{OneAnswer, OneLent, one, ◌&◌}
use Rattle.payload.proofs.put.Reads as put
use Rattle.payload.proofs.put.Kinds as put-kinds
use Rattle.payload.proofs.block_of.Reads as Block-of
use Rattle.payload.proofs.block_of.Kinds as block-of-kinds
use Rattle.payload.proofs.carried_into.Reads as carried-into
use Rattle.payload.proofs.carried_into.Kinds as carried-into-kinds
use Rattle.payload.proofs.header_fits.Reads as header-fits
use Rattle.payload.proofs.header_fits.Kinds as header-fits-kinds
use Rattle.payload.proofs.words_in.Reads as words-in
use Rattle.payload.proofs.words_in.Kinds as words-in-kinds
use Rattle.payload.proofs.filler_fits.Reads as filler-fits
use Rattle.payload.proofs.filler_fits.Kinds as filler-fits-kinds
use Rattle.payload.proofs.mac_behind.Reads as mac-behind
use Rattle.payload.proofs.mac_behind.Kinds as mac-behind-kinds
use Rattle.payload.proofs.mac_fits.Reads as mac_fits_lem
use Rattle.payload.proofs.mac_fits.Kinds as mac-fits-kinds

pub put_one : OneAnswer 2 put-kinds.ps put-kinds.r put.Post
put_one κs a x y v w p q = (one p.says q.says, one p.holds q.holds & refl)

pub block_of_one : OneAnswer 0 block-of-kinds.ps block-of-kinds.r Block-of.Post
block_of_one κs a x y v w p q = (one p q, refl)

pub carried_into_one : OneAnswer 2 carried-into-kinds.ps carried-into-kinds.r carried-into.Post
carried_into_one κs a x y v w p q = (one p.says q.says, refl & refl & refl & one p.holds q.holds & refl)

pub header_fits_one : OneAnswer 1 header-fits-kinds.ps header-fits-kinds.r header-fits.Post
header_fits_one κs a x y v w p q = (one p q, refl)

pub words_in_one : OneLent 1 words-in-kinds.ps 0 tt words-in.Post
words_in_one κs a x y v w p q = (one p q, refl)

pub filler_fits_one : OneAnswer 1 filler-fits-kinds.ps filler-fits-kinds.r filler-fits.Post
filler_fits_one κs a x y v w p q = (one p q, refl)

pub mac_behind_one : OneAnswer 1 mac-behind-kinds.ps mac-behind-kinds.r mac-behind.Post
mac_behind_one κs a x y v w p q = (one p.says q.says, refl & refl & refl & one p.holds q.holds & refl)

pub mac_fits_one : OneAnswer 2 mac-fits-kinds.ps mac-fits-kinds.r mac_fits_lem.Post
mac_fits_one κs a x y v w p q = (one p q, refl)
