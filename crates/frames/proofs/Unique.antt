-- No second answer fits the contract of an exported function: for a function that answers a value, the value; for a
-- builder, its answer and what the room holds afterwards.
use Rattle.std.specs.Prelude.{Option}
use mathlib.Core.Path.{◌≡◌, refl}
use mathlib.Core.Bool.{Bool}
use mathlib.Core.List.{List}
use Prim.Native.Nat.{ℕ}
use Rattle.frames.specs.Built.{Built}
use Rattle.ground.specs.OneAnswer.{OneAnswer, one, ◌&◌}
use Rattle.frames.proofs.first.kind_of.Reads as kind-of
use Rattle.frames.proofs.first.kind_of.Kinds as kind-of-kinds
use Rattle.frames.proofs.sizes.header_length.Reads as header-length
use Rattle.frames.proofs.sizes.header_length.Kinds as header-length-kinds
use Rattle.frames.proofs.sizes.header_part.Reads as header-part
use Rattle.frames.proofs.sizes.header_part.Kinds as header-part-kinds
use Rattle.frames.proofs.sizes.data_length.Reads as data-length
use Rattle.frames.proofs.sizes.data_length.Kinds as data-length-kinds
use Rattle.frames.proofs.sizes.block_asked.Reads as block-asked
use Rattle.frames.proofs.sizes.block_asked.Kinds as block-asked-kinds
use Rattle.frames.proofs.sizes.d_of.Reads as d-of
use Rattle.frames.proofs.sizes.d_of.Kinds as d-of-kinds
use Rattle.frames.proofs.sizes.blocks_length.Reads as blocks-length
use Rattle.frames.proofs.sizes.blocks_length.Kinds as blocks-length-kinds
use Rattle.frames.proofs.sizes.mac_length.Reads as mac_length_lem
use Rattle.frames.proofs.sizes.mac_length.Kinds as mac-length-kinds
use Rattle.frames.proofs.sizes.iam3_mac_at.Reads as iam3-mac-at
use Rattle.frames.proofs.sizes.iam3_mac_at.Kinds as iam3-mac-at-kinds
use Rattle.frames.proofs.sizes.iam3_length.Reads as iam3_length_lem
use Rattle.frames.proofs.sizes.iam3_length.Kinds as iam3-length-kinds
use Rattle.frames.proofs.sizes.tam2_mac_at.Reads as tam2-mac-at
use Rattle.frames.proofs.sizes.tam2_mac_at.Kinds as tam2-mac-at-kinds
use Rattle.frames.proofs.sizes.tam2_reply_length.Reads as tam2-reply-length
use Rattle.frames.proofs.sizes.tam2_reply_length.Kinds as tam2-reply-length-kinds
use Rattle.frames.proofs.sizes.length_fits.Reads as length-fits
use Rattle.frames.proofs.sizes.length_fits.Kinds as length-fits-kinds
use Rattle.frames.proofs.fields.tam1_of.Reads as tam1-of
use Rattle.frames.proofs.fields.tam1_of.Kinds as tam1-of-kinds
use Rattle.frames.proofs.fields.tam2_of.Reads as tam2-of
use Rattle.frames.proofs.fields.tam2_of.Kinds as tam2-of-kinds
use Rattle.frames.proofs.fields.iam1_of.Reads as iam1-of
use Rattle.frames.proofs.fields.iam1_of.Kinds as iam1-of-kinds
use Rattle.frames.proofs.fields.iam2_of.Reads as iam2-of
use Rattle.frames.proofs.fields.iam2_of.Kinds as iam2-of-kinds
use Rattle.frames.proofs.fields.iam3_of.Reads as iam3-of
use Rattle.frames.proofs.fields.iam3_of.Kinds as iam3-of-kinds
use Rattle.frames.proofs.fields.mam1_of.Reads as mam1-of
use Rattle.frames.proofs.fields.mam1_of.Kinds as mam1-of-kinds
use Rattle.frames.proofs.fields.mam2_of.Reads as mam2-of
use Rattle.frames.proofs.fields.mam2_of.Kinds as mam2-of-kinds
use Rattle.frames.proofs.protection.prot_mode.Reads as prot-mode
use Rattle.frames.proofs.protection.prot_mode.Kinds as prot-mode-kinds
use Rattle.frames.proofs.protection.encrypts.Reads as encrypts
use Rattle.frames.proofs.protection.encrypts.Kinds as encrypts-kinds
use Rattle.frames.proofs.protection.has_mac.Reads as has-mac
use Rattle.frames.proofs.protection.has_mac.Kinds as has-mac-kinds
use Rattle.frames.proofs.constants.tam1_constant.Reads as tam1-constant
use Rattle.frames.proofs.constants.tam1_constant.Kinds as tam1-constant-kinds
use Rattle.frames.proofs.constants.tam2_constant.Reads as tam2-constant
use Rattle.frames.proofs.constants.tam2_constant.Kinds as tam2-constant-kinds
use Rattle.frames.proofs.constants.mam1_constant.Reads as mam1-constant
use Rattle.frames.proofs.constants.mam1_constant.Kinds as mam1-constant-kinds
use Rattle.frames.proofs.constants.mam2_constant.Reads as mam2-constant
use Rattle.frames.proofs.constants.mam2_constant.Kinds as mam2-constant-kinds
use Rattle.frames.proofs.constants.iam2_constant.Reads as iam2-constant
use Rattle.frames.proofs.constants.iam2_constant.Kinds as iam2-constant-kinds
use Rattle.frames.proofs.constants.iam3_constant.Reads as iam3-constant
use Rattle.frames.proofs.constants.iam3_constant.Kinds as iam3-constant-kinds
use Rattle.frames.proofs.build.tam1_into.Reads as tam1-into
use Rattle.frames.proofs.build.tam1_into.Kinds as tam1-into-kinds
use Rattle.frames.proofs.build.tam2_into.Reads as tam2-into
use Rattle.frames.proofs.build.tam2_into.Kinds as tam2-into-kinds
use Rattle.frames.proofs.build.iam1_into.Reads as iam1-into
use Rattle.frames.proofs.build.iam1_into.Kinds as iam1-into-kinds
use Rattle.frames.proofs.build.iam2_into.Reads as iam2-into
use Rattle.frames.proofs.build.iam2_into.Kinds as iam2-into-kinds
use Rattle.frames.proofs.build.iam3_into.Reads as iam3-into
use Rattle.frames.proofs.build.iam3_into.Kinds as iam3-into-kinds
use Rattle.frames.proofs.build.mam1_into.Reads as mam1-into
use Rattle.frames.proofs.build.mam1_into.Kinds as mam1-into-kinds
use Rattle.frames.proofs.build.mam2_into.Reads as mam2-into
use Rattle.frames.proofs.build.mam2_into.Kinds as mam2-into-kinds
use Rattle.frames.proofs.build.header_into.Reads as header-into
use Rattle.frames.proofs.build.header_into.Kinds as header-into-kinds
use Rattle.frames.proofs.parts.join.Reads as join
use Rattle.frames.proofs.parts.join.Kinds as join-kinds

one_built : (fit : Bool) (n : ℕ) (m room : List ℕ) (x y : Option ℕ) (s t : List ℕ) → Built fit n m room x s
    → Built fit n m room y t
    → (x ≡ y) × (s ≡ t)
one_built fit n m room x y s t p q = (one p.says q.says, one p.holds q.holds)

pub kind_of_one : OneAnswer 0 kind-of-kinds.ps kind-of-kinds.r kind-of.Post
kind_of_one κs a x y v w p q = (one p q, refl)

pub header_length_one : OneAnswer 0 header-length-kinds.ps header-length-kinds.r header-length.Post
header_length_one κs a x y v w p q = (one p q, refl)

pub header_part_one : OneAnswer 0 header-part-kinds.ps header-part-kinds.r header-part.Post
header_part_one κs a x y v w p q = (one p q, refl)

pub data_length_one : OneAnswer 0 data-length-kinds.ps data-length-kinds.r data-length.Post
data_length_one κs a x y v w p q = (one p q, refl)

pub block_asked_one : OneAnswer 0 block-asked-kinds.ps block-asked-kinds.r block-asked.Post
block_asked_one κs a x y v w p q = (one p q, refl)

pub d_of_one : OneAnswer 0 d-of-kinds.ps d-of-kinds.r d-of.Post
d_of_one κs a x y v w p q = (one p q, refl)

pub blocks_length_one : OneAnswer 0 blocks-length-kinds.ps blocks-length-kinds.r blocks-length.Post
blocks_length_one κs a x y v w p q = (one p q, refl)

pub mac_length_one : OneAnswer 0 mac-length-kinds.ps mac-length-kinds.r mac_length_lem.Post
mac_length_one κs a x y v w p q = (one p q, refl)

pub iam3_mac_at_one : OneAnswer 0 iam3-mac-at-kinds.ps iam3-mac-at-kinds.r iam3-mac-at.Post
iam3_mac_at_one κs a x y v w p q = (one p q, refl)

pub iam3_length_one : OneAnswer 0 iam3-length-kinds.ps iam3-length-kinds.r iam3_length_lem.Post
iam3_length_one κs a x y v w p q = (one p q, refl)

pub tam2_mac_at_one : OneAnswer 0 tam2-mac-at-kinds.ps tam2-mac-at-kinds.r tam2-mac-at.Post
tam2_mac_at_one κs a x y v w p q = (one p q, refl)

pub tam2_reply_length_one : OneAnswer 0 tam2-reply-length-kinds.ps tam2-reply-length-kinds.r tam2-reply-length.Post
tam2_reply_length_one κs a x y v w p q = (one p q, refl)

pub length_fits_one : OneAnswer 1 length-fits-kinds.ps length-fits-kinds.r length-fits.Post
length_fits_one κs a x y v w p q = (one p q, refl)

pub tam1_of_one : OneAnswer 1 tam1-of-kinds.ps tam1-of-kinds.r tam1-of.Post
tam1_of_one κs a x y v w p q = (one p q, refl)

pub tam2_of_one : OneAnswer 1 tam2-of-kinds.ps tam2-of-kinds.r tam2-of.Post
tam2_of_one κs a x y v w p q = (one p q, refl)

pub iam1_of_one : OneAnswer 1 iam1-of-kinds.ps iam1-of-kinds.r iam1-of.Post
iam1_of_one κs a x y v w p q = (one p q, refl)

pub iam2_of_one : OneAnswer 1 iam2-of-kinds.ps iam2-of-kinds.r iam2-of.Post
iam2_of_one κs a x y v w p q = (one p q, refl)

pub iam3_of_one : OneAnswer 1 iam3-of-kinds.ps iam3-of-kinds.r iam3-of.Post
iam3_of_one κs a x y v w p q = (one p q, refl)

pub mam1_of_one : OneAnswer 1 mam1-of-kinds.ps mam1-of-kinds.r mam1-of.Post
mam1_of_one κs a x y v w p q = (one p q, refl)

pub mam2_of_one : OneAnswer 1 mam2-of-kinds.ps mam2-of-kinds.r mam2-of.Post
mam2_of_one κs a x y v w p q = (one p q, refl)

pub prot_mode_one : OneAnswer 0 prot-mode-kinds.ps prot-mode-kinds.r prot-mode.Post
prot_mode_one κs a x y v w p q = (one p q, refl)

pub encrypts_one : OneAnswer 0 encrypts-kinds.ps encrypts-kinds.r encrypts.Post
encrypts_one κs a x y v w p q = (one p q, refl)

pub has_mac_one : OneAnswer 0 has-mac-kinds.ps has-mac-kinds.r has-mac.Post
has_mac_one κs a x y v w p q = (one p q, refl)

pub tam1_constant_one : OneAnswer 0 tam1-constant-kinds.ps tam1-constant-kinds.r tam1-constant.Post
tam1_constant_one κs a x y v w p q = (one p q, refl)

pub tam2_constant_one : OneAnswer 0 tam2-constant-kinds.ps tam2-constant-kinds.r tam2-constant.Post
tam2_constant_one κs a x y v w p q = (one p q, refl)

pub mam1_constant_one : OneAnswer 0 mam1-constant-kinds.ps mam1-constant-kinds.r mam1-constant.Post
mam1_constant_one κs a x y v w p q = (one p q, refl)

pub mam2_constant_one : OneAnswer 0 mam2-constant-kinds.ps mam2-constant-kinds.r mam2-constant.Post
mam2_constant_one κs a x y v w p q = (one p q, refl)

pub iam2_constant_one : OneAnswer 0 iam2-constant-kinds.ps iam2-constant-kinds.r iam2-constant.Post
iam2_constant_one κs a x y v w p q = (one p q, refl)

pub iam3_constant_one : OneAnswer 0 iam3-constant-kinds.ps iam3-constant-kinds.r iam3-constant.Post
iam3_constant_one κs a x y v w p q = (one p q, refl)

pub tam1_into_one : OneAnswer 1 tam1-into-kinds.ps tam1-into-kinds.r tam1-into.Post
tam1_into_one κs a x y v w p q = let e = one_built _ _ _ _ _ _ _ _ p q in (e.0, refl & e.1 & refl)

pub tam2_into_one : OneAnswer 1 tam2-into-kinds.ps tam2-into-kinds.r tam2-into.Post
tam2_into_one κs a x y v w p q = let e = one_built _ _ _ _ _ _ _ _ p q in (e.0, refl & e.1 & refl)

pub iam1_into_one : OneAnswer 1 iam1-into-kinds.ps iam1-into-kinds.r iam1-into.Post
iam1_into_one κs a x y v w p q = let e = one_built _ _ _ _ _ _ _ _ p q in (e.0, refl & e.1 & refl)

pub iam2_into_one : OneAnswer 1 iam2-into-kinds.ps iam2-into-kinds.r iam2-into.Post
iam2_into_one κs a x y v w p q = let e = one_built _ _ _ _ _ _ _ _ p q in (e.0, refl & e.1 & refl)

pub iam3_into_one : OneAnswer 1 iam3-into-kinds.ps iam3-into-kinds.r iam3-into.Post
iam3_into_one κs a x y v w p q = let e = one_built _ _ _ _ _ _ _ _ p q in (e.0, refl & e.1 & refl)

pub mam1_into_one : OneAnswer 1 mam1-into-kinds.ps mam1-into-kinds.r mam1-into.Post
mam1_into_one κs a x y v w p q = let e = one_built _ _ _ _ _ _ _ _ p q in (e.0, refl & e.1 & refl)

pub mam2_into_one : OneAnswer 1 mam2-into-kinds.ps mam2-into-kinds.r mam2-into.Post
mam2_into_one κs a x y v w p q = let e = one_built _ _ _ _ _ _ _ _ p q in (e.0, refl & e.1 & refl)

pub header_into_one : OneAnswer 1 header-into-kinds.ps header-into-kinds.r header-into.Post
header_into_one κs a x y v w p q = let e = one_built _ _ _ _ _ _ _ _ p q in (e.0, refl & e.1 & refl)

-- the crate's own: parts into a room
pub join_one : OneAnswer 4 join-kinds.ps join-kinds.r join.Post
join_one κs a x y v w p q = let e = one_built _ _ _ _ _ _ _ _ p q in (e.0, e.1 & refl)
