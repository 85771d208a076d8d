-- No second answer fits the contracts of the exported functions.
use mathlib.Core.Path.{refl}
use Rattle.ground.specs.OneAnswer.{OneAnswer, OneLent, one, ◌&◌}
use Rattle.image.proofs.read.session.Reads as session
use Rattle.image.proofs.read.session.Kinds as session-kinds
use Rattle.image.proofs.read.sizes.Reads as sizes
use Rattle.image.proofs.read.sizes.Kinds as sizes-kinds
use Rattle.image.proofs.read.terms.Reads as terms
use Rattle.image.proofs.read.terms.Kinds as terms-kinds
use Rattle.image.proofs.read.key_table.Reads as key-table
use Rattle.image.proofs.read.key_table.Kinds as key-table-kinds
use Rattle.image.proofs.read.is_tag.Reads as is-tag
use Rattle.image.proofs.read.is_tag.Kinds as is-tag-kinds
use Rattle.image.proofs.write.keep.Reads as keep
use Rattle.image.proofs.write.keep.Kinds as keep-kinds
use Rattle.image.proofs.lay.Reads as lay
use Rattle.image.proofs.lay.Kinds as lay-kinds

pub session_one : OneAnswer 1 session-kinds.ps session-kinds.r session.Post
session_one κs a x y v w p q = (one p q, refl)

pub sizes_one : OneAnswer 1 sizes-kinds.ps sizes-kinds.r sizes.Post
sizes_one κs a x y v w p q = (one p q, refl)

pub terms_one : OneAnswer 1 terms-kinds.ps terms-kinds.r terms.Post
terms_one κs a x y v w p q = (one p q, refl)

pub key_table_one : OneLent 1 key-table-kinds.ps 0 tt key-table.Post
key_table_one κs a x y v w p q = (one p q, refl)

pub is_tag_one : OneAnswer 1 is-tag-kinds.ps is-tag-kinds.r is-tag.Post
is_tag_one κs a x y v w p q = (one p q, refl)

pub keep_one : OneAnswer 1 keep-kinds.ps keep-kinds.r keep.Post
keep_one κs a x y v w p q = (refl, one p q & refl)

pub lay_one : OneAnswer 2 lay-kinds.ps lay-kinds.r lay.Post
lay_one κs a x y v w p q = (one p.verdict q.verdict, refl & one p.holds q.holds & refl)
