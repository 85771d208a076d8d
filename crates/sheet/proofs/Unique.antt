-- No second answer fits the contract of an exported function, as the checker reads it from the source.
use mathlib.Core.Path.{refl}
use Rattle.ground.specs.OneAnswer.{OneAnswer, OneLent, one}
use Rattle.sheet.proofs.U8FromSheetFault.from.Reads as fault-number
use Rattle.sheet.proofs.U8FromSheetFault.from.Kinds as fault-number-kinds
use Rattle.sheet.proofs.number.Reads as number
use Rattle.sheet.proofs.number.Kinds as number-kinds
use Rattle.sheet.proofs.start.Reads as start
use Rattle.sheet.proofs.start.Kinds as start-kinds
use Rattle.sheet.proofs.judge.Reads as judge
use Rattle.sheet.proofs.judge.Kinds as judge-kinds
use Rattle.sheet.proofs.places.judge_at.Reads as judge-at
use Rattle.sheet.proofs.places.judge_at.Kinds as judge-at-kinds
use Rattle.sheet.proofs.places.read_from.Reads as read-from
use Rattle.sheet.proofs.places.read_from.Kinds as read-from-kinds
use Rattle.sheet.proofs.read.Reads as read
use Rattle.sheet.proofs.read.Kinds as read-kinds
use Rattle.sheet.proofs.key_table.Reads as key-table
use Rattle.sheet.proofs.key_table.Kinds as key-table-kinds
use Rattle.sheet.proofs.bodies.features_of.Reads as features-of
use Rattle.sheet.proofs.bodies.features_of.Kinds as features-of-kinds
use Rattle.sheet.proofs.bodies.sizes_of.Reads as sizes-of
use Rattle.sheet.proofs.bodies.sizes_of.Kinds as sizes-of-kinds
use Rattle.sheet.proofs.bodies.slot_of.Reads as slot_of
use Rattle.sheet.proofs.bodies.slot_of.Kinds as slot-of-kinds
use Rattle.sheet.proofs.bodies.lock_of.Reads as lock-of
use Rattle.sheet.proofs.bodies.lock_of.Kinds as lock-of-kinds

pub fault_number_one : OneAnswer 0 fault-number-kinds.ps fault-number-kinds.r fault-number.Post
fault_number_one κs a x y v w p q = (one p q, refl)

pub number_one : OneAnswer 0 number-kinds.ps number-kinds.r number.Post
number_one κs a x y v w p q = (one p q, refl)

pub start_one : OneAnswer 0 start-kinds.ps start-kinds.r start.Post
start_one κs a x y v w p q = (one p q, refl)

pub judge_one : OneAnswer 1 judge-kinds.ps judge-kinds.r judge.Post
judge_one κs a x y v w p q = (one p.0 q.0, refl)

pub read_one : OneAnswer 1 read-kinds.ps read-kinds.r read.Post
read_one κs a x y v w p q = (one p.0 q.0, refl)

pub judge_at_one : OneAnswer 1 judge-at-kinds.ps judge-at-kinds.r judge-at.Post
judge_at_one κs a x y v w p q = (one p.0 q.0, refl)

pub read_from_one : OneAnswer 1 read-from-kinds.ps read-from-kinds.r read-from.Post
read_from_one κs a x y v w p q = (one p.0 q.0, refl)

pub key_table_one : OneLent 1 key-table-kinds.ps 0 tt key-table.Post
key_table_one κs a x y v w p q = (one p q, refl)

pub features_of_one : OneAnswer 1 features-of-kinds.ps features-of-kinds.r features-of.Post
features_of_one κs a x y v w p q = (one p q, refl)

pub sizes_of_one : OneAnswer 1 sizes-of-kinds.ps sizes-of-kinds.r sizes-of.Post
sizes_of_one κs a x y v w p q = (one p q, refl)

pub slot_of_one : OneAnswer 1 slot-of-kinds.ps slot-of-kinds.r slot_of.Post
slot_of_one κs a x y v w p q = (one p q, refl)

pub lock_of_one : OneAnswer 1 lock-of-kinds.ps lock-of-kinds.r lock-of.Post
lock_of_one κs a x y v w p q = (one p q, refl)
