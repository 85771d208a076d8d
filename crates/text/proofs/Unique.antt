-- No second answer fits the contract of an exported function: its answer, and what the room holds afterwards.
use mathlib.Core.Path.{refl}
use Rattle.ground.specs.OneAnswer.{OneAnswer, one, ◌&◌}
use Rattle.text.proofs.read_hex.Reads as read-hex
use Rattle.text.proofs.read_hex.Kinds as read-hex-kinds
use Rattle.text.proofs.write_hex.Reads as write-hex
use Rattle.text.proofs.write_hex.Kinds as write-hex-kinds
use Rattle.text.proofs.read_decimal.Reads as read-decimal
use Rattle.text.proofs.read_decimal.Kinds as read-decimal-kinds
use Rattle.text.proofs.write_decimal.Reads as write-decimal
use Rattle.text.proofs.write_decimal.Kinds as write-decimal-kinds

pub read_hex_one : OneAnswer 2 read-hex-kinds.ps read-hex-kinds.r read-hex.Post
read_hex_one κs a x y v w p q = (one p.says q.says, refl & one p.holds q.holds & refl)

pub write_hex_one : OneAnswer 2 write-hex-kinds.ps write-hex-kinds.r write-hex.Post
write_hex_one κs a x y v w p q = (one p.says q.says, refl & one p.holds q.holds & refl)

pub read_decimal_one : OneAnswer 1 read-decimal-kinds.ps read-decimal-kinds.r read-decimal.Post
read_decimal_one κs a x y v w p q = (one p q, refl)

pub write_decimal_one : OneAnswer 1 write-decimal-kinds.ps write-decimal-kinds.r write-decimal.Post
write_decimal_one κs a x y v w p q = (one p.says q.says, refl & one p.holds q.holds & refl)
