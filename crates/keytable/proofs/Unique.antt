-- No second answer fits the contract of an exported function, as the checker reads it from the source.
use mathlib.Core.Path.{◌≡◌, refl, ap}
use Rattle.std.specs.Prelude.{Option, Some, None, is_some, unwrap_or}
use Rattle.ground.specs.OneAnswer.{OneAnswer, one}
use Rattle.sheet.specs.declared.Key.{Key}
use Rattle.keytable.specs.Named.{no_key}
use Rattle.keytable.proofs.find.Reads as find
use Rattle.keytable.proofs.find.Kinds as find-kinds
use Rattle.keytable.proofs.no_key.Reads as no_key_read
use Rattle.keytable.proofs.no_key.Kinds as no_key-kinds

-- what is there, and what stands for it where it is not, are the whole answer
one_found : (v w : Option Key) → is_some v ≡ is_some w → unwrap_or v no_key ≡ unwrap_or w no_key → v ≡ w
one_found None None e f = refl
one_found None (Some k) e f = cc
one_found (Some k) None e f = cc
one_found (Some k) (Some l) e f = ap Some f

pub find_one : OneAnswer 1 find-kinds.ps find-kinds.r find.Post
find_one κs a x y v w p q = (one_found x y (one p.0 q.0) (one p.1 q.1), refl)

pub no_key_one : OneAnswer 0 no_key-kinds.ps no_key-kinds.r no_key_read.Post
no_key_one κs a x y v w p q = (one p q, refl)
