-- `keytable::key_of` meets its contract.
use mathlib.Core.Path.{◌∙◌}
use native.Mathlib.Omega.{arith}
use Rattle.octets.proofs.Parts.{bytes_within}
use Rattle.sheet.specs.Records.{key_of}
use Rattle.keytable.proofs.key_of.Goals as goal

pub returns : goal.returns
unfolding key_of
returns c = let b = c.args.b.now in
    let enc = c.bytes_at-enc.ensures ∙ bytes_within b 16 4 (omega arith) in
    let mackey = c.bytes_at-mackey.ensures ∙ bytes_within b 16 20 (omega arith) in
    rw (c.word_at.ensures, enc, mackey)
