-- `entry::opened::first_opened` meets its contract.
use mathlib.Core.Path.{ap, ◌∙◌}
use Prim.Native.Nat.{◌≤◌}
use lib.ListN.{length}
use native.Mathlib.Omega.{arith}
use Rattle.aes.specs.AesEnc.{aes_enc}
use Rattle.entry.proofs.Sent.{first_sent}
use Rattle.entry.proofs.opened.first_opened.Goals as goal

pub returns : goal.returns
returns c =
    let long : 20 ≤ length c.args.sent.now.m.now = omega (arith, c.args.sent.now.whole) in
    c.encrypt.ensures ∙ ap (aes_enc c.args.key.enc) (c.first_block.ensures ∙ first_sent c.args.sent.now.m.now long)
