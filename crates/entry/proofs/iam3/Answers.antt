-- `entry::iam3` meets its contract.
use Rattle.entry.proofs.Giving.{iam3_refused, iam3_whole_lem, iam3_settled}
use mathlib.Core.Path.{refl}
use Rattle.entry.proofs.Sent.{data_most}
use Rattle.sheet.specs.Setups.{setup_of}
use Rattle.entry.proofs.iam3.Goals as goal

pub returns-in-Err : goal.returns-in-Err
returns-in-Err c =
    iam3_refused (setup_of c.args.terms c.args.keys.now) c.args.held c.args.message.now _ c.key_held-key.ensures _
    c.iam3_fields.ensures
    c.args.identity.now c.args.user.now _ _ c.in-Err.is c.refused.ensures

pub invariant_of-iam3 : goal.invariant_of-iam3
invariant_of-iam3 c =
    let fields = c.iam3_of-f.ensures in
    record {
      whole = iam3_whole_lem c.args.terms _ c.args.message.now _ _ c.iam3_fields.ensures c.in_default.is fields;
      in_room = data_most _ c.args.message.now (λ i. (c.type_inv.message i).fits) fields _ refl;
    }

pub returns : goal.returns
returns c =
    iam3_settled (setup_of c.args.terms c.args.keys.now) c.args.held c.args.message.now _ c.key_held-key.ensures _
    c.iam3_fields.ensures
    c.args.identity.now c.args.user.now _ c.iam3_of-f.ensures _ c.words_asked-block.ensures _ _ _
    c.in_default.is c.iam3.ensures
