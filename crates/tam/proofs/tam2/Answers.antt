-- `tam::tam2` meets its contract.
use mathlib.Core.Path.{ap, ◌∙◌}
use Rattle.frames.specs.declared.Tam2.{Tam2}
use Rattle.frames.specs.Fields.{custom_fits}
use Rattle.tam.proofs.Tam2Asked.{tam2_custom_fits, words_fit}
use Rattle.tam.proofs.tam2.Goals as goal

pub tam2_reply-length-requires : goal.tam2_reply-length-requires
tam2_reply-length-requires c =
    let f = c.tam2_of-f.result in
    let fit = tam2_custom_fits c.args.message.now (λ i. (c.type_inv.message i).fits) in (
      ap (λ (g : Tam2). custom_fits g.custom) c.tam2_of-f.ensures ∙ fit,
      words_fit c.args.terms.profiles f.custom c.args.identity.now c.args.user.now c.words_asked.ensures
          c.window-words.ensures,
    )
