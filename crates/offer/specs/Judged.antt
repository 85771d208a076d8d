-- What is judged before a message's kind counts, and of the messages that open: in the order of the clauses and of the
-- scope paper.
use Rattle.std.specs.Prelude.{ℕ, ◌*◌, List, [], ◌∷◌, eqb, leb}
use Rattle.ground.specs.Checks.{Check, ◌else◌}
use Rattle.sheet.specs.declared.Sizes.{Sizes}
use Rattle.sheet.specs.declared.Key.{Key}
use Rattle.frames.specs.declared.Kind.{Kind}
use Rattle.frames.specs.Lengths.{length_fits, reply_room}
use Rattle.offer.specs.declared.TagFault.{TagFault}
use Rattle.offer.specs.declared.TagFault.TheVariants.{OtherError, NotSupported, BenchFault}
use Rattle.keytable.specs.Named.{has_key}

-- The draws each call brings.
abbrev pub draw_bytes : ℕ
draw_bytes = 10

-- Number 7: the bench itself must be right. The areas have two bytes a word.
unfoldable pub lending_checks : Sizes → ℕ → ℕ → ℕ → ℕ → List (Check TagFault)
lending_checks sizes draws room identity user =
    (eqb draws draw_bytes else BenchFault)
    ∷ (leb reply_room room else BenchFault)
    ∷ (eqb identity (sizes.identity * 2) else BenchFault)
    ∷ (eqb user (sizes.user * 2) else BenchFault)
    ∷ []

-- TAM1 (9.4.2), IAM1 (9.5.2), MAM1 (9.6.2): length, RFU, key.
unfoldable pub opening_checks : Kind → ℕ → ℕ → List Key → List ℕ → List (Check TagFault)
opening_checks kind rfu keyid keys m =
    (length_fits kind m else OtherError)
    ∷ (eqb rfu 0 else NotSupported)
    ∷ (has_key keyid keys else NotSupported)
    ∷ []
