-- The fields of a line by the number of its words.
use Rattle.std.specs.Prelude.{ℕ, ltb, if◌then◌else◌, Result, Ok, Err}
use Rattle.console.specs.declared.reason.Reason.TheVariants.{WordMissing, WordTooMany}
use Rattle.console.specs.declared.reason.Reason.{Reason}
use Rattle.console.specs.declared.words.Words.{Words}
use Rattle.console.specs.declared.fields.Fields.{Fields}

abbrev pub fields_of : Words → Fields
fields_of w = record { words = w }

-- n words, of which there must be at least and at most so many.
abbrev pub counted : ℕ → ℕ → ℕ → Fields → Result Fields Reason
counted n least most f =
    if ltb n least then Err WordMissing else (if ltb most n then Err WordTooMany else Ok f)
