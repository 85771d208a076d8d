-- What a call answered, and what a test found of the answer.
use mathlib.Core.Path.{◌≡◌, sym, ◌∙◌}
use mathlib.Core.Bool.{Bool, true, false, not}
use borrow.Author.Tests.{not-true, not-false}

pub said : {r b v : Bool} → r ≡ b → r ≡ v → b ≡ v
said e t = sym e ∙ t

pub yes : {r b : Bool} → r ≡ b → not r ≡ false → b ≡ true
yes {r} e t = sym e ∙ not-false r t

pub no : {r b : Bool} → r ≡ b → not r ≡ true → b ≡ false
no {r} e t = sym e ∙ not-true r t
