-- `text::write_decimal` meets its contract.
use Rattle.text.proofs.Rooms.{as_word}
use Rattle.text.proofs.Decimals.{five_word}
use Rattle.text.proofs.write_decimal.Goals as goal

pub returns : goal.returns
returns c = let a = c.args in
    let five = c.five-digits in
    let zeros = c.zeros-zeros in
    as_word _ _ a.room.now _ _ (five_word a.number zeros.result five.result five.ensures
    zeros.ensures.1) c.write.ensures
