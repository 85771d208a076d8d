-- What TAM1 and TAM2 come to: what is judged of the message, and what is sent where nothing is refused.
use Rattle.std.specs.Prelude.{ℕ, List, length, replicate, Result}
use Rattle.offer.specs.declared.TagFault.{TagFault}
use Rattle.modes.specs.Room.{over}
use Rattle.memory.specs.Areas.{window_of}
use Rattle.sheet.specs.declared.Key.{Key}
use Rattle.sheet.specs.Setups.{Setup}
use Rattle.frames.specs.declared.Kind.TheVariants.{Tam1}
use Rattle.frames.specs.Lengths.{reply_room}
use Rattle.frames.specs.Messages.{tam1_of, tam2_of}
use Rattle.offer.specs.Checks.{judged}
use Rattle.offer.specs.Judged.{opening_checks}
use Rattle.keytable.specs.Named.{key_with}
use Rattle.offer.specs.Records.{block_asked}
use Rattle.tam.specs.declared.Reply.{Reply}
use Rattle.tam.specs.Judged.{tam2_checks}
use Rattle.tam.specs.Replies.{tam1_reply, tam2_reply}

-- 9.4.2, 9.4.3
abbrev pub tam1_checked : List Key → List ℕ → Result Unit TagFault
tam1_checked keys m = let f = tam1_of m in judged (opening_checks Tam1 f.rfu f.keyid keys m)

abbrev pub tam1_sent : List Key → List ℕ → List ℕ → List ℕ
tam1_sent keys m draws = let f = tam1_of m in tam1_reply (key_with f.keyid keys) f draws

-- 9.4.5, 9.4.6: the words are those of the block that the message names.
abbrev pub tam2_checked : Setup → List ℕ → Result Unit TagFault
tam2_checked setup m = judged (tam2_checks setup m)

abbrev pub tam2_sent : Setup → List ℕ → List ℕ → List ℕ → List ℕ → List ℕ
tam2_sent setup m draws identity user =
    let f = tam2_of m in
    let words = window_of identity user (block_asked setup.profiles f.custom) in
    tam2_reply (key_with f.keyid setup.keys) f words draws

-- A reply in its room: the bytes that are sent, over zeros.
abbrev pub reply_of : List ℕ → Reply
reply_of bytes = record { room = over bytes (replicate reply_room 0); length = length bytes }
