-- What is left of an image into which a sheet is laid: one that is refused changes nothing.
use Rattle.sheet.specs.declared.SheetRefusal.{SheetRefusal}
use Rattle.std.specs.Prelude.{◌≡◌, Bool, true, false, List, ℕ, length, Result, Ok, Err}
use Rattle.ground.specs.Choice.{pick}
use Rattle.sheet.specs.KeyTable.{key_table}
use Rattle.sheet.specs.Limits.{key_limit}
use Rattle.sheet.specs.Sheet.{read_of, verdict_of, terms_read, keys_read}
use Rattle.entry.specs.declared.Session.{Session}
use Rattle.entry.specs.Sessions.{cleared}
use Rattle.image.specs.Image.{image_of, rests}

abbrev pub accepts : Result Unit SheetRefusal → Bool
accepts (Ok tt) = true
accepts (Err x) = false

-- the image of a sheet's tag, with this session
abbrev pub sheet_image : Session → List ℕ → List ℕ
sheet_image s sheet =
    image_of s (terms_read (read_of key_limit sheet)) (key_table sheet (keys_read (read_of key_limit sheet)))

pub record Laid (sheet image : List ℕ) (r : Result Unit SheetRefusal) (after : List ℕ) : Type 0 where
  pub verdict : r ≡ verdict_of (read_of key_limit sheet)
  pub holds : after ≡ pick (accepts (verdict_of (read_of key_limit sheet))) (sheet_image cleared sheet) image

-- A session that an image can hold: its challenges have 80 and 32 bits, and at rest nothing is held.
pub record Fits (s : Session) : Type 0 where
  pub tchallenge : length s.tchallenge ≡ 10
  pub ichallenge : length s.ichallenge ≡ 4
  pub rest : rests s ≡ true
