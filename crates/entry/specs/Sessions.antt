-- What a tag holds from one message to the next: clause 8, and the scope paper, "States".
use Rattle.std.specs.Prelude.{replicate}
use Rattle.entry.specs.declared.State.{State}
use Rattle.entry.specs.declared.State.TheVariants.{Initial, IaOk}
use Rattle.entry.specs.declared.Session.{Session}

-- Clause 8: a state in which nothing is held.
abbrev pub nothing_held : State → Session
nothing_held state = record { state = state; keyid = 0; tchallenge = replicate 10 0; ichallenge = replicate 4 0 }

-- Entering Initial clears every held value.
unfoldable pub cleared : Session
cleared = nothing_held Initial

-- Entering IA-OK no challenge and no KeyID is of use any more.
unfoldable pub entered : Session
entered = nothing_held IaOk
