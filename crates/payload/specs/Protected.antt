-- What a ProtMode does to custom data (Table 3).
use Rattle.std.specs.Prelude.{ℕ, Bool, List, [], ◌++◌, length}
use Rattle.ground.specs.Choice.{pick, both, implies}
use Rattle.modes.specs.Cmac.{mac_bytes, cmac96}
use Rattle.modes.specs.Room.{macs}
use Rattle.frames.specs.Modes.{has_mac}
use Rattle.frames.specs.declared.ProtMode.{ProtMode}
use Rattle.octets.specs.Alike.{same}

-- 3.1.13: n bytes go out under the ProtMode. A MAC is of whole blocks, at least one; without a MAC nothing is asked.
unfoldable pub mac_takes : ProtMode → ℕ → Bool
mac_takes mode n = implies (has_mac mode) (macs n mac_bytes)

-- 9.4.6, 9.5.8: s as it is sent, and behind it, where the ProtMode has one, its MAC.
unfoldable pub with_mac : List ℕ → ProtMode → List ℕ → List ℕ
with_mac mackey mode s = s ++ pick (has_mac mode) (cmac96 mackey s) []

-- 9.4.7, 9.5.8.4, 9.5.8.5: where the ProtMode has a MAC, what came as the MAC is that of the bytes it covers, which are
-- whole blocks, at least one.
unfoldable pub mac_fits : List ℕ → ProtMode → List ℕ → List ℕ → Bool
mac_fits mackey mode covered mac = implies (has_mac mode)
    (both (macs (length covered) mac_bytes) (same (cmac96 mackey covered) mac))
