-- Bytes from a place on.
use Rattle.std.specs.Prelude.{ℕ, zero, suc, List, [], ◌∷◌}
use Rattle.ground.specs.Bytes.{byte_at}

-- n bytes from place i on, zeros past the end
unfoldable pub bytes_from : List ℕ → ℕ → ℕ → List ℕ
bytes_from s i zero = []
bytes_from s i (suc n) = byte_at s i ∷ bytes_from s (suc i) n
