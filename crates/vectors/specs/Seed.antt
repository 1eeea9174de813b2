-- Inner: the bytes that a seed makes.
-- Assumes nothing.
use Rattle.std.specs.Prelude.{ℕ, zero, suc, ◌+◌, ◌%◌, List, [], ◌∷◌}

-- so many from a value on: each is one more than its value, and the next value is 7 further, mod 251
unfoldable pub seeded : ℕ → ℕ → List ℕ
seeded v zero = []
seeded v (suc n) = (v + 1) ∷ seeded ((v + 7) % 251) n
