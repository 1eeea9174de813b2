-- Believed: which geometry a memory of so many bytes can have: N, E and C are 1 to 4,096, and the length is at least 65,728 + 40N + 280E + 32C.
-- Assumes nothing.
use Rattle.std.specs.Prelude.{ℕ, ◌+◌, Bool, leb}
use Rattle.words.specs.Rules.{both}
use Rattle.types.specs.Sizes.{most_rows, least_area}
use Rattle.volume.specs.Volume.{at_bytes}

unfoldable pub roomy : ℕ → Bool
roomy n = both (leb 1 n) (leb n most_rows)

unfoldable pub placed : ℕ → ℕ → ℕ → ℕ → Bool
placed n e c size = both (roomy n) (both (roomy e) (both (roomy c) (leb (at_bytes n e c + least_area) size)))
