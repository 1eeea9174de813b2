-- Believed: the chunk sizes accepted, and the one taken where none is stored.
-- Assumes nothing.
use Rattle.std.specs.Prelude.{ℕ, Bool, eqb, leb}
use Rattle.std.specs.Int.Count.{ones, count_trailing_zeros}
use Rattle.words.specs.Rules.{both}

abbrev pub least_shift : ℕ
least_shift = 12

abbrev pub most_shift : ℕ
most_shift = 16

-- those with one bit set and 12 to 16 trailing zeros
unfoldable pub accepted_size : ℕ → Bool
accepted_size s = both (eqb (ones s) 1) (both (leb least_shift (count_trailing_zeros 64 s)) (leb (count_trailing_zeros 64 s) most_shift))

abbrev pub default_size : ℕ
default_size = 16384
