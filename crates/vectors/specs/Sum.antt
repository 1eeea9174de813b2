-- Inner: the checksum Adler-32: the sum of the bytes, and the sum of those sums, modulo 65521.
-- Assumes nothing.
use Rattle.std.specs.Prelude.{ℕ, ◌+◌, ◌*◌, ◌%◌, List, [], ◌∷◌}

-- the checksum of bytes behind others whose two sums are low and high
unfoldable pub summed : ℕ → ℕ → List ℕ → ℕ
summed low high [] = high * 65536 + low
summed low high (b ∷ bs) = summed ((low + b) % 65521) ((high + (low + b) % 65521) % 65521) bs

unfoldable pub checksum : List ℕ → ℕ
checksum bs = summed 1 0 bs
