-- What `digit` gives of a byte below all digits.
-- Assumes nothing.
use mathlib.Core.Path.{◌≡◌}
use Prim.Native.Nat.{ℕ, ◌<◌}
use borrow.Author.Tests.{lt-ltb}
use Rattle.vectors.specs.Scan.{digit}

module _ (b : ℕ) where
  pub below_all : b < 48 → 16 ≡ digit b
  unfolding digit
  below_all h = rw (lt-ltb b 48 h)
