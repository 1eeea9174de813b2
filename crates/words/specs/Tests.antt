-- Inner: what loops over numbers, bytes and rows find: how many numbers pass a test, whether all bytes are zero, how byte strings are ordered, whether rows pass a test up to one place.
-- Assumes nothing.
use Rattle.std.specs.Prelude.{◌≡◌, ℕ, zero, suc, ◌+◌, ◌^◌, Bool, true, false, List, [], ◌∷◌, eqb, length}
use Rattle.words.specs.Bytes.{little_endian}
use Rattle.words.specs.Rules.{both, bit}
use Rattle.words.specs.Tables.{Each}

-- how many numbers below n pass f
unfoldable pub tally : ℕ → (ℕ → Bool) → ℕ
tally zero f = 0
tally (suc n) f = tally n f + bit (f n)

-- every byte is zero
unfoldable pub all_zero : List ℕ → Bool
all_zero [] = true
all_zero (b ∷ bs) = both (eqb b 0) (all_zero bs)

-- the number by which byte strings are ordered: shorter ones first, those of one length by the numbers that they spell
unfoldable pub rank : List ℕ → ℕ
rank bs = 256 ^ length bs + little_endian bs

-- once a row fails the test, all behind it fail
unfoldable pub Falls : {R : Type 0} → (R → Bool) → List R → Type 0
unfolding Each
Falls f [] = Unit {0}
Falls f (r ∷ rs) = (f r ≡ false → Each (λ s. f s ≡ false) rs) × Falls f rs
