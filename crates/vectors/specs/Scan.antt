-- Inner: text of numbers: lower-case hexadecimal digits, and between two numbers any other bytes.
-- Assumes nothing.
use Rattle.std.specs.Prelude.{ℕ, zero, suc, ◌+◌, ◌-◌, ◌*◌, ◌%◌, Bool, cond, List, [], ◌∷◌, ltb, length, drop}

-- the value of a digit, and 16 for a byte that is none
unfoldable pub digit : ℕ → ℕ
digit b = cond (ltb b 48) 16 (cond (ltb b 58) (b - 48) (cond (ltb b 97) 16 (cond (ltb b 103) (b - 87) 16)))

abbrev pub is_digit : ℕ → Bool
is_digit b = ltb (digit b) 16

-- the bytes from the first digit on
unfoldable pub from_digit : List ℕ → List ℕ
from_digit [] = []
from_digit (b ∷ bs) = cond (ltb (digit b) 16) (b ∷ bs) (from_digit bs)

-- the bytes behind the digits that stand in front
unfoldable pub past_digits : List ℕ → List ℕ
past_digits [] = []
past_digits (b ∷ bs) = cond (ltb (digit b) 16) (past_digits bs) (b ∷ bs)

-- the number that the digits in front spell, behind those of x
unfoldable pub spelled : ℕ → List ℕ → ℕ
spelled x [] = x
spelled x (b ∷ bs) = cond (ltb (digit b) 16) (spelled (x * 16 + digit b) bs) x

-- what a u64 holds of a number
abbrev pub held : ℕ → ℕ
held x = x % 18446744073709551616

-- the first number at or after an index
unfoldable pub number_at : List ℕ → ℕ → ℕ
number_at text at = held (spelled 0 (from_digit (drop at text)))

-- the index behind its digits
unfoldable pub next_at : List ℕ → ℕ → ℕ
next_at text at = length text - length (past_digits (from_digit (drop at text)))

-- the first n numbers at or after an index
unfoldable pub numbers_at : List ℕ → ℕ → ℕ → List ℕ
numbers_at text at zero = []
numbers_at text at (suc n) = number_at text at ∷ numbers_at text (next_at text at) n

-- the index behind them
unfoldable pub after_at : List ℕ → ℕ → ℕ → ℕ
after_at text at zero = at
after_at text at (suc n) = after_at text (next_at text at) n
