-- Laws of sizes divided by the chunk size, rounded up: over the chunk size.
-- Assumes nothing.
use mathlib.Core.Path.{◌≡◌}
use Prim.Native.Nat.{ℕ, suc, ◌+◌, ◌-◌, ◌*◌, ◌/◌, ◌%◌, ◌≤◌, ◌<◌}
use native.Mathlib.Nat.{le-div_iff_mul-le, div-lt_iff_lt-mul, le-mul_of_pos_right, suc-mul}
use native.Mathlib.Numerals.{add-one}
use native.Mathlib.Omega.{arith}
use Rattle.words.proofs.Multiples.{parts, chunk_of}
use Rattle.volume.specs.Sound.{round_up}

module _ (S z i : ℕ) (pos : 0 < S) where
  -- chunk i starts below the size: it is one of the chunks
  pub up_lt : i * S < z → i < round_up S z
  unfolding round_up
  up_lt h = (le-div_iff_mul-le pos).1 (rw (suc-mul i S) (omega arith))

  -- chunk i starts at or above the size: it is none of them
  pub up-ge : z ≤ i * S → round_up S z ≤ i
  unfolding round_up
  up-ge h = omega (arith, (div-lt_iff_lt-mul {x = z + (S - 1)} {y = suc i} pos).1 (rw (suc-mul i S) (omega arith)))

  pub lt_up : i < round_up S z → i * S < z
  unfolding round_up
  lt_up h = omega (arith, (le-div_iff_mul-le {y = z + (S - 1)} pos).0 h, suc-mul i S)

-- a file has at most a chunk for each byte
pub up_le : (S z : ℕ) → 0 < S → round_up S z ≤ z
up_le S z pos = up-ge S z z pos (le-mul_of_pos_right z pos)

-- by the rest: rounded up is one more than rounded down, unless there is none
pub up-even : (S z : ℕ) → 0 < S → z % S ≡ 0 → round_up S z ≡ z / S
unfolding round_up
up-even S z pos e = let q = parts pos z in chunk_of S (z / S) (z + (S - 1)) (omega arith) (omega arith)

pub up-odd : (S z : ℕ) → 0 < S → (z % S ≡ 0 → ⊥) → round_up S z ≡ z / S + 1
unfolding round_up
up-odd S z pos odd =
    let q = parts pos z in
    let m : (z / S + 1) * S ≡ z / S * S + S = rw add-one (suc-mul (z / S) S) in
    chunk_of S (z / S + 1) (z + (S - 1)) (omega arith) (omega arith)

-- rounded down is no more
pub div-up : (S z : ℕ) → 0 < S → z / S ≤ round_up S z
unfolding round_up
div-up S z pos = let q = parts pos z in (le-div_iff_mul-le pos).1 (omega arith)
