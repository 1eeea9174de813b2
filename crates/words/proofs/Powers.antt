-- A number with one bit set is a power of two, and its exponent is how many zeros stand behind that bit: both ways, over any exponent.
-- Assumes nothing.
use mathlib.Core.Path.{◌≡◌, refl, ap}
use Prim.Native.Nat.{ℕ, zero, suc, ◌*◌, ◌/◌, ◌%◌, ◌^◌, ◌≤◌, ◌<◌}
use native.Mathlib.Nat.{pow-suc}
use native.Mathlib.Omega.{arith}
use lib.Count.{ones, ones_step, count_trailing_zeros, under}

-- ---- from bits to the power

none-set-in : (d x : ℕ) → x ≤ d → ones x ≡ 0 → x ≡ 0
none-set-in zero x h e = omega arith
none-set-in (suc d) x h e =
    let s = ones_step x in
    let z : x / 2 ≡ 0 = none-set-in d (x / 2) (omega arith) (omega arith) in
    omega arith

none-set : (x : ℕ) → ones x ≡ 0 → x ≡ 0
none-set x e = none-set-in x x (omega arith) e

ones-zero : ones 0 ≡ 0
unfolding ones
ones-zero = refl

pub one-positive : (x : ℕ) → ones x ≡ 1 → 0 < x
one-positive zero e = absurd (omega (arith, ones-zero))
one-positive (suc x) e = omega arith

-- the one bit of a number of d digits stands among these
pub bit_below : (d x : ℕ) → x < 2 ^ d → ones x ≡ 1 → count_trailing_zeros d x < d
unfolding count_trailing_zeros
bit_below zero x h e = absurd (omega (arith, one-positive x e))
bit_below (suc d) x h e = go (x % 2) refl (λ l p. bit_below d (x / 2) l p)
  where
    go : (r : ℕ) → x % 2 ≡ r → (x / 2 < 2 ^ d → ones (x / 2) ≡ 1 → count_trailing_zeros d (x / 2) < d) → under r (count_trailing_zeros d (x / 2)) < suc d
    go zero p half =
        let w : 2 ^ suc d ≡ 2 ^ d * 2 = pow-suc 2 d in
        omega (arith, half (omega arith) (omega (arith, ones_step x)))
    go (suc r) p half = omega arith

-- the number may have more digits than the d that are looked at, as long as the one set is among them
pub one_set : (d x : ℕ) → ones x ≡ 1 → count_trailing_zeros d x < d → x ≡ 2 ^ count_trailing_zeros d x
unfolding count_trailing_zeros
one_set zero x e h = absurd (omega arith)
one_set (suc d) x e h = go (x % 2) refl h (λ a b. one_set d (x / 2) a b)
  where
    go : (r : ℕ) → x % 2 ≡ r → under r (count_trailing_zeros d (x / 2)) < suc d
        → (ones (x / 2) ≡ 1 → count_trailing_zeros d (x / 2) < d → x / 2 ≡ 2 ^ count_trailing_zeros d (x / 2)) → x ≡ 2 ^ under r (count_trailing_zeros d (x / 2))
    go zero p l half =
        let s = ones_step x in
        let t = count_trailing_zeros d (x / 2) in
        let i : x / 2 ≡ 2 ^ t = half (omega arith) (omega arith) in
        let w : 2 ^ suc t ≡ 2 ^ t * 2 = pow-suc 2 t in
        omega arith
    go (suc r) p l half =
        let s = ones_step x in
        let z : x / 2 ≡ 0 = none-set (x / 2) (omega arith) in
        omega arith

-- a u64 with one bit set
pub is-power : (x : ℕ) → x < 2 ^ 64 → ones x ≡ 1 → x ≡ 2 ^ count_trailing_zeros 64 x
is-power x h e = one_set 64 x e (bit_below 64 x h e)

-- ---- from the power to its bits

module _ (k : ℕ) where
  twice_half : 2 ^ suc k / 2 ≡ 2 ^ k
  twice_half = let w : 2 ^ suc k ≡ 2 ^ k * 2 = pow-suc 2 k in omega arith

  twice-even : 2 ^ suc k % 2 ≡ 0
  twice-even = let w : 2 ^ suc k ≡ 2 ^ k * 2 = pow-suc 2 k in omega arith

pub power-ones : (k : ℕ) → ones (2 ^ k) ≡ 1
power-ones zero = unfold ones in refl
power-ones (suc k) = omega (arith, ones_step (2 ^ suc k), twice-even k, ap ones (twice_half k), power-ones k)

pub power-zeros : (d k : ℕ) → k < d → count_trailing_zeros d (2 ^ k) ≡ k
unfolding count_trailing_zeros
power-zeros zero k h = absurd (omega arith)
power-zeros (suc d) zero h = refl
power-zeros (suc d) (suc k) h = rw (twice-even k, twice_half k) (ap suc (power-zeros d k (omega arith)))
