-- Inner: a search by halving: what its test tells, and the place that it finds.
-- Assumes nothing.
use Rattle.std.specs.Prelude.{◌≡◌, ℕ, ◌<◌, ◌≤◌, Bool, true, false}

-- a test may be asked of each number below n
pub record AsksBelow (may : ℕ → Type 0) (n : ℕ) : Type 0 where
  pub asks : (k : ℕ) → k < n → may k

-- of each number below n a test tells what p says
pub record TellsBelow (tells : ℕ → Bool → Type 0) (p : ℕ → Bool) (n : ℕ) : Type 0 where
  pub told : (k : ℕ) (r : Bool) → k < n → tells k r → r ≡ p k

-- below n, once p fails it fails from there on
pub record FallsBelow (p : ℕ → Bool) (n : ℕ) : Type 0 where
  pub falls : (j k : ℕ) → j ≤ k → k < n → p j ≡ false → p k ≡ false

-- p holds of the numbers below i, and fails of those from i on below n
pub record SplitsAt (p : ℕ → Bool) (n i : ℕ) : Type 0 where
  pub bound : i ≤ n
  pub holds : (k : ℕ) → k < i → p k ≡ true
  pub fails : (k : ℕ) → i ≤ k → k < n → p k ≡ false
