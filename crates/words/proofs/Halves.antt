-- Laws of a search by halving: what each half that is left out shows.
-- Assumes nothing.
use mathlib.Core.Path.{◌≡◌, refl, sym}
use mathlib.Core.Bool.{Bool, true, false}
use Prim.Native.Nat.{ℕ, ◌+◌, ◌≤◌, ◌<◌}
use native.Mathlib.Omega.{arith}
use Rattle.words.specs.Seek.{TellsBelow, FallsBelow, SplitsAt}

-- below a place that passes, all pass
passes-below : (p : ℕ → Bool) (n : ℕ) → FallsBelow p n → (j k : ℕ) → j ≤ k → k < n → p k ≡ true → p j ≡ true
passes-below p n h j k l b e = go (p j) refl
  where
    go : (t : Bool) → p j ≡ t → p j ≡ true
    go true q = q
    go false q = let f = h.falls j k l b q in cc

-- the places below low pass the test, and those from high on fail it
pub record Between (tells : ℕ → Bool → Type 0) (n low high : ℕ) : Type 0 where
  pub ordered : low ≤ high
  pub within : high ≤ n
  pub known : (p : ℕ → Bool) → TellsBelow tells p n → FallsBelow p n → ((k : ℕ) → k < low → p k ≡ true) × ((k : ℕ) → high ≤ k → k < n → p k ≡ false)

module _ (tells : ℕ → Bool → Type 0) (n : ℕ) where
  pub all-between : Between tells n 0 n
  all-between = record { ordered = omega arith; within = omega arith; known = λ p t f. (λ k l. absurd (omega arith), λ k l m. absurd (omega arith)) }

  module _ (low high middle : ℕ) (b : Between tells n low high) (l : low ≤ middle) (m : middle < high) where
    inside : middle < n
    inside = omega (arith, b.within)

    pub upper-half : tells middle true → Between tells n (middle + 1) high
    upper-half e = record {
      ordered = omega arith;
      within = b.within;
      known = λ p t f. (λ k i. passes-below p n f k middle (omega arith) inside (sym (t.told middle true inside e)), (b.known p t f).1);
    }

    pub lower-half : tells middle false → Between tells n low middle
    lower-half e = record {
      ordered = l;
      within = omega (arith, inside);
      known = λ p t f. ((b.known p t f).0, λ k i j. f.falls middle k i j (sym (t.told middle false inside e)));
    }

  pub none_between : (low high : ℕ) → Between tells n low high → high ≤ low → (p : ℕ → Bool) → TellsBelow tells p n → FallsBelow p n → SplitsAt p n low
  none_between low high b l p t f = record {
    bound = omega (arith, b.within, b.ordered);
    holds = (b.known p t f).0;
    fails = λ k i j. (b.known p t f).1 k (omega arith) j;
  }
