-- Two tests joined, and what the whole says of each.
-- Assumes nothing.
use mathlib.Core.Path.{◌≡◌, refl}
use mathlib.Core.Bool.{Bool, true, false, false≢true, true≢false}
use mathlib.Core.Logic.{◌⊎◌, inl, inr}
use Prim.Native.Nat.{ℕ, zero, suc}
use Rattle.words.specs.Rules.{both, either, upto}

pub both_false : (a : Bool) → both a false ≡ false
unfolding both
both_false true = refl
both_false false = refl

pub both_true : (a b : Bool) → both a b ≡ true → (a ≡ true) × (b ≡ true)
unfolding both
both_true true b h = (refl, h)
both_true false b h = absurd (false≢true h)

pub either-false : (a b : Bool) → either a b ≡ false → (a ≡ false) × (b ≡ false)
unfolding either
either-false true b h = absurd (true≢false h)
either-false false b h = (refl, h)

pub either_true : (a b : Bool) → either a b ≡ true → (a ≡ true) ⊎ (b ≡ true)
unfolding either
either_true true b h = inl refl
either_true false b h = inr h

-- a test that never fails
pub upto_all : (n : ℕ) → upto n (λ _. true) ≡ true
unfolding upto both
upto_all zero = refl
upto_all (suc n) = rw (upto_all n)
