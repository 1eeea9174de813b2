-- Laws of the order of pairs: what its test says, and that the order goes on.
-- Assumes nothing.
use mathlib.Core.Path.{◌≡◌, ◌∙◌}
use mathlib.Core.Bool.{Bool, false}
use mathlib.Core.Logic.{inl, inr}
use Prim.Native.Nat.{ℕ, ◌<◌}
use native.Mathlib.Omega.{arith}
use lib.Dec.{ltb}
use Rattle.words.specs.Rules.{pick, Says, holds, fails}
use Rattle.words.proofs.Rules.{says-false, false-says, says_map, says-eqb, says-ltb}
use Rattle.volume.specs.Search.{PairBefore, pair_before}

-- what the test says
pub says-pair : (a b c d : ℕ) → Says (PairBefore a b c d) (pair_before a b c d)
unfolding pair_before pick
says-pair a b c d = go (says-eqb a c)
  where
    go : {t : Bool} → Says (a ≡ c) t → Says (PairBefore a b c d) (pick t (ltb b d) (ltb a c))
    go (holds e) = says_map (λ h. inr (e, h)) second (says-ltb b d)
      where
        second : PairBefore a b c d → b < d
        second (inl k) = absurd (omega arith)
        second (inr k) = k.1
    go (fails e) = says_map inl first (says-ltb a c)
      where
        first : PairBefore a b c d → a < c
        first (inl k) = k
        first (inr k) = absurd (e k.0)

pub pair-trans : (a b c d x y : ℕ) → PairBefore a b c d → PairBefore c d x y → PairBefore a b x y
pair-trans a b c d x y (inl h) (inl k) = inl (omega arith)
pair-trans a b c d x y (inl h) (inr k) = inl (omega (arith, k.0))
pair-trans a b c d x y (inr h) (inl k) = inl (omega (arith, h.0))
pair-trans a b c d x y (inr h) (inr k) = inr (h.0 ∙ k.0, omega (arith, h.1, k.1))

-- (a, b) not before a key, and (c, d) behind (a, b): not before it either
pub pair-falls : (a b c d x y : ℕ) → PairBefore a b c d → pair_before a b x y ≡ false → pair_before c d x y ≡ false
pair-falls a b c d x y h e = false-says (says-pair c d x y) (λ k. says-false (says-pair a b x y) e (pair-trans a b c d x y h k))
