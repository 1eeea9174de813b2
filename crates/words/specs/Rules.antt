-- Believed: choices and tests: what a law says a test decides, what a chain of returns decides, what a loop over numbers finds or counts, and whether bytes are the same.
-- Assumes nothing.
use Rattle.std.specs.Prelude.{ℕ, zero, suc, ◌+◌, Bool, true, false, not, List, [], ◌∷◌, eqb}

-- b says whether P holds
pub data Says (P : Type 0) : Bool → Type 0 where
  holds : P → Says P true
  fails : (P → ⊥) → Says P false

-- the test of which a law says that
abbrev pub whether : {P : Type 0} {b : Bool} → Says P b → Bool
whether {P} {b} s = b

unfoldable pub pick : {A : Type 0} → Bool → A → A → A
pick true x y = x
pick false x y = y

unfoldable pub both : Bool → Bool → Bool
both true b = b
both false b = false

unfoldable pub either : Bool → Bool → Bool
either true b = true
either false b = b

-- f holds of every number below n
unfoldable pub upto : ℕ → (ℕ → Bool) → Bool
upto zero f = true
upto (suc n) f = both (upto n f) (f n)

-- f holds of no two numbers below n
unfoldable pub apart : ℕ → (ℕ → ℕ → Bool) → Bool
apart n f = upto n (λ i. upto i (λ j. not (f j i)))

unfoldable pub bit : Bool → ℕ
bit true = 1
bit false = 0

-- how many of a list pass f
unfoldable pub times : {R : Type 0} → (R → Bool) → List R → ℕ
times f [] = 0
times f (r ∷ rs) = bit (f r) + times f rs

-- how often a number stands in a list
unfoldable pub count : ℕ → List ℕ → ℕ
count n ns = times (λ m. eqb m n) ns

-- two byte strings are equal
unfoldable pub same : List ℕ → List ℕ → Bool
same [] [] = true
same [] (y ∷ ys) = false
same (x ∷ xs) [] = false
same (x ∷ xs) (y ∷ ys) = both (eqb x y) (same xs ys)
