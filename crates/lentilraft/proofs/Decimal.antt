-- The decimal digits of the report are those that std's printing gives.
-- Assumes nothing.
use Rattle.std.specs.Fmt.{digits_onto, digit_glyph, digits as digits_of_base, decimal as printed}
use mathlib.Core.Path.{◌≡◌, refl, sym, ◌∙◌}
use mathlib.Core.Bool.{Bool, true, false}
use mathlib.Core.List.{List, [], ◌∷◌, ◌++◌, append_assoc, append-nil}
use Prim.Native.Nat.{ℕ, zero, suc, ◌+◌, ◌/◌, ◌%◌, ◌^◌, ◌<◌, ◌≤◌}
use native.Mathlib.Nat.{pow-succ'}
use native.Mathlib.Numerals.{one-add}
use native.Mathlib.Omega.{arith}
use lib.Dec.{ltb, eqb}
use lib.ListN.{length}
use borrow.Author.Tests.{eq-eqb, ne_eqb, lt-ltb, ltb-true, ltb-false}
use Rattle.words.specs.Rules.{pick}
use Rattle.lentilraft.specs.Report.{digits, width, decimal}
use Rattle.lentilraft.proofs.Lines.{width-more, length_digits}

glyph : (n : ℕ) → digit_glyph false (n % 10) ≡ 48 + n % 10
glyph n = let h : ltb (n % 10) 10 ≡ true = lt-ltb (n % 10) 10 (omega arith) in rw h refl

-- a number of one digit
onto-one : (k n : ℕ) (acc : List ℕ) → n < 10 → digits_onto (suc k) 10 false n acc ≡ (48 + n % 10) ∷ acc
onto-one k n acc b = let z : eqb (n / 10) 0 ≡ true = eq-eqb (n / 10) 0 (omega arith) in rw (z, glyph n) refl

-- one of more, by the others
onto-more : (k n : ℕ) (acc : List ℕ) → 10 ≤ n → digits_onto (suc k) 10 false n acc ≡ digits_onto k 10 false (n / 10) ((48 + n % 10) ∷ acc)
onto-more k n acc b = let z : eqb (n / 10) 0 ≡ false = ne_eqb (n / 10) 0 (λ e. omega arith) in rw (z, glyph n) refl

-- the same of the report's digits
said-one : (w n : ℕ) (acc : List ℕ) → ltb n 10 ≡ true → digits (width (suc w) n) n ++ acc ≡ (48 + n % 10) ∷ acc
unfolding digits width pick
said-one w n acc t = rw t refl

said-more : (w n : ℕ) (acc : List ℕ) → 10 ≤ n → digits (width (suc w) n) n ++ acc ≡ digits (width w (n / 10)) (n / 10) ++ ((48 + n % 10) ∷ acc)
unfolding digits
said-more w n acc b = rw (← width-more w n b, one-add, append_assoc) refl

-- so many digits, the last first, before what is there
onto-same : (w k n : ℕ) (acc : List ℕ) → n < 10 ^ suc w → w ≤ k → (t : Bool) → ltb n 10 ≡ t → digits_onto (suc k) 10 false n acc ≡ digits (width (suc w) n) n ++ acc
onto-same w k n acc h le true t = onto-one k n acc (ltb-true _ _ t) ∙ sym (said-one w n acc t)
onto-same zero k n acc h le false t = let b : 10 ≤ n = ltb-false _ _ t in absurd (omega arith)
onto-same (suc w) zero n acc h le false t = absurd (omega arith)
onto-same (suc w) (suc k) n acc h le false t =
    let b : 10 ≤ n = ltb-false _ _ t in
    let f : n / 10 < 10 ^ suc w = omega (arith, rw pow-succ' at h) in
    onto-more (suc k) n acc b ∙ onto-same w k (n / 10) ((48 + n % 10) ∷ acc) f (omega arith) (ltb (n / 10) 10) refl ∙ sym (said-more (suc w) n acc b)

pub decimal-same : (n : ℕ) → n < 18446744073709551616 → printed n ≡ decimal n
unfolding decimal digits_of_base
decimal-same n h = onto-same 19 63 n [] (omega arith) (omega arith) (ltb n 10) refl ∙ append-nil _

-- no number has more digits than it may have
width-pick : (t : Bool) (k m : ℕ) → k ≤ m → pick t 1 (1 + k) ≤ suc m
unfolding pick
width-pick true k m h = omega arith
width-pick false k m h = omega arith

width-most : (m n : ℕ) → width m n ≤ m
unfolding width
width-most zero n = omega arith
width-most (suc m) n = width-pick (ltb n 10) (width m (n / 10)) m (width-most m (n / 10))

pub decimal-short : (n : ℕ) → length (decimal n) ≤ 20
unfolding decimal
decimal-short n = omega (arith, length_digits (width 20 n) n, width-most 20 n)
