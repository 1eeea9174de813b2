-- Laws of `same` and `all_zero`: what they mean, what they say of a part, and what a comparison in blocks finds.
-- Assumes nothing.
use mathlib.Core.Path.{◌≡◌, refl, sym, ap, ◌∙◌}
use mathlib.Core.Bool.{Bool, true, false}
use mathlib.Core.List.{List, [], ◌∷◌, ◌++◌}
use Prim.Native.Nat.{ℕ, zero, suc, ◌+◌, ◌-◌, ◌≤◌, ◌<◌}
use native.Mathlib.Numerals.{add-one}
use native.Mathlib.Omega.{arith}
use lib.Dec.{eqb}
use borrow.Author.Tests.{eq-eqb}
use lib.ListN.{length, take, drop, get_or}
use lib.Seq.{take-add, take_all, take-suc, get_or-drop}
use Rattle.words.specs.Bytes.{part, zeros, num, Bytes}
use Rattle.words.specs.Rules.{both, same, Says, holds, fails}
use Rattle.words.specs.Tests.{all_zero}
use Rattle.words.proofs.Parts.{length_part}
use Rattle.words.proofs.Numbers.{spell-num}
use Rattle.words.proofs.Rules.{says-eqb, says_both, says_map, says-true, true-says}

-- ---- same

pub says_same : (a b : List ℕ) → Says (a ≡ b) (same a b)
unfolding same
says_same [] [] = holds refl
says_same [] (y ∷ b) = fails (λ e. let z : ◌≡◌ {A = ℕ} 0 1 = omega (arith, ap length e) in omega arith)
says_same (x ∷ a) [] = fails (λ e. let z : ◌≡◌ {A = ℕ} 0 1 = omega (arith, ap length e) in omega arith)
says_same (x ∷ a) (y ∷ b) = says_map (λ p. rw (p.0, p.1)) (λ e. (cc, cc)) (says_both (says-eqb x y) (says_same a b))

pub same-yes : (a b : List ℕ) → a ≡ b → true ≡ same a b
same-yes a b e = sym (true-says (says_same a b) e)

pub same-no : (a b : List ℕ) → (a ≡ b → ⊥) → false ≡ same a b
same-no a b h = go (same a b) refl
  where
    go : (t : Bool) → same a b ≡ t → false ≡ same a b
    go true e = absurd (h (says-true (says_same a b) e))
    go false e = sym e

-- a whole list that was compared
pub same_end : (a b : List ℕ) (i : ℕ) → length a ≡ length b → length a ≤ i → take i a ≡ take i b → true ≡ same a b
same_end a b i n h e = same-yes a b (sym (take_all i a h) ∙ e ∙ take_all i b (rw (← n) h))

pub same_turn : (a b : List ℕ) (i : ℕ) → i < length a → length a ≡ length b → take i a ≡ take i b → get_or a i 0 ≡ get_or b i 0 → take (i + 1) a ≡ take (i + 1) b
same_turn a b i h n e g =
    let k : i < length b = omega arith in
    rw (add-one i, take-suc a i 0 h, take-suc b i 0 k, e, g)

-- the words x and y that stand at i
module _ (a b : List ℕ) (i : ℕ) {x y : ℕ} (p : x ≡ num 8 a i) (q : y ≡ num 8 b i) where
  pub same_stop : (x ≡ y → ⊥) → false ≡ same a b
  same_stop h = same-no a b (λ e. h (p ∙ ap (λ l. num 8 l i) e ∙ sym q))

  pub same_word : Bytes a → Bytes b → i + 8 ≤ length a → length a ≡ length b → take i a ≡ take i b → x ≡ y → take (i + 8) a ≡ take (i + 8) b
  unfolding part
  same_word ba bb h n e g =
      let k : i + 8 ≤ length b = omega arith in
      let w : num 8 a i ≡ num 8 b i = sym p ∙ g ∙ q in
      let m : part a i 8 ≡ part b i 8 = sym (spell-num 8 a i ba h) ∙ rw w (spell-num 8 b i bb k) in
      rw (take-add i 8 a, take-add i 8 b, e, m)

-- ---- all_zero

pub says-zero : (l : List ℕ) → Says (l ≡ zeros (length l)) (all_zero l)
unfolding all_zero zeros
says-zero [] = holds refl
says-zero (x ∷ l) = says_map (λ p. ap (λ b. b ∷ l) p.0 ∙ ap (λ r. 0 ∷ r) p.1) (λ e. (cc, cc)) (says_both (says-eqb x 0) (says-zero l))

-- the same, byte by byte
says-zero-front : (n : ℕ) (l : List ℕ) → Says ((i : ℕ) → i < n → get_or l i 0 ≡ 0) (all_zero (take n l))
unfolding all_zero
says-zero-front zero l = holds (λ i b. absurd (omega arith))
says-zero-front (suc n) [] = holds (λ i b. refl)
says-zero-front (suc n) (x ∷ l) = says_map join cut (says_both (says-eqb x 0) (says-zero-front n l))
  where
    join : (x ≡ 0) × ((i : ℕ) → i < n → get_or l i 0 ≡ 0) → (i : ℕ) → i < suc n → get_or (x ∷ l) i 0 ≡ 0
    join h zero b = h.0
    join h (suc i) b = h.1 i (omega arith)

    cut : ((i : ℕ) → i < suc n → get_or (x ∷ l) i 0 ≡ 0) → (x ≡ 0) × ((i : ℕ) → i < n → get_or l i 0 ≡ 0)
    cut h = (h 0 (omega arith), λ i b. h (suc i) (omega arith))

-- a part, byte by byte: past the end of the list there are only zeros
pub says-zero-part : (l : List ℕ) (at n : ℕ) → Says ((i : ℕ) → i < n → get_or l (at + i) 0 ≡ 0) (all_zero (part l at n))
unfolding part
says-zero-part l at n = says_map (λ h i b. sym (get_or-drop at l i 0) ∙ h i b) (λ h i b. get_or-drop at l i 0 ∙ h i b) (says-zero-front n (drop at l))

both-assoc : (t a b : Bool) → both t (both a b) ≡ both (both t a) b
unfolding both
both-assoc true a b = refl
both-assoc false a b = refl

pub zero-append : (a b : List ℕ) → all_zero (a ++ b) ≡ both (all_zero a) (all_zero b)
unfolding all_zero both
zero-append [] b = refl
zero-append (x ∷ a) b = rw (zero-append a b) (both-assoc (eqb x 0) (all_zero a) (all_zero b))

-- a turn over a block of n bytes; x is zero where the block at i is
module _ (l : List ℕ) (i n x : ℕ) (p : eqb x 0 ≡ all_zero (part l i n)) where
  pub zero_turn : all_zero (take i l) ≡ true → x ≡ 0 → all_zero (take (i + n) l) ≡ true
  unfolding part both
  zero_turn h e =
      let z : all_zero (part l i n) ≡ true = sym p ∙ eq-eqb x 0 e in
      rw (take-add i n l, zero-append (take i l) (take n (drop i l)), h, z)

-- ---- a part of a list that is tested

-- the part is n bytes long
pub says-zeros : (l : List ℕ) (at n : ℕ) → at + n ≤ length l → Says (part l at n ≡ zeros n) (all_zero (part l at n))
says-zeros l at n h = says_map (λ e. rw (length_part l at n h) at e) (λ e. rw (length_part l at n h) e) (says-zero (part l at n))

-- a part that was lent
pub zero-part : (l : List ℕ) (at n : ℕ) {r : Bool} → r ≡ all_zero (take (at + n - at) (drop at l)) → r ≡ all_zero (part l at n)
unfolding part
zero-part l at n e = let k : at + n - at ≡ n = omega arith in rw k at e
