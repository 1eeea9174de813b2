-- Rows by their place, as code reads them, and a test of every place as a test of every row.
-- Assumes nothing.
use mathlib.Core.Bool.{Bool}
use mathlib.Core.List.{List, [], ◌∷◌}
use Prim.Native.Nat.{ℕ, zero, suc, ◌+◌, ◌-◌, ◌<◌}
use native.Mathlib.Numerals.{add-one}
use native.Mathlib.Omega.{arith}
use lib.ListN.{length, get_or}
use Rattle.words.specs.Rules.{upto, Says}
use Rattle.words.specs.Tables.{Each, Asc}
use Rattle.words.proofs.Order.{each_at, each_map}
use Rattle.words.proofs.Rules.{says_map, says-upto}

-- ---- every place, every row

module _ {R : Type 0} (P : R → Type 0) (d : R) where
  pub places-each : (rs : List R) → ((i : ℕ) → i < length rs → P (get_or rs i d)) → Each P rs
  unfolding Each
  places-each [] h = tt
  places-each (r ∷ rs) h = (h 0 (omega arith), places-each rs (λ i b. h (suc i) (omega arith)))

  pub each-places : (f : R → Bool) → ((r : R) → Says (P r) (f r)) → (rs : List R) → Says (Each P rs) (upto (length rs) (λ i. f (get_or rs i d)))
  each-places f s rs = says_map (places-each rs) (λ k i b. each_at P rs i d k b) (says-upto (λ i. P (get_or rs i d)) _ (length rs) (λ i b. s (get_or rs i d)))

-- ---- every row before the next, every row before all behind it

module _ {R : Type 0} (d : R) (lt : R → R → Type 0) (trans : (a b c : R) → lt a b → lt b c → lt a c) where
  asc-of : (rs : List R) → ((i : ℕ) → i < length rs - 1 → lt (get_or rs i d) (get_or rs (i + 1) d)) → Asc lt rs
  unfolding Asc Each
  asc-of [] h = tt
  asc-of (r ∷ []) h = (tt, tt)
  asc-of (r ∷ s ∷ rs) h =
      let a : Asc lt (s ∷ rs) = asc-of (s ∷ rs) (λ i b. rw add-one (rw add-one at (h (suc i) (omega arith)))) in
      let x : lt r s = h 0 (omega arith) in
      ((x, each_map (lt s) (lt r) (λ y k. trans r s y x k) rs a.0), a)

  of-asc : (rs : List R) → Asc lt rs → (i : ℕ) → i < length rs - 1 → lt (get_or rs i d) (get_or rs (i + 1) d)
  unfolding Asc Each
  of-asc [] a i b = absurd (omega arith)
  of-asc (r ∷ []) a i b = absurd (omega arith)
  of-asc (r ∷ s ∷ rs) a zero b = a.0.0
  of-asc (r ∷ s ∷ rs) a (suc i) b = rw add-one (rw add-one at (of-asc (s ∷ rs) a.1 i (omega arith)))

  pub asc-places : (f : R → R → Bool) → ((a b : R) → Says (lt a b) (f a b)) → (rs : List R) → Says (Asc lt rs) (upto (length rs - 1) (λ i. f (get_or rs i d) (get_or rs (i + 1) d)))
  asc-places f s rs = says_map (asc-of rs) (of-asc rs) (says-upto (λ i. lt (get_or rs i d) (get_or rs (i + 1) d)) _ (length rs - 1) (λ i b. s (get_or rs i d) (get_or rs (i + 1) d)))

-- ---- every row before all behind it, by their places

module _ {R : Type 0} (lt : R → R → Type 0) (d : R) where
  pub asc-at : (rs : List R) → Asc lt rs → (j i : ℕ) → j < i → i < length rs → lt (get_or rs j d) (get_or rs i d)
  unfolding Asc
  asc-at [] a j i h b = absurd (omega arith)
  asc-at (r ∷ rs) a j zero h b = absurd (omega arith)
  asc-at (r ∷ rs) a zero (suc i) h b = each_at (lt r) rs i d a.0 (omega arith)
  asc-at (r ∷ rs) a (suc j) (suc i) h b = asc-at rs a.1 j i (omega arith) (omega arith)

  pub at-asc : (rs : List R) → ((j i : ℕ) → j < i → i < length rs → lt (get_or rs j d) (get_or rs i d)) → Asc lt rs
  unfolding Asc
  at-asc [] h = tt
  at-asc (r ∷ rs) h = (places-each (lt r) d rs (λ i b. h 0 (suc i) (omega arith) (omega arith)), at-asc rs (λ j i k b. h (suc j) (suc i) (omega arith) (omega arith)))
