-- A whole piece of a path by its length and its dots: of what sort it is.
-- Assumes nothing.
use mathlib.Core.Path.{◌≡◌, refl, sym, ap, ◌∙◌}
use mathlib.Core.Bool.{Bool, true, false, false≢true}
use mathlib.Core.List.{List, [], ◌∷◌}
use Prim.Native.Nat.{ℕ, suc, ◌+◌, ◌≤◌, ◌<◌}
use native.Mathlib.Omega.{arith}
use lib.Dec.{eqb, leb}
use borrow.Author.Tests.{eq-eqb, ne_eqb, lt-leb, eqb-true, eqb-false}
use lib.ListN.{length, get_or}
use Rattle.words.specs.Bytes.{part}
use Rattle.words.specs.Rules.{pick, both, either, bit, times, count, same}
use Rattle.words.proofs.Joined.{both_false}
use Rattle.words.proofs.Rules.{pick_true, pick-false}
use Rattle.paths.specs.declared.Sort.{Sort}
use Rattle.paths.specs.declared.Sort.TheVariants.{Dropped, Upward, Name}
use Rattle.paths.specs.Path.{slash, dot, dropped, upward, no_slash}
use Rattle.paths.specs.Pieces as by_bytes
use Rattle.paths.proofs.Sorts.{Sorted, is-dropped, is-upward, is_plain_name}
use Rattle.paths.proofs.Sorts as by_sorts

-- the n bytes from index at are a whole piece of the path, so many of them dots
pub record Pieced (path : List ℕ) (at n dots : ℕ) : Type 0 where
  pub within : at + n ≤ length path
  pub whole : no_slash (part path at n) ≡ true
  pub closed : at + n < length path → get_or path (at + n) 0 ≡ slash
  pub dotted : dots ≡ count dot (part path at n)
  pub few : dots ≤ n

bit_few : (t : Bool) → bit t ≤ 1
unfolding bit
bit_few true = omega arith
bit_few false = omega arith

-- no more than it has bytes
pub dots_few : (p : List ℕ) → count dot p ≤ length p
unfolding count times
dots_few [] = omega arith
dots_few (x ∷ p) = let h : count dot p ≤ length p = dots_few p in omega (arith, bit_few (eqb x dot))

-- a piece of so many bytes, so many of them dots: only one that is all dots can be empty, `.` or `..`
unfoldable pub sort_of : ℕ → ℕ → Sort
sort_of n dots = pick (eqb n dots) (pick (leb n 1) Dropped (pick (eqb n 2) Upward Name)) Name

sort-mixed : (n dots : ℕ) → (n ≡ dots → ⊥) → Name ≡ sort_of n dots
unfolding sort_of
sort-mixed n dots h = pick-false _ _ _ _ (ne_eqb n dots h) refl

sort-long : (n dots : ℕ) → n ≡ dots → 2 < n → Name ≡ sort_of n dots
unfolding sort_of
sort-long n dots e h = pick_true _ _ _ _ (eq-eqb n dots e) (pick-false _ _ _ _ (lt-leb n 1 (omega arith)) (pick-false _ _ _ _ (ne_eqb n 2 (λ x. omega arith)) refl))

-- ---- the same by its bytes

sorted-one : (x : ℕ) (t : Bool) → eqb x dot ≡ t → Sorted (x ∷ []) (sort_of 1 (bit t + 0))
unfolding dropped upward either both same bit sort_of pick
sorted-one x true e = is-dropped (rw e)
sorted-one x false e = is_plain_name (rw e) (rw e)

sorted-two : (x y : ℕ) (s t : Bool) → eqb x dot ≡ s → eqb y dot ≡ t → Sorted (x ∷ y ∷ []) (sort_of 2 (bit s + (bit t + 0)))
unfolding dropped upward either both same bit sort_of pick
sorted-two x y true true e f = is-upward (rw e) (rw (e, f))
sorted-two x y true false e f = is_plain_name (rw e) (rw (e, f))
sorted-two x y false true e f = is_plain_name (rw e) (rw e)
sorted-two x y false false e f = is_plain_name (rw e) (rw e)

sorted_more : (x y z : ℕ) (p : List ℕ) (dots : ℕ) → Sorted (x ∷ y ∷ z ∷ p) (sort_of (suc (suc (suc (length p)))) dots)
unfolding dropped upward either same
sorted_more x y z p dots = go (eqb (suc (suc (suc (length p)))) dots) refl
  where
    name : Sorted (x ∷ y ∷ z ∷ p) Name
    name = is_plain_name (both_false (eqb x dot)) (ap (both (eqb x dot)) (both_false (eqb y dot)) ∙ both_false (eqb x dot))

    go : (t : Bool) → eqb (suc (suc (suc (length p)))) dots ≡ t → Sorted (x ∷ y ∷ z ∷ p) (sort_of (suc (suc (suc (length p)))) dots)
    go true e = rw (← sort-long (suc (suc (suc (length p)))) dots (eqb-true _ _ e) (omega arith)) name
    go false e = rw (← sort-mixed (suc (suc (suc (length p)))) dots (eqb-false _ _ e)) name

pub sorted : (p : List ℕ) → Sorted p (sort_of (length p) (count dot p))
unfolding count times
sorted [] = unfold dropped either same sort_of pick in is-dropped refl
sorted (x ∷ []) = sorted-one x (eqb x dot) refl
sorted (x ∷ y ∷ []) = sorted-two x y (eqb x dot) (eqb y dot) refl refl
sorted (x ∷ y ∷ z ∷ p) = sorted_more x y z p (count dot (x ∷ y ∷ z ∷ p))

-- it is the sort by its bytes alone
one-sort : {p : List ℕ} {s t : Sort} → Sorted p s → Sorted p t → s ≡ t
one-sort (is-dropped d) (is-dropped e) = refl
one-sort (is-dropped d) (is-upward e u) = absurd (false≢true (sym e ∙ d))
one-sort (is-dropped d) (is_plain_name e u) = absurd (false≢true (sym e ∙ d))
one-sort (is-upward d u) (is-dropped e) = absurd (false≢true (sym d ∙ e))
one-sort (is-upward d u) (is-upward e v) = refl
one-sort (is-upward d u) (is_plain_name e v) = absurd (false≢true (sym v ∙ u))
one-sort (is_plain_name d u) (is-dropped e) = absurd (false≢true (sym d ∙ e))
one-sort (is_plain_name d u) (is-upward e v) = absurd (false≢true (sym u ∙ v))
one-sort (is_plain_name d u) (is_plain_name e v) = refl

pub sort-dotted : (p : List ℕ) → by_bytes.sort_of p ≡ sort_of (length p) (count dot p)
sort-dotted p = one-sort (by_sorts.sorted p) (sorted p)
