-- What sort a piece is of, by its bytes.
-- Assumes nothing.
use mathlib.Core.Path.{◌≡◌, refl}
use mathlib.Core.Bool.{Bool, true, false}
use mathlib.Core.List.{List, [], ◌∷◌}
use Prim.Native.Nat.{ℕ, ◌≤◌, ◌<◌}
use native.Mathlib.Omega.{arith}
use lib.Dec.{eqb}
use borrow.Author.Tests.{ne_eqb}
use lib.ListN.{length, get_or}
use Rattle.words.specs.Rules.{pick, both, either, same}
use Rattle.words.proofs.Joined.{both_false}
use Rattle.paths.specs.declared.Sort.{Sort}
use Rattle.paths.specs.declared.Sort.TheVariants.{Dropped, Upward, Name}
use Rattle.paths.specs.Path.{dot, dropped, upward}
use Rattle.paths.specs.Pieces.{sort_of}

-- ---- the sort that the code finds

pub sort-empty : (p : List ℕ) → length p < 1 → Dropped ≡ sort_of p
unfolding sort_of dropped either same pick
sort-empty [] h = refl
sort-empty (x ∷ p) h = absurd (omega arith)

pub sort-dot : (p : List ℕ) → 1 ≤ length p → length p < 2 → get_or p 0 0 ≡ dot → Dropped ≡ sort_of p
unfolding sort_of dropped either both same pick
sort-dot [] h k e = absurd (omega arith)
sort-dot (x ∷ []) h k e = rw e refl
sort-dot (x ∷ y ∷ p) h k e = absurd (omega arith)

pub sort-dots : (p : List ℕ) → 2 ≤ length p → length p < 3 → get_or p 0 0 ≡ dot → get_or p 1 0 ≡ dot → Upward ≡ sort_of p
unfolding sort_of dropped upward either both same pick
sort-dots [] h k e f = absurd (omega arith)
sort-dots (x ∷ []) h k e f = absurd (omega arith)
sort-dots (x ∷ y ∷ []) h k e f = rw (e, f) refl
sort-dots (x ∷ y ∷ z ∷ p) h k e f = absurd (omega arith)

pub sort-first : (p : List ℕ) → 1 ≤ length p → (get_or p 0 0 ≡ dot → ⊥) → Name ≡ sort_of p
unfolding sort_of dropped upward either both same pick
sort-first [] h n = absurd (omega arith)
sort-first (x ∷ p) h n = rw (ne_eqb x dot n) refl

pub sort-second : (p : List ℕ) → 2 ≤ length p → (get_or p 1 0 ≡ dot → ⊥) → Name ≡ sort_of p
unfolding sort_of dropped upward either both same pick
sort-second [] h n = absurd (omega arith)
sort-second (x ∷ []) h n = absurd (omega arith)
sort-second (x ∷ y ∷ p) h n = rw (both_false (eqb x dot), ne_eqb y dot n, both_false (eqb x dot)) refl

pub sort-long : (p : List ℕ) → 3 ≤ length p → Name ≡ sort_of p
unfolding sort_of dropped upward either both same pick
sort-long [] h = absurd (omega arith)
sort-long (x ∷ []) h = absurd (omega arith)
sort-long (x ∷ y ∷ []) h = absurd (omega arith)
sort-long (x ∷ y ∷ z ∷ p) h = rw (both_false (eqb x dot), both_false (eqb y dot), both_false (eqb x dot)) refl

-- a name is not empty
pub name_some : (p : List ℕ) → Name ≡ sort_of p → 0 < length p
unfolding sort_of dropped either same pick
name_some [] e = absurd (cc)
name_some (x ∷ p) e = omega arith

-- ---- the same by its definition

pub data Sorted (p : List ℕ) : Sort → Type 0 where
  is-dropped : dropped p ≡ true → Sorted p Dropped
  is-upward : dropped p ≡ false → upward p ≡ true → Sorted p Upward
  is_plain_name : dropped p ≡ false → upward p ≡ false → Sorted p Name

pub sorted : (p : List ℕ) → Sorted p (sort_of p)
unfolding sort_of pick
sorted p = go (dropped p) (upward p) refl refl
  where
    go : (d u : Bool) → dropped p ≡ d → upward p ≡ u → Sorted p (pick d Dropped (pick u Upward Name))
    go true u e f = is-dropped e
    go false true e f = is-upward e f
    go false false e f = is_plain_name e f

-- ---- what the code needs

pub ruleset sorts = (sort-empty, sort-dot, sort-dots, sort-first, sort-second, sort-long)
