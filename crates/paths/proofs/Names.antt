-- Which names are allowed: what the test means, and by what the code finds out.
-- Assumes nothing.
use mathlib.Core.Path.{◌≡◌, refl, sym, ap, ◌∙◌}
use mathlib.Core.Bool.{Bool, true, false, not, ◌||◌, false≢true}
use Rattle.std.specs.List.{list_any}
use mathlib.Core.Logic.{⊎_elim}
use mathlib.Core.List.{List, [], ◌∷◌}
use Prim.Native.Nat.{ℕ, ◌≤◌, ◌<◌}
use native.Mathlib.Omega.{arith}
use lib.Dec.{eqb}
use lib.ListN.{length}
use Rattle.words.specs.Rules.{both, same, Says, holds, fails}
use Rattle.words.proofs.Joined.{either-false, either_true}
use Rattle.words.proofs.Rules.{says-true, true-says, false-says, says_map, says_both, says-leb, says-not}
use Rattle.words.proofs.Blocks.{says_same}
use Rattle.types.specs.Sizes.{most_name}
use Rattle.paths.specs.declared.Sort.{Sort}
use Rattle.paths.specs.declared.Sort.TheVariants.{Dropped, Upward, Name}
use Rattle.paths.specs.Path.{slash, dot, dropped, upward, no_slash, IsPart, name_allowed}
use Rattle.paths.specs.Pieces.{sort_of}
use Rattle.paths.proofs.Sorts.{Sorted, is-dropped, is-upward, is_plain_name, sorted}

says-whole : (p : List ℕ) → Says (no_slash p ≡ true) (no_slash p)
says-whole p = go (no_slash p) refl
  where
    go : (t : Bool) → no_slash p ≡ t → Says (no_slash p ≡ true) t
    go true e = holds e
    go false e = fails (λ f. false≢true (sym e ∙ f))

-- a part is an allowed name where it is not too long
pub says-name : (p : List ℕ) → Says (IsPart p × (length p ≤ most_name)) (name_allowed p)
unfolding name_allowed
says-name p = says_map
    (λ h. (record { some = h.0; whole = h.1.1.0; no_dot = h.1.1.1.0; no_dots = h.1.1.1.1 }, h.1.0))
    (λ h. (h.0.some, (h.1, (h.0.whole, (h.0.no_dot, h.0.no_dots)))))
    (says_both (says-leb 1 (length p)) (says_both (says-leb (length p) most_name) (says_both (says-whole p) (says_both (says-not (says_same p (dot ∷ []))) (says-not (says_same p (dot ∷ dot ∷ [])))))))

-- ---- pieces that are no names, and those that are

some_bytes : (p : List ℕ) → same p [] ≡ false → 0 < length p
unfolding same
some_bytes [] h = absurd (false≢true (sym h))
some_bytes (x ∷ p) h = omega arith

-- a piece that is not dropped is not empty
pub kept-some : (p : List ℕ) → dropped p ≡ false → 0 < length p
unfolding dropped
kept-some p d = some_bytes p (either-false _ _ d).0

pub named : (p : List ℕ) → no_slash p ≡ true → dropped p ≡ false → upward p ≡ false → IsPart p
unfolding dropped upward
named p w d u = record {
  some = kept-some p d;
  whole = w;
  no_dot = λ e. false≢true (sym (either-false _ _ d).1 ∙ true-says (says_same p (dot ∷ [])) e);
  no_dots = λ e. false≢true (sym u ∙ true-says (says_same p (dot ∷ dot ∷ [])) e);
}

no-part-dropped : (p : List ℕ) → dropped p ≡ true → IsPart p → ⊥
unfolding dropped
no-part-dropped p d h = ⊎_elim (λ e. omega (arith, h.some, ap length (says-true (says_same p []) e))) (λ e. h.no_dot (says-true (says_same p (dot ∷ [])) e)) (either_true _ _ d)

no-part-upward : (p : List ℕ) → upward p ≡ true → IsPart p → ⊥
unfolding upward
no-part-upward p u h = h.no_dots (says-true (says_same p (dot ∷ dot ∷ [])) u)

-- ---- what `name_allowed` finds

any-slash : (p : List ℕ) → not (list_any (λ b. eqb b slash) p) ≡ no_slash p
unfolding no_slash both
any-slash [] = refl
any-slash (x ∷ p) = go (eqb x slash) (any-slash p)
  where
    go : (t : Bool) → not (list_any (λ b. eqb b slash) p) ≡ no_slash p → not (t || list_any (λ b. eqb b slash) p) ≡ both (not t) (no_slash p)
    go true e = refl
    go false e = e

abbrev pub is_name : Sort → Bool
is_name Dropped = false
is_name Upward = false
is_name Name = true

module _ (n : List ℕ) where
  pub name-long : most_name < length n → false ≡ name_allowed n
  name-long h = sym (false-says (says-name n) (λ q. omega arith))

  -- a slash is in it
  pub name-slash : {t : Bool} → t ≡ list_any (λ b. eqb b slash) n → t ≡ true → not t ≡ name_allowed n
  name-slash e h = ap not h ∙ sym (false-says (says-name n) (λ q. false≢true (ap not (sym h ∙ e) ∙ any-slash n ∙ q.0.whole)))

  name-sorted : {s : Sort} → length n ≤ most_name → no_slash n ≡ true → Sorted n s → is_name s ≡ name_allowed n
  name-sorted h k (is-dropped d) = sym (false-says (says-name n) (λ q. no-part-dropped n d q.0))
  name-sorted h k (is-upward d u) = sym (false-says (says-name n) (λ q. no-part-upward n u q.0))
  name-sorted h k (is_plain_name d u) = sym (true-says (says-name n) (named n k d u, h))

  -- none is: its sort decides
  pub name-by-sort : {t : Bool} {s : Sort} → length n ≤ most_name → t ≡ list_any (λ b. eqb b slash) n → t ≡ false → s ≡ sort_of n → is_name s ≡ name_allowed n
  name-by-sort h e k z = rw z (name-sorted h (sym (any-slash n) ∙ ap not (sym e ∙ k)) (sorted n))
