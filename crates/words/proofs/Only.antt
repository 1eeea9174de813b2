-- Laws of `only`: what the rows that pass a test, and those that do not, keep of all the rows.
-- Assumes nothing.
use mathlib.Core.Path.{◌≡◌, refl, sym, ◌∙◌}
use mathlib.Core.Bool.{Bool, true, false, not, true≢false}
use mathlib.Core.List.{List, [], ◌∷◌, map}
use mathlib.Core.Option.{none, some}
use Prim.Native.Nat.{ℕ, suc, ◌+◌}
use native.Mathlib.Omega.{arith}
use lib.ListN.{length}
use Rattle.words.specs.Rules.{pick, count}
use Rattle.words.specs.Tables.{Each, Asc, find, only}
use Rattle.words.proofs.Counting.{count-cons, count_none}

-- the rows that fail the test
abbrev pub rest : {R : Type 0} → (R → Bool) → List R → List R
rest g rs = only (λ r. not (g r)) rs

module _ {R : Type 0} where
  -- ---- what holds of all the rows

  pub each-only : (P : R → Type 0) (g : R → Bool) (rs : List R) → Each P rs → Each P (only g rs)
  unfolding only pick Each
  each-only P g [] a = tt
  each-only P g (r ∷ rs) a = go (g r) (each-only P g rs a.1)
    where
      go : (b : Bool) → Each P (only g rs) → Each P (pick b (r ∷ only g rs) (only g rs))
      go true ih = (a.0, ih)
      go false ih = ih

  pub asc-only : (lt : R → R → Type 0) (g : R → Bool) (rs : List R) → Asc lt rs → Asc lt (only g rs)
  unfolding only pick Asc
  asc-only lt g [] a = tt
  asc-only lt g (r ∷ rs) a = go (g r) (asc-only lt g rs a.1)
    where
      go : (b : Bool) → Asc lt (only g rs) → Asc lt (pick b (r ∷ only g rs) (only g rs))
      go true ih = (each-only (lt r) g rs a.0, ih)
      go false ih = ih

  -- ---- a row looked for

  -- it passes
  pub find-only : (hit g : R → Bool) (rs : List R) → ((r : R) → hit r ≡ true → g r ≡ true) → find hit (only g rs) ≡ find hit rs
  unfolding only pick find
  find-only hit g [] h = refl
  find-only hit g (s ∷ rs) h = go (hit s) refl (g s) refl (find-only hit g rs h)
    where
      go : (a : Bool) → hit s ≡ a → (b : Bool) → g s ≡ b → find hit (only g rs) ≡ find hit rs → find hit (pick b (s ∷ only g rs) (only g rs)) ≡ pick (hit s) (some s) (find hit rs)
      go a q true k ih = rw ih
      go true q false k ih = absurd (true≢false (sym (h s q) ∙ k))
      go false q false k ih = rw q ih

  -- it fails
  pub find-gone : (hit g : R → Bool) (rs : List R) → ((r : R) → hit r ≡ true → g r ≡ false) → find hit (only g rs) ≡ none
  unfolding only pick find
  find-gone hit g [] h = refl
  find-gone hit g (s ∷ rs) h = go (hit s) refl (g s) refl (find-gone hit g rs h)
    where
      go : (a : Bool) → hit s ≡ a → (b : Bool) → g s ≡ b → find hit (only g rs) ≡ none → find hit (pick b (s ∷ only g rs) (only g rs)) ≡ none
      go true q true k ih = absurd (true≢false (sym k ∙ h s q))
      go false q true k ih = rw q ih
      go a q false k ih = ih

  -- ---- both together are all the rows

  pub length_both : (g : R → Bool) (rs : List R) → length (only g rs) + length (rest g rs) ≡ length rs
  unfolding only pick
  length_both g [] = refl
  length_both g (s ∷ rs) = go (g s) (length_both g rs)
    where
      go : (b : Bool) → length (only g rs) + length (rest g rs) ≡ length rs → length (pick b (s ∷ only g rs) (only g rs)) + length (pick (not b) (s ∷ rest g rs) (rest g rs)) ≡ suc (length rs)
      go true ih = omega arith
      go false ih = omega arith

  pub count-both : (f : R → ℕ) (g : R → Bool) (p : ℕ) (rs : List R) → count p (map f (only g rs)) + count p (map f (rest g rs)) ≡ count p (map f rs)
  unfolding only pick
  count-both f g p [] = omega (arith, count_none p)
  count-both f g p (s ∷ rs) = go (g s) (count-both f g p rs)
    where
      go : (b : Bool) → count p (map f (only g rs)) + count p (map f (rest g rs)) ≡ count p (map f rs)
          → count p (map f (pick b (s ∷ only g rs) (only g rs))) + count p (map f (pick (not b) (s ∷ rest g rs) (rest g rs))) ≡ count p (f s ∷ map f rs)
      go true ih = omega (arith, count-cons p (f s) (map f (only g rs)), count-cons p (f s) (map f rs))
      go false ih = omega (arith, count-cons p (f s) (map f (rest g rs)), count-cons p (f s) (map f rs))
