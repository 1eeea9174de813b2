-- Rows found by a test, a row put among them, and how often a number stands in a column of theirs.
-- Assumes nothing.
use mathlib.Core.Path.{◌≡◌, refl, sym, ap}
use mathlib.Core.Bool.{Bool, true, false}
use mathlib.Core.List.{List, [], ◌∷◌, map}
use mathlib.Core.Option.{none, some, none-ne-some}
use Prim.Native.Nat.{ℕ, zero, suc, ◌+◌, ◌≤◌, ◌<◌}
use native.Mathlib.Nat.{not-suc-le-zero, le_of_suc-le-suc}
use native.Mathlib.Omega.{arith}
use lib.Dec.{eqb}
use lib.ListN.{length, get_or}
use Rattle.words.specs.Rules.{pick, bit, count}
use Rattle.words.specs.Tables.{Each, Asc, find, insert_at}
use Rattle.words.proofs.Counting.{count-cons, bit-same}

-- ---- what a search finds

module _ {R : Type 0} (t : R → Bool) where
  pub found-passes : (rs : List R) (r : R) → find t rs ≡ some r → t r ≡ true
  unfolding find pick
  found-passes [] r e = absurd (none-ne-some r e)
  found-passes (s ∷ rs) r e = go (t s) refl e (found-passes rs r)
    where
      go : (b : Bool) → t s ≡ b → pick b (some s) (find t rs) ≡ some r → (find t rs ≡ some r → t r ≡ true) → t r ≡ true
      go true q z ih = let k : s ≡ r = cc in rw (← k) q
      go false q z ih = ih z

  -- what holds of every row holds of the row found
  pub found-each : (P : R → Type 0) (rs : List R) (r : R) → Each P rs → find t rs ≡ some r → P r
  unfolding find pick Each
  found-each P [] r h e = absurd (none-ne-some r e)
  found-each P (s ∷ rs) r h e = go (t s) e (found-each P rs r h.1)
    where
      go : (b : Bool) → pick b (some s) (find t rs) ≡ some r → (find t rs ≡ some r → P r) → P r
      go true z ih = let k : s ≡ r = cc in rw (← k) h.0
      go false z ih = ih z

  pub none_passes : (rs : List R) → find t rs ≡ none → Each (λ r. t r ≡ false) rs
  unfolding find pick Each
  none_passes [] e = tt
  none_passes (s ∷ rs) e = go (t s) refl e (none_passes rs)
    where
      go : (b : Bool) → t s ≡ b → pick b (some s) (find t rs) ≡ none → (find t rs ≡ none → Each (λ r. t r ≡ false) rs) → (t s ≡ false) × Each (λ r. t r ≡ false) rs
      go true q z ih = absurd (none-ne-some s (sym z))
      go false q z ih = (q, ih z)

-- what holds of every row that its key finds holds of every row, if no row has the key of one before it
pub each-found : {R : Type 0} (hit : R → R → Bool) (P : R → Type 0) (rs : List R) → ((r : R) → hit r r ≡ true) → Asc (λ a b. hit b a ≡ false) rs → ((r : R) → find (hit r) rs ≡ some r → P r) → Each P rs
unfolding find pick Asc Each
each-found hit P [] same a h = tt
each-found {R} hit P (s ∷ rs) same a h = (h s (rw (same s)), each-found hit P rs same a.1 (λ r e. h r (behind r e)))
  where
    behind : (r : R) → find (hit r) rs ≡ some r → pick (hit r s) (some s) (find (hit r) rs) ≡ some r
    behind r e = let q : hit r s ≡ false = found-each (hit r) (λ b. hit b s ≡ false) rs r a.0 e in rw q e

-- ---- a row put among rows

module _ {R : Type 0} (t : R → Bool) where
  pub find-insert-other : (p : ℕ) (r : R) (rs : List R) → t r ≡ false → find t (insert_at p r rs) ≡ find t rs
  unfolding find pick insert_at
  find-insert-other zero r rs e = rw e
  find-insert-other (suc p) r [] e = rw e
  find-insert-other (suc p) r (s ∷ rs) e = ap (pick (t s) (some s)) (find-insert-other p r rs e)

  pub find-insert-here : (p : ℕ) (r : R) (rs : List R) → t r ≡ true → find t rs ≡ none → find t (insert_at p r rs) ≡ some r
  unfolding find pick insert_at
  find-insert-here zero r rs e n = rw e
  find-insert-here (suc p) r [] e n = rw e
  find-insert-here (suc p) r (s ∷ rs) e n = go (t s) n (find-insert-here p r rs e)
    where
      go : (b : Bool) → pick b (some s) (find t rs) ≡ none → (find t rs ≡ none → find t (insert_at p r rs) ≡ some r) → pick b (some s) (find t (insert_at p r rs)) ≡ some r
      go true z ih = absurd (none-ne-some s (sym z))
      go false z ih = ih z

-- ---- how often a number stands in a column of rows

module _ {R : Type 0} (f : R → ℕ) where
  pub count-insert : (q p : ℕ) (r : R) (rs : List R) → count q (map f (insert_at p r rs)) ≡ bit (eqb (f r) q) + count q (map f rs)
  unfolding insert_at
  count-insert q zero r rs = count-cons q (f r) (map f rs)
  count-insert q (suc p) r [] = count-cons q (f r) []
  count-insert q (suc p) r (s ∷ rs) = omega (arith, count-cons q (f s) (map f rs), count-cons q (f s) (map f (insert_at p r rs)), count-insert q p r rs)

  -- the number of a row
  pub counted : (d : R) (rs : List R) (i : ℕ) → i < length rs → 1 ≤ count (f (get_or rs i d)) (map f rs)
  counted d [] i h = absurd (not-suc-le-zero h)
  counted d (r ∷ rs) zero h = omega (arith, count-cons (f r) (f r) (map f rs), bit-same (f r))
  counted d (r ∷ rs) (suc i) h = omega (arith, count-cons (f (get_or rs i d)) (f r) (map f rs), counted d rs i (le_of_suc-le-suc h))

  -- the number of a row that is found
  pub count-found : (t : R → Bool) (rs : List R) (r : R) → find t rs ≡ some r → 1 ≤ count (f r) (map f rs)
  unfolding find pick
  count-found t [] r e = absurd (none-ne-some r e)
  count-found t (s ∷ rs) r e = go (t s) e (count-found t rs r)
    where
      go : (b : Bool) → pick b (some s) (find t rs) ≡ some r → (find t rs ≡ some r → 1 ≤ count (f r) (map f rs)) → 1 ≤ count (f r) (f s ∷ map f rs)
      go true z ih = let k : s ≡ r = cc in rw k (omega (arith, count-cons (f r) (f r) (map f rs), bit-same (f r)))
      go false z ih = omega (arith, ih z, count-cons (f r) (f s) (map f rs))

  -- two rows that different tests find have the same number: it stands twice
  pub count-two : (t u : R → Bool) (rs : List R) (r s : R) → ((x : R) → t x ≡ true → u x ≡ true → ⊥) → find t rs ≡ some r → find u rs ≡ some s → f s ≡ f r → 2 ≤ count (f r) (map f rs)
  unfolding find pick
  count-two t u [] r s apart e k q = absurd (none-ne-some r e)
  count-two t u (x ∷ rs) r s apart e k q = go (t x) refl (u x) refl e k (count-two t u rs r s apart)
    where
      go : (a : Bool) → t x ≡ a → (b : Bool) → u x ≡ b → pick a (some x) (find t rs) ≡ some r → pick b (some x) (find u rs) ≡ some s
          → (find t rs ≡ some r → find u rs ≡ some s → f s ≡ f r → 2 ≤ count (f r) (map f rs)) → 2 ≤ count (f r) (f x ∷ map f rs)
      go true ta true ub m n ih = absurd (apart x ta ub)
      go true ta false ub m n ih =
          let h : x ≡ r = cc in
          let z : 1 ≤ count (f r) (map f rs) = rw q at (count-found u rs s n) in
          rw h (omega (arith, count-cons (f r) (f r) (map f rs), bit-same (f r)))
      go false ta true ub m n ih =
          let h : f x ≡ f r = cc in
          rw h (omega (arith, count-cons (f r) (f r) (map f rs), bit-same (f r), count-found t rs r m))
      go false ta false ub m n ih = omega (arith, ih m n q, count-cons (f r) (f x) (map f rs))
