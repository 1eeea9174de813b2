-- Laws of `lead`: a search row by row, and one that halves.
-- Assumes nothing.
use mathlib.Core.Path.{◌≡◌, refl, sym, ap, ◌∙◌}
use mathlib.Core.Bool.{Bool, true, false, false≢true}
use mathlib.Core.List.{List, [], ◌∷◌}
use Prim.Native.Nat.{ℕ, zero, suc, ◌+◌, ◌-◌, ◌*◌, ◌≤◌, ◌<◌}
use native.Mathlib.Nat.{zero-add, not-suc-le-zero, le_of_suc-le-suc, le_antisymm}
use native.Mathlib.Numerals.{add-one, one-add}
use native.Mathlib.Omega.{arith}
use native.Mathlib.Decide.{dec_lt}
use mathlib.Core.Option.{none, some}
use lib.ListN.{length, drop, get_or, drop_of_length-le}
use lib.Seq.{drop-cons}
use Rattle.words.specs.Bytes.{part}
use Rattle.words.specs.Rules.{pick}
use Rattle.words.specs.Seek.{TellsBelow, FallsBelow, SplitsAt}
use Rattle.words.specs.Tables.{Asc, Each, find, insert_at, lead, lead_of, table}
use Rattle.words.specs.Tests.{Falls}
use Rattle.words.proofs.Order.{each_at, each_map}
use Rattle.words.proofs.Tables.{length-table, table_at}

lead-le-of : (b : Bool) (k n : ℕ) → k ≤ n → lead_of b k ≤ suc n
unfolding lead_of
lead-le-of true k n h = omega arith
lead-le-of false k n h = omega arith

pub lead-le : {R : Type 0} (f : R → Bool) (rs : List R) → lead f rs ≤ length rs
unfolding lead
lead-le f [] = omega arith
lead-le f (r ∷ rs) = lead-le-of (f r) (lead f rs) (length rs) (lead-le f rs)

-- tests that agree on every row: as many rows lead
pub lead-same : {R : Type 0} (f g : R → Bool) (rs : List R) → Each (λ r. f r ≡ g r) rs → lead f rs ≡ lead g rs
unfolding lead Each
lead-same f g [] h = refl
lead-same f g (r ∷ rs) h = rw (h.0, lead-same f g rs h.1)

module _ {R : Type 0} (f : R → Bool) where
  each-at-false : (rs : List R) (k : ℕ) (d : R) → Each (λ s. f s ≡ false) rs → k < length rs → f (get_or rs k d) ≡ false
  each-at-false rs k d h b = each_at (λ s. f s ≡ false) rs k d h b

  lead-above-of : (t : Bool) (r : R) (rs : List R) (k : ℕ) (d : R) → f r ≡ t → Falls f (r ∷ rs) → suc k < suc (length rs) → f (get_or rs k d) ≡ true → k < lead f rs → suc k < lead_of t (lead f rs)
  unfolding lead_of Falls
  lead-above-of true r rs k d e h b g i = omega arith
  lead-above-of false r rs k d e h b g i = absurd (false≢true (sym (each-at-false rs k d (h.0 e) (le_of_suc-le-suc b)) ∙ g))

  pub lead-above : (rs : List R) (k : ℕ) (d : R) → Falls f rs → k < length rs → f (get_or rs k d) ≡ true → k < lead f rs
  unfolding lead lead_of Falls
  lead-above [] k d h b g = absurd (not-suc-le-zero b)
  lead-above (r ∷ rs) zero d h b g = rw g (omega arith)
  lead-above (r ∷ rs) (suc k) d h b g = lead-above-of (f r) r rs k d refl h b g (lead-above rs k d h.1 (le_of_suc-le-suc b) g)

  pub lead-below : (rs : List R) (k : ℕ) (d : R) → k < length rs → f (get_or rs k d) ≡ false → lead f rs ≤ k
  unfolding lead lead_of
  lead-below [] k d b g = absurd (not-suc-le-zero b)
  lead-below (r ∷ rs) zero d b g = rw g (omega arith)
  lead-below (r ∷ rs) (suc k) d b g = lead-le-of (f r) (lead f rs) k (lead-below rs k d (le_of_suc-le-suc b) g)

module _ {R : Type 0} (f : R → Bool) (read : List ℕ → R) (s : ℕ) (l : List ℕ) (at n k : ℕ) (h : k < n) where
  pub seek-up : Falls f (table read s l at n) → f (read (part l (at + s * k) s)) ≡ true → k < lead f (table read s l at n)
  seek-up g e = lead-above f (table read s l at n) k (read []) g (rw length-table h) (ap f (table_at read s l at n k (read []) h) ∙ e)

  pub seek-down : f (read (part l (at + s * k) s)) ≡ false → lead f (table read s l at n) ≤ k
  seek-down e = lead-below f (table read s l at n) k (read []) (rw length-table h) (ap f (table_at read s l at n k (read []) h) ∙ e)

-- ---- a search by halving: where a test of the places of rows splits them

module _ {R : Type 0} (f : R → Bool) (read : List ℕ → R) (s : ℕ) (l : List ℕ) (base used : ℕ) (g : Falls f (table read s l base used)) where
  -- whether the row at a place passes
  abbrev pub passes_at : ℕ → Bool
  passes_at k = f (read (part l (base + s * k) s))

  -- below a place that fails, the rows that lead end
  falls-places : FallsBelow passes_at used
  falls-places = record { falls = λ j k b h e. go j k b h e (passes_at k) refl }
    where
      go : (j k : ℕ) → j ≤ k → k < used → passes_at j ≡ false → (t : Bool) → passes_at k ≡ t → passes_at k ≡ false
      go j k b h e true q = absurd (omega (arith, seek-up f read s l base used k h g q, seek-down f read s l base used j (omega arith) e))
      go j k b h e false q = q

  split-lead : (r : ℕ) → SplitsAt passes_at used r → r ≡ lead f (table read s l base used)
  split-lead r p = le_antisymm (low r p.bound p.holds) (high (dec_lt r used))
    where
      low : (n : ℕ) → n ≤ used → ((k : ℕ) → k < n → passes_at k ≡ true) → n ≤ lead f (table read s l base used)
      low zero b h = omega arith
      low (suc n) b h = seek-up f read s l base used n (omega arith) g (h n (omega arith))

      high : Dec (r < used) → lead f (table read s l base used) ≤ r
      high (yes h) = seek-down f read s l base used r h (p.fails r (omega arith) h)
      high (no h) = omega (arith, lead-le f (table read s l base used), length-table read s l base used)

  -- what `seek` finds among rows, where its test tells of each whether it passes
  pub seek-lead : {tells : ℕ → Bool → Type 0} {r : ℕ} → ((p : ℕ → Bool) → TellsBelow tells p used → FallsBelow p used → SplitsAt p used r)
      → ((k : ℕ) (t : Bool) → k < used → tells k t → t ≡ passes_at k) → (r ≡ lead f (table read s l base used)) × (r ≤ used)
  seek-lead {r = r} split t =
      let p = split passes_at (record { told = t }) falls-places in
      (split-lead r p, p.bound)

-- the rows before low pass the test, and those from high on fail it
module _ {R : Type 0} (f : R → Bool) (read : List ℕ → R) (s : ℕ) (l : List ℕ) (base used : ℕ) where
  abbrev pub Between : ℕ → ℕ → Type 0
  Between low high = (low ≤ lead f (table read s l base used)) × (lead f (table read s l base used) ≤ high) × (high ≤ used)

  pub none_between : (low high : ℕ) → Between low high → high ≤ low → (low ≡ lead f (table read s l base used)) × (low ≤ used)
  none_between low high b h = omega arith

-- ---- rows in order

-- in ascending rows, once a row is not under a key, none behind it is
pub asc-falls : {R : Type 0} (lt : R → R → Type 0) (f : R → Bool) → ((a b : R) → lt a b → f a ≡ false → f b ≡ false) → (rs : List R) → Asc lt rs → Falls f rs
unfolding Asc Falls
asc-falls lt f h [] a = tt
asc-falls lt f h (r ∷ rs) a = ((λ e. each_map (lt r) (λ s. f s ≡ false) (λ s l. h r s l e) rs a.0), asc-falls lt f h rs a.1)

pub find_none : {R : Type 0} (hit : R → Bool) (rs : List R) → Each (λ r. hit r ≡ false) rs → find hit rs ≡ none
unfolding find Each pick
find_none hit [] h = refl
find_none hit (r ∷ rs) h = rw h.0 (find_none hit rs h.1)

module _ {R : Type 0} (f hit : R → Bool) (d : R) (not-under : (r : R) → f r ≡ true → hit r ≡ false) where
  -- the row that a search ends at is the one looked for
  pub find-found : (rs : List R) → lead f rs < length rs → hit (get_or rs (lead f rs) d) ≡ true → find hit rs ≡ some (get_or rs (lead f rs) d)
  unfolding find lead lead_of pick
  find-found [] h e = absurd (not-suc-le-zero h)
  find-found (r ∷ rs) h e = go (f r) refl h e (find-found rs)
    where
      go : (t : Bool) → f r ≡ t → lead_of t (lead f rs) < suc (length rs) → hit (get_or (r ∷ rs) (lead_of t (lead f rs)) d) ≡ true
          → (lead f rs < length rs → hit (get_or rs (lead f rs) d) ≡ true → find hit rs ≡ some (get_or rs (lead f rs) d))
          → find hit (r ∷ rs) ≡ some (get_or (r ∷ rs) (lead_of t (lead f rs)) d)
      go true q k z i = rw (not-under r q) (i (le_of_suc-le-suc k) z)
      go false q k z i = rw z

  -- it is not, or there is none: the row looked for is not there
  pub find-missing : (rs : List R) → Falls f rs → Asc (λ a b. f a ≡ false → hit a ≡ false → hit b ≡ false) rs → (lead f rs < length rs → hit (get_or rs (lead f rs) d) ≡ false) → find hit rs ≡ none
  unfolding find lead lead_of pick Asc Falls
  find-missing [] w o h = refl
  find-missing (r ∷ rs) w o h = go (f r) refl h (find-missing rs w.1 o.1)
    where
      go : (t : Bool) → f r ≡ t → (lead_of t (lead f rs) < suc (length rs) → hit (get_or (r ∷ rs) (lead_of t (lead f rs)) d) ≡ false)
          → ((lead f rs < length rs → hit (get_or rs (lead f rs) d) ≡ false) → find hit rs ≡ none) → find hit (r ∷ rs) ≡ none
      go true q z i = rw (not-under r q) (i (λ k. z (omega arith)))
      go false q z i =
          let a : hit r ≡ false = z (omega arith) in
          rw a (find_none hit rs (each_map (λ b. f r ≡ false → hit r ≡ false → hit b ≡ false) (λ b. hit b ≡ false) (λ b k. k q a) rs o.0))

-- ---- rows that lead are passed over

module _ {R : Type 0} (f hit : R → Bool) (missed : (r : R) → f r ≡ true → hit r ≡ false) where
  pub find-behind : (rs : List R) → find hit rs ≡ find hit (drop (lead f rs) rs)
  unfolding find lead lead_of pick
  find-behind [] = refl
  find-behind (r ∷ rs) = go (f r) refl (find-behind rs)
    where
      go : (b : Bool) → f r ≡ b → find hit rs ≡ find hit (drop (lead f rs) rs) → find hit (r ∷ rs) ≡ find hit (drop (lead_of b (lead f rs)) (r ∷ rs))
      go true e h = rw (missed r e) h
      go false e h = refl

-- the row behind them does not pass
pub lead-ends : {R : Type 0} (f : R → Bool) (d : R) (rs : List R) → lead f rs < length rs → f (get_or rs (lead f rs) d) ≡ false
unfolding lead lead_of
lead-ends f d [] h = absurd (not-suc-le-zero h)
lead-ends f d (r ∷ rs) h = go (f r) refl h (lead-ends f d rs)
  where
    go : (b : Bool) → f r ≡ b → lead_of b (lead f rs) < suc (length rs) → (lead f rs < length rs → f (get_or rs (lead f rs) d) ≡ false) → f (get_or (r ∷ rs) (lead_of b (lead f rs)) d) ≡ false
    go true e k i = i (omega arith)
    go false e k i = e

-- behind a row that fails, none passes
pub falls-drop : {R : Type 0} (f : R → Bool) (d : R) (rs : List R) (i : ℕ) → Falls f rs → i < length rs → f (get_or rs i d) ≡ false → Each (λ r. f r ≡ false) (drop i rs)
unfolding Falls Each
falls-drop f d [] i h b e = absurd (not-suc-le-zero b)
falls-drop f d (r ∷ rs) zero h b e = (e, h.0 e)
falls-drop f d (r ∷ rs) (suc i) h b e = falls-drop f d rs i h.1 (omega arith) e

-- ---- from a row on

module _ {R : Type 0} (f : R → Bool) (d : R) (rs : List R) (i : ℕ) (h : i < length rs) where
  pub from_more : f (get_or rs i d) ≡ true → lead f (drop i rs) ≡ 1 + lead f (drop (i + 1) rs)
  unfolding lead lead_of
  from_more e = rw (drop-cons rs i d h, e, add-one, one-add)

  pub from-stop : f (get_or rs i d) ≡ false → lead f (drop i rs) ≡ 0
  unfolding lead lead_of
  from-stop e = rw (drop-cons rs i d h, e)

-- ---- two tests, of which the second lets at most one row more pass

module _ {R : Type 0} (f g : R → Bool) (d : R) (wider : (r : R) → f r ≡ true → g r ≡ true) where
  pub lead-stays : (rs : List R) → (lead f rs < length rs → g (get_or rs (lead f rs) d) ≡ false) → lead g rs ≡ lead f rs
  unfolding lead lead_of
  lead-stays [] h = refl
  lead-stays (r ∷ rs) h = go (f r) refl h (lead-stays rs)
    where
      go : (t : Bool) → f r ≡ t → (lead_of t (lead f rs) < suc (length rs) → g (get_or (r ∷ rs) (lead_of t (lead f rs)) d) ≡ false)
          → ((lead f rs < length rs → g (get_or rs (lead f rs) d) ≡ false) → lead g rs ≡ lead f rs) → lead_of (g r) (lead g rs) ≡ lead_of t (lead f rs)
      go true q z i = rw (wider r q) (ap suc (i (λ b. z (omega arith))))
      go false q z i = let e : g r ≡ false = z (omega arith) in rw e

  module _ (lt : R → R → Type 0) (after : (a b : R) → lt a b → f a ≡ false → g b ≡ false) where
    stops : (r : R) (rs : List R) → f r ≡ false → Each (lt r) rs → lead g rs ≡ 0
    unfolding lead lead_of Each
    stops r [] q h = refl
    stops r (s ∷ rs) q h = rw (after r s h.0 q)

    pub lead-next : (rs : List R) → Asc lt rs → lead f rs < length rs → g (get_or rs (lead f rs) d) ≡ true → lead g rs ≡ lead f rs + 1
    unfolding lead lead_of Asc
    lead-next [] a b h = absurd (not-suc-le-zero b)
    lead-next (r ∷ rs) a b h = go (f r) refl b h (lead-next rs a.1)
      where
        go : (t : Bool) → f r ≡ t → lead_of t (lead f rs) < suc (length rs) → g (get_or (r ∷ rs) (lead_of t (lead f rs)) d) ≡ true
            → (lead f rs < length rs → g (get_or rs (lead f rs) d) ≡ true → lead g rs ≡ lead f rs + 1) → lead_of (g r) (lead g rs) ≡ lead_of t (lead f rs) + 1
        go true q b z i = let e : lead g rs ≡ lead f rs + 1 = i (le_of_suc-le-suc b) z in rw (wider r q) (omega arith)
        go false q b z i = rw (z, stops r rs q a.0)

-- ---- a row put in

-- a row put in where the test first fails, and the test fails on it: it first fails there
pub lead-insert : {R : Type 0} (f : R → Bool) (r : R) (rs : List R) → f r ≡ false → lead f (insert_at (lead f rs) r rs) ≡ lead f rs
unfolding lead lead_of insert_at
lead-insert f r [] e = rw e
lead-insert f r (s ∷ rs) e = go (f s) refl (lead-insert f r rs e)
  where
    go : (b : Bool) → f s ≡ b → lead f (insert_at (lead f rs) r rs) ≡ lead f rs → lead f (insert_at (lead_of b (lead f rs)) r (s ∷ rs)) ≡ lead_of b (lead f rs)
    go true q h = rw q (ap suc h)
    go false q h = rw e

-- those that lead are counted from any of them on
pub lead-from : {R : Type 0} (f : R → Bool) (rs : List R) (p : ℕ) → p ≤ lead f rs → lead f rs ≡ p + lead f (drop p rs)
unfolding lead lead_of
lead-from f rs zero h = sym (zero-add (lead f rs))
lead-from f [] (suc p) h = absurd (not-suc-le-zero h)
lead-from f (r ∷ rs) (suc p) h = go (f r) h (lead-from f rs p)
  where
    go : (t : Bool) → suc p ≤ lead_of t (lead f rs) → (p ≤ lead f rs → lead f rs ≡ p + lead f (drop p rs)) → lead_of t (lead f rs) ≡ suc p + lead f (drop p rs)
    go true k i = omega (arith, i (le_of_suc-le-suc k))
    go false k i = absurd (not-suc-le-zero k)

-- a walk along the rows from row first on; t is how many lead in all, i the row that the walk has come to
module _ {R : Type 0} (f : R → Bool) (d : R) (rs : List R) (first : ℕ) where
  pub walk_start : lead f (drop first rs) ≡ first - first + lead f (drop first rs)
  walk_start = omega arith

  module _ (i : ℕ) {t : ℕ} (so_far : t ≡ i - first + lead f (drop i rs)) (l : first ≤ i) where
    pub walk_turn : {r : R} → i < length rs → r ≡ get_or rs i d → f r ≡ true → t ≡ i + 1 - first + lead f (drop (i + 1) rs)
    walk_turn h q e = omega (arith, from_more f d rs i h (ap f (sym q) ∙ e))

    pub walk-stop : {r : R} → i < length rs → r ≡ get_or rs i d → f r ≡ false → i - first ≡ t
    walk-stop h q e = omega (arith, from-stop f d rs i h (ap f (sym q) ∙ e))

    pub walk_end : length rs ≤ i → i - first ≡ t
    walk_end h = omega (arith, none_left)
      where
        none_left : lead f (drop i rs) ≡ 0
        none_left = unfold lead in rw (drop_of_length-le rs h)
