-- The entries of a directory at or above an index stand together in the table, behind those below it; and those from one of them on are
-- the ones at or above its index.
-- Assumes nothing.
use mathlib.Core.Path.{◌≡◌, refl, sym, ap, ◌∙◌}
use mathlib.Core.Bool.{Bool, true, false, true≢false}
use mathlib.Core.List.{List, [], ◌∷◌}
use mathlib.Core.Logic.{inl, inr}
use Prim.Native.Nat.{ℕ, zero, suc, ◌≤◌, ◌<◌}
use native.Mathlib.Nat.{not-suc-le-zero, le_of_suc-le-suc}
use native.Mathlib.Omega.{arith}
use native.Mathlib.Decide.{dec_lt}
use lib.Dec.{eqb}
use lib.ListN.{length, take, drop, get_or}
use borrow.Author.Tests.{eqb-true, eqb-false}
use Rattle.words.specs.Rules.{pick, Says}
use Rattle.words.specs.Tables.{lead, find, Each, Asc, only}
use Rattle.words.proofs.Order.{each_at, each_map, asc-map}
use Rattle.words.proofs.Only.{asc-only}
use Rattle.words.proofs.Middle.{each-pair}
use Rattle.words.proofs.Rules.{says-true, true-says, says-false, false-says, says_both, says-eqb, says-leb}
use Rattle.words.proofs.Runs.{Past, run}
use Rattle.words.proofs.Search.{asc-falls}
use Rattle.volume.specs.Rows.{Entry, read_entry}
use Rattle.volume.specs.Search.{PairBefore, entry_under}
use Rattle.volume.specs.Sound.{entry_before}
use Rattle.volume.proofs.PairOrder.{says-pair}
use Rattle.tables.proofs.TableSearch.{entry-falls}
use Rattle.names.specs.Entries.{from_index}
use Rattle.names.specs.Searching.{entries_from}

-- ---- rows that pass a test

module _ {R : Type 0} where
  -- all do
  only-all : (g : R → Bool) (rs : List R) → Each (λ r. g r ≡ true) rs → only g rs ≡ rs
  unfolding only pick Each
  only-all g [] h = refl
  only-all g (r ∷ rs) h = rw h.0 (ap (λ (l : List R). r ∷ l) (only-all g rs h.1))

  -- those that pass a second one, which is narrower
  only-only : (f g : R → Bool) → ((r : R) → g r ≡ true → f r ≡ true) → (rs : List R) → only g (only f rs) ≡ only g rs
  unfolding only pick
  only-only f g narrow [] = refl
  only-only f g narrow (r ∷ rs) = go (f r) refl (g r) refl (only-only f g narrow rs)
    where
      go : (a : Bool) → f r ≡ a → (b : Bool) → g r ≡ b → only g (only f rs) ≡ only g rs → only g (pick a (r ∷ only f rs) (only f rs)) ≡ pick b (r ∷ only g rs) (only g rs)
      go true p true q ih = rw q (ap (λ (l : List R). r ∷ l) ih)
      go true p false q ih = rw q ih
      go false p true q ih = absurd (true≢false (sym (narrow r q) ∙ p))
      go false p false q ih = ih

  pub each-passes : (g : R → Bool) (rs : List R) → Each (λ r. g r ≡ true) (only g rs)
  unfolding only pick Each
  each-passes g [] = tt
  each-passes g (r ∷ rs) = go (g r) refl (each-passes g rs)
    where
      go : (b : Bool) → g r ≡ b → Each (λ s. g s ≡ true) (only g rs) → Each (λ s. g s ≡ true) (pick b (r ∷ only g rs) (only g rs))
      go true e ih = (e, ih)
      go false e ih = ih

  -- tests that agree on every row find the same one
  pub find-same : (f g : R → Bool) (rs : List R) → Each (λ r. f r ≡ g r) rs → find f rs ≡ find g rs
  unfolding find Each
  find-same f g [] h = refl
  find-same f g (r ∷ rs) h = rw (h.0, find-same f g rs h.1)

  -- of rows in order, those from one of them on
  only-from : (g : R → Bool) (lt : R → R → Type 0) (d : R) (rs : List R) (i : ℕ) → i < length rs → Asc lt rs → ((x : R) → lt x (get_or rs i d) → g x ≡ false) → g (get_or rs i d) ≡ true
      → ((x : R) → lt (get_or rs i d) x → g x ≡ true) → only g rs ≡ drop i rs
  unfolding only pick Asc
  only-from g lt d [] i h a low here high = absurd (not-suc-le-zero h)
  only-from g lt d (r ∷ rs) zero h a low here high = rw here (ap (λ (l : List R). r ∷ l) (only-all g rs (each_map (lt r) (λ s. g s ≡ true) (λ s l. high s l) rs a.0)))
  only-from g lt d (r ∷ rs) (suc i) h a low here high =
      let k : i < length rs = le_of_suc-le-suc h in
      rw (low r (each_at (lt r) rs i d a.0 k)) (only-from g lt d rs i k a.1 low here high)

  -- what holds of each row holds of both of two in order
  asc-each : (P : R → Type 0) (lt : R → R → Type 0) (rs : List R) → Each P rs → Asc lt rs → Asc (λ a b. P a × P b × lt a b) rs
  unfolding Asc Each
  asc-each P lt [] p a = tt
  asc-each P lt (r ∷ rs) p a = (each_map (λ s. P s × lt r s) (λ s. P r × P s × lt r s) (λ s k. (p.0, k.0, k.1)) rs (each-pair P (lt r) rs p.1 a.0), asc-each P lt rs p.1 a.1)

-- ---- entries

pub says-from : (d from : ℕ) (e : Entry) → Says ((e.parent ≡ d) × (from ≤ e.index)) (from_index d from e)
says-from d from e = says_both (says-eqb e.parent d) (says-leb from e.index)

module _ (d from : ℕ) where
  abbrev pub mine : Entry → Bool
  mine e = eqb e.parent d

  pub under-out : (e : Entry) → entry_under d from e ≡ true → from_index d from e ≡ false
  under-out e u = false-says (says-from d from e) (λ p. go p (says-true (says-pair e.parent e.index d from) u))
    where
      go : (e.parent ≡ d) × (from ≤ e.index) → PairBefore e.parent e.index d from → ⊥
      go p (inl l) = omega arith
      go p (inr q) = omega arith

  others-mine : (e : Entry) → entry_under d from e ≡ false → from_index d from e ≡ mine e
  others-mine e u = go (mine e) refl (dec_lt e.index from)
    where
      go : (b : Bool) → mine e ≡ b → Dec (e.index < from) → from_index d from e ≡ b
      go true q (yes l) = absurd (says-false (says-pair e.parent e.index d from) u (inr (eqb-true e.parent d q, l)))
      go true q (no l) = true-says (says-from d from e) (eqb-true e.parent d q, omega arith)
      go false q l = false-says (says-from d from e) (λ p. eqb-false e.parent d q p.0)

  -- behind a row of another directory that is not below the key, none is of this one
  past-mine : (a b : Entry) → entry_before a b → Past (entry_under d from) mine a b
  past-mine a b o u n = false-says (says-eqb b.parent d) (λ q. go o q)
    where
      go : entry_before a b → b.parent ≡ d → ⊥
      go (inl l) q = says-false (says-pair a.parent a.index d from) u (inl (omega arith))
      go (inr p) q = eqb-false a.parent d n (p.0 ∙ q)

  module _ (es : List Entry) (asc : Asc entry_before es) where
    -- where they start, and how many they are
    pub entries-run : entries_from d from es ≡ take (lead mine (drop (lead (entry_under d from) es) es)) (drop (lead (entry_under d from) es) es)
    unfolding entries_from
    entries-run = (run (entry_under d from) mine (from_index d from) under-out others-mine es (asc-falls entry_before (entry_under d from) (entry-falls d from) es asc) (asc-map entry_before (Past (entry_under d from) mine) past-mine es asc)).0

    abbrev InOrder : Entry → Entry → Type 0
    InOrder a b = ((a.parent ≡ d) × (from ≤ a.index)) × ((b.parent ≡ d) × (from ≤ b.index)) × entry_before a b

    -- those from one of them on
    pub entries-on : (i : ℕ) → i < length (entries_from d from es) → entries_from d (get_or (entries_from d from es) i (read_entry [])).index es ≡ drop i (entries_from d from es)
    unfolding entries_from
    entries-on i h =
        sym (only-only (from_index d from) (from_index d at.index) narrow es)
        ∙ only-from (from_index d at.index) InOrder (read_entry []) xs i h in_order low (true-says (says-from d at.index at) (its.0, omega arith)) high
      where
        xs : List Entry
        xs = only (from_index d from) es

        at : Entry
        at = get_or xs i (read_entry [])

        both_of : Each (λ e. (e.parent ≡ d) × (from ≤ e.index)) xs
        both_of = each_map (λ e. from_index d from e ≡ true) (λ e. (e.parent ≡ d) × (from ≤ e.index)) (λ e k. says-true (says-from d from e) k) xs (each-passes (from_index d from) es)

        its : (at.parent ≡ d) × (from ≤ at.index)
        its = each_at (λ e. (e.parent ≡ d) × (from ≤ e.index)) xs i (read_entry []) both_of h

        in_order : Asc InOrder xs
        in_order = asc-each (λ e. (e.parent ≡ d) × (from ≤ e.index)) entry_before xs both_of (asc-only entry_before (from_index d from) es asc)

        narrow : (e : Entry) → from_index d at.index e ≡ true → from_index d from e ≡ true
        narrow e k = let p = says-true (says-from d at.index e) k in true-says (says-from d from e) (p.0, omega (arith, its.1))

        index-before : (a b : Entry) → InOrder a b → a.index < b.index
        index-before a b (p, q, inl l) = absurd (omega (arith, p.0, q.0))
        index-before a b (p, q, inr l) = l.1

        low : (x : Entry) → InOrder x at → from_index d at.index x ≡ false
        low x k = let l = index-before x at k in false-says (says-from d at.index x) (λ z. omega (arith, z.1))

        high : (x : Entry) → InOrder at x → from_index d at.index x ≡ true
        high x k = let l = index-before at x k in true-says (says-from d at.index x) (k.1.0, omega arith)
