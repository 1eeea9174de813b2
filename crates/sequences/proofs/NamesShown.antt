-- The names that directories show once an entry was put in: its own directory's with one name more, behind the others; the other directories' as they were.
-- Assumes nothing.
use mathlib.Core.Path.{◌≡◌, refl, sym, ap, ◌∙◌}
use mathlib.Core.Bool.{Bool, true, false}
use mathlib.Core.Logic.{inl, inr}
use mathlib.Core.List.{List, [], ◌∷◌, ◌++◌, map, map-append}
use Prim.Native.Nat.{ℕ, ◌+◌, ◌≤◌, ◌<◌, max}
use native.Mathlib.Omega.{arith}
use lib.Dec.{eqb, ltb}
use lib.ListN.{take, drop, take-append-drop}
use borrow.Author.Tests.{eq-eqb, ne_eqb}
use Rattle.words.specs.Rules.{pick, both, Says, holds, fails}
use Rattle.words.specs.Tables.{Each, Asc, only, lead}
use Rattle.words.proofs.Rules.{says-ltb}
use Rattle.words.proofs.Order.{each_map, each-drop}
use Rattle.words.proofs.Counting.{pass-none}
use Rattle.words.proofs.Middle.{asc-behind, each-pair, put_in}
use Rattle.volume.specs.Rows.{Entry}
use Rattle.volume.specs.Search.{entry_under}
use Rattle.volume.specs.Sound.{entries_of, entry_before}
use Rattle.names.specs.Entries.{greatest}
use Rattle.names.specs.Entering.{new_entry, entered}
use Rattle.names.proofs.Entered.{greatest-above, order-entered}
use Rattle.sequences.specs.Show.{name_seen, names_in}
use Rattle.sequences.specs.Act.{greatest_seen}

-- ---- the rows that pass a test, where one row more stands in the middle

module _ {R : Type 0} (g : R → Bool) where
  -- where every row fails, none passes
  only_none : (rs : List R) → Each (λ s. g s ≡ false) rs → only g rs ≡ []
  unfolding only pick Each
  only_none [] h = refl
  only_none (s ∷ rs) h = rw h.0 (only_none rs h.1)

  module _ (r : R) where
    -- the row fails
    only-failed : (b a : List R) → g r ≡ false → only g (b ++ (r ∷ a)) ≡ only g (b ++ a)
    unfolding only pick
    only-failed [] a e = rw e
    only-failed (x ∷ b) a e = rw (only-failed b a e)

    -- it passes, and none behind it does: it is the last one
    only-last : (b a : List R) → g r ≡ true → Each (λ s. g s ≡ false) a → only g (b ++ (r ∷ a)) ≡ only g (b ++ a) ++ (r ∷ [])
    unfolding only pick
    only-last [] a e h = rw (e, only_none a h)
    only-last (x ∷ b) a e h = go (g x) (only-last b a e h)
      where
        go : (t : Bool) → only g (b ++ (r ∷ a)) ≡ only g (b ++ a) ++ (r ∷ []) → pick t (x ∷ only g (b ++ (r ∷ a))) (only g (b ++ (r ∷ a))) ≡ pick t (x ∷ only g (b ++ a)) (only g (b ++ a)) ++ (r ∷ [])
        go true ih = ap (λ (l : List R). x ∷ l) ih
        go false ih = ih

-- ---- a directory without entries, and the greatest index of any

pub names-none : (n : ℕ) (es : List Entry) → entries_of n es ≡ 0 → names_in n es ≡ []
unfolding entries_of names_in
names-none n es h = ap (map name_seen) (only_none (λ e. eqb e.parent n) es (pass-none (λ e. eqb e.parent n) es h))

pick-greater : (i k : ℕ) → pick (ltb k i) i k ≡ max i k
unfolding pick
pick-greater i k = go (ltb k i) (says-ltb k i)
  where
    go : (t : Bool) → Says (k < i) t → pick t i k ≡ max i k
    go true (holds h) = omega arith
    go false (fails h) = omega arith

pub greatest-seen : (p : ℕ) (es : List Entry) → greatest p es ≡ greatest_seen (names_in p es)
unfolding greatest greatest_seen names_in only pick both
greatest-seen p [] = refl
greatest-seen p (e ∷ es) = go (eqb e.parent p) (greatest-seen p es)
  where
    its : List Entry
    its = only (λ c. eqb c.parent p) es

    go : (t : Bool) → greatest p es ≡ greatest_seen (map name_seen its) → pick (both t (ltb (greatest p es) e.index)) e.index (greatest p es) ≡ greatest_seen (map name_seen (pick t (e ∷ its) its))
    go true ih = pick-greater e.index (greatest p es) ∙ ap (max e.index) ih
    go false ih = ih

-- ---- an entry put in

module _ (p : ℕ) (name : List ℕ) (n : ℕ) (es : List Entry) where
  abbrev new : Entry
  new = new_entry p name n es

  abbrev place : ℕ
  place = lead (entry_under p (greatest p es + 1)) es

  abbrev is_in : ℕ → Entry → Bool
  is_in m e = eqb e.parent m

  entered-in : entered new es ≡ take place es ++ (new ∷ drop place es)
  unfolding entered
  entered-in = put_in place new es

  -- behind it stands no entry of its directory: none there has a greater index
  none-later : Asc entry_before es → Each (λ e. is_in p e ≡ false) (drop place es)
  none-later o =
      each_map _ _ later (drop place es)
      (each-pair (entry_before new) (λ e. e.parent ≡ p → e.index ≤ greatest p es) (drop place es)
      (asc-behind entry_before new (take place es) (drop place es) (rw entered-in at (order-entered p name n es o))) (each-drop _ place es (greatest-above p es)))
    where
      later : (e : Entry) → entry_before new e × (e.parent ≡ p → e.index ≤ greatest p es) → is_in p e ≡ false
      later e (inl h, k) = ne_eqb e.parent p (λ q. omega arith)
      later e (inr h, k) = ne_eqb e.parent p (λ q. omega (arith, h.1, k q))

  pub names-entered : Asc entry_before es → names_in p (entered new es) ≡ names_in p es ++ (record { index = greatest_seen (names_in p es) + 1; node = n; name = name } ∷ [])
  unfolding names_in
  names-entered o =
      ap (λ l. map name_seen (only (is_in p) l)) entered-in
      ∙ ap (map name_seen) (only-last (is_in p) new (take place es) (drop place es) (eq-eqb p p refl) (none-later o))
      ∙ ap (λ l. map name_seen (only (is_in p) l ++ (new ∷ []))) (take-append-drop place es)
      ∙ map-append name_seen (only (is_in p) es) (new ∷ [])
      ∙ ap (λ (i : ℕ). names_in p es ++ (record { index = i + 1; node = n; name = name } ∷ [])) (greatest-seen p es)

  pub names-entered-other : (m : ℕ) → (m ≡ p → ⊥) → names_in m (entered new es) ≡ names_in m es
  unfolding names_in
  names-entered-other m h =
      ap (λ l. map name_seen (only (is_in m) l)) entered-in
      ∙ ap (map name_seen) (only-failed (is_in m) new (take place es) (drop place es) (ne_eqb p m (λ q. h (sym q))))
      ∙ ap (λ l. map name_seen (only (is_in m) l)) (take-append-drop place es)
