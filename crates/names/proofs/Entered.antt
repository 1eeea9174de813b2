-- An entry more: its index is new in its directory, the entries keep their order and their names, and the counts rise by it.
-- Assumes nothing.
use mathlib.Core.Path.{◌≡◌, refl, sym, ap, ◌∙◌}
use mathlib.Core.Bool.{Bool, false}
use mathlib.Core.Logic.{inl, inr}
use mathlib.Core.List.{List, [], ◌∷◌}
use mathlib.Core.Option.{none, some}
use Prim.Native.Nat.{ℕ, suc, ◌+◌, ◌≤◌, ◌<◌}
use native.Mathlib.Decide.{dec_lt}
use native.Mathlib.Omega.{arith}
use lib.Dec.{eqb}
use lib.ListN.{length, take, drop, take-append-drop}
use Rattle.words.specs.Rules.{pick, bit, times, Says, holds, fails}
use Rattle.words.specs.Tables.{Each, Asc, lead}
use Rattle.words.proofs.Rules.{says-true, true-says, says-false, false-says, says-eqb, says-ltb, says_both}
use Rattle.words.proofs.Blocks.{says_same}
use Rattle.words.proofs.Order.{each_map, each_take, each-drop, each-insert, insert-asc}
use Rattle.words.proofs.Tables.{length-insert_at}
use Rattle.words.proofs.Search.{lead-le}
use Rattle.words.proofs.FoundRows.{none_passes, find-insert-other, find-insert-here}
use Rattle.volume.specs.Rows.{Entry}
use Rattle.volume.specs.Framed.{EntryFits}
use Rattle.volume.specs.Search.{PairBefore, entry_under}
use Rattle.volume.specs.Sound.{naming, entries_of, entry_before}
use Rattle.volume.proofs.PairOrder.{says-pair, pair-trans}
use Rattle.names.specs.Entries.{has_name, entry_named, greatest}
use Rattle.names.specs.Entering.{most_index, new_entry, entered}
use Rattle.words.proofs.Middle.{asc-in, times-in, put_in}

-- ---- the greatest index of a directory

module _ (p : ℕ) where
  -- it is at least that of the entries behind the first, and that of the first if it is one of the directory
  greatest-first : (x : Entry) (es : List Entry) → (greatest p es ≤ greatest p (x ∷ es)) × (x.parent ≡ p → x.index ≤ greatest p (x ∷ es))
  unfolding greatest pick
  greatest-first x es = go (says_both (says-eqb x.parent p) (says-ltb (greatest p es) x.index))
    where
      go : {b : Bool} → Says ((x.parent ≡ p) × (greatest p es < x.index)) b → (greatest p es ≤ pick b x.index (greatest p es)) × (x.parent ≡ p → x.index ≤ pick b x.index (greatest p es))
      go (holds h) = (omega (arith, h.1), λ _. omega arith)
      go (fails h) = (omega arith, λ e. here e (dec_lt (greatest p es) x.index))
        where
          here : x.parent ≡ p → Dec (greatest p es < x.index) → x.index ≤ greatest p es
          here e (yes k) = absurd (h (e, k))
          here e (no k) = omega arith

  -- no entry of the directory has a greater one
  pub greatest-above : (es : List Entry) → Each (λ e. e.parent ≡ p → e.index ≤ greatest p es) es
  unfolding Each
  greatest-above [] = tt
  greatest-above (x ∷ es) = let f = greatest-first x es in (f.1, each_map _ _ (λ e h q. omega (arith, f.0, h q)) es (greatest-above es))

  -- it is at most what every index of the directory is at most
  pub greatest-within : (m : ℕ) (es : List Entry) → Each (λ e. e.parent ≡ p → e.index ≤ m) es → greatest p es ≤ m
  unfolding greatest pick Each
  greatest-within m [] h = omega arith
  greatest-within m (x ∷ es) h = go (says_both (says-eqb x.parent p) (says-ltb (greatest p es) x.index)) (greatest-within m es h.1)
    where
      go : {b : Bool} → Says ((x.parent ≡ p) × (greatest p es < x.index)) b → greatest p es ≤ m → pick b x.index (greatest p es) ≤ m
      go (holds k) i = h.0 k.0
      go (fails k) i = i

  pub greatest-most : (m : ℕ) (es : List Entry) → Each (λ e. e.index ≤ m) es → greatest p es ≤ m
  greatest-most m es h = greatest-within m es (each_map (λ e. e.index ≤ m) (λ e. e.parent ≡ p → e.index ≤ m) (λ e k _. k) es h)

  -- and where it is not the last there is, one is left
  pub index-left : (es : List Entry) → Each EntryFits es → (greatest p es ≡ most_index → ⊥) → greatest p es < most_index
  index-left es f h = omega (arith, greatest-most most_index es (each_map EntryFits (λ e. e.index ≤ most_index) (λ e k. omega (arith, k.index)) es f))

-- ---- an entry by its name

-- what the test says
pub says-named : (d : ℕ) (name : List ℕ) (e : Entry) → Says ((e.parent ≡ d) × (e.name ≡ name)) (has_name d name e)
says-named d name e = says_both (says-eqb e.parent d) (says_same e.name name)

-- ---- an entry among entries

module _ (e : Entry) (es : List Entry) where
  -- there is one more
  pub length-entered : length (entered e es) ≡ suc (length es)
  unfolding entered
  length-entered = omega (arith, length-insert_at (lead (entry_under e.parent e.index) es) e es (lead-le (entry_under e.parent e.index) es))

  -- what holds of it and of the others holds of all
  pub each-entered : (P : Entry → Type 0) → P e → Each P es → Each P (entered e es)
  unfolding entered
  each-entered P h k = each-insert P (lead (entry_under e.parent e.index) es) e es h k

  -- a count rises where it passes the test
  times-entered : (f : Entry → Bool) → times f (entered e es) ≡ bit (f e) + times f es
  unfolding entered
  times-entered f =
      let i = lead (entry_under e.parent e.index) es in
      ap (times f) (put_in i e es) ∙ times-in f e (take i es) (drop i es) ∙ ap (λ l. bit (f e) + times f l) (take-append-drop i es)

  -- a node is named once more, and a directory has one entry more
  pub naming-entered : (m : ℕ) → naming m (entered e es) ≡ bit (eqb e.node m) + naming m es
  unfolding naming
  naming-entered m = times-entered (λ c. eqb c.node m)

  pub entries-entered : (m : ℕ) → entries_of m (entered e es) ≡ bit (eqb e.parent m) + entries_of m es
  unfolding entries_of
  entries-entered m = times-entered (λ c. eqb c.parent m)

  -- pairs of entries, whatever is asked of them
  asc-entered : (lt : Entry → Entry → Type 0) → Asc lt es → Each (λ x. lt x e) es → Each (lt e) es → Asc lt (entered e es)
  unfolding entered
  asc-entered lt h b f =
      let i = lead (entry_under e.parent e.index) es in
      rw (put_in i e es) (asc-in lt e (take i es) (drop i es) (rw (take-append-drop i es) h) (each_take (λ x. lt x e) i es b) (each-drop (lt e) i es f))

  -- looked up by name: the others are as they were, and a new name finds the new entry
  pub named_other : (d : ℕ) (name : List ℕ) → ((e.parent ≡ d) × (e.name ≡ name) → ⊥) → entry_named d name (entered e es) ≡ entry_named d name es
  unfolding entry_named entered
  named_other d name h = find-insert-other (has_name d name) (lead (entry_under e.parent e.index) es) e es (false-says (says-named d name e) h)

  pub named_here : entry_named e.parent e.name es ≡ none → entry_named e.parent e.name (entered e es) ≡ some e
  unfolding entry_named entered
  named_here h = find-insert-here (has_name e.parent e.name) (lead (entry_under e.parent e.index) es) e es (true-says (says-named e.parent e.name e) (refl, refl)) h

  -- no name stands twice, if it is new
  pub once-entered : entry_named e.parent e.name es ≡ none → Asc (λ a b. a.parent ≡ b.parent → a.name ≡ b.name → ⊥) es → Asc (λ a b. a.parent ≡ b.parent → a.name ≡ b.name → ⊥) (entered e es)
  unfolding entry_named
  once-entered h o =
      let no = none_passes (has_name e.parent e.name) es h in
      asc-entered (λ a b. a.parent ≡ b.parent → a.name ≡ b.name → ⊥) o
      (each_map _ _ (λ x q s t. says-false (says-named e.parent e.name x) q (s, t)) es no) (each_map _ _ (λ x q s t. says-false (says-named e.parent e.name x) q (sym s, sym t)) es no)

-- ---- the order of entries

-- a pair that is not before (p, k), and is before it where it has p: it is behind it
beyond : (p k a b : ℕ) → (PairBefore a b p k → ⊥) → (a ≡ p → b < k) → p < a
beyond p k a b h under = go (dec_lt p a) (dec_lt a p)
  where
    go : Dec (p < a) → Dec (a < p) → p < a
    go (yes x) y = x
    go (no x) (yes y) = absurd (h (inl y))
    go (no x) (no y) = let e : a ≡ p = omega arith in absurd (h (inr (e, under e)))

-- the new entry stands behind those of its directory, and before those of later ones
pub order-entered : (p : ℕ) (name : List ℕ) (n : ℕ) (es : List Entry) → Asc entry_before es → Asc entry_before (entered (new_entry p name n es) es)
unfolding entered
order-entered p name n es a =
    let says : (r : Entry) → Says (PairBefore r.parent r.index p (greatest p es + 1)) (entry_under p (greatest p es + 1) r) = λ r. says-pair r.parent r.index p (greatest p es + 1) in
    insert-asc entry_before (λ x y z. pair-trans x.parent x.index y.parent y.index z.parent z.index) (entry_under p (greatest p es + 1)) (new_entry p name n es)
    (λ r q. says-true (says r) q) es a
    (each_map (λ e. e.parent ≡ p → e.index ≤ greatest p es) (λ r. entry_under p (greatest p es + 1) r ≡ false → entry_before (new_entry p name n es) r)
    (λ r h u. inl (beyond p (greatest p es + 1) r.parent r.index (says-false (says r) u) (λ q. omega (arith, h q)))) es (greatest-above p es))
