-- An entry by its directory and index: the one row that has them, found; the rows without it, counted. And the entry that a walk ends with.
-- Assumes nothing.
use mathlib.Core.Path.{◌≡◌, refl, sym, ap, ◌∙◌}
use mathlib.Core.Bool.{Bool, true, false}
use mathlib.Core.Logic.{inl, inr}
use mathlib.Core.List.{List, [], ◌∷◌}
use mathlib.Core.Option.{Option, none, some}
use Prim.Native.Nat.{ℕ, ◌+◌}
use native.Mathlib.Omega.{arith}
use lib.Dec.{eqb, ltb}
use lib.ListN.{length}
use Rattle.words.specs.Rules.{pick, bit, times, Says}
use Rattle.words.specs.Tables.{Each, Asc, find}
use Rattle.words.proofs.Rules.{says_both, says-eqb, says-true, true-says, false-says}
use Rattle.words.proofs.Order.{asc-map}
use Rattle.words.proofs.FoundRows.{found-each, each-found}
use Rattle.types.specs.Sizes.{most_name}
use Rattle.types.specs.declared.NodeRecord.{NodeRecord}
use Rattle.types.specs.declared.Error.TheVariants.{NoSuchEntry, BadName}
use Rattle.volume.specs.Rows.{Entry}
use Rattle.volume.specs.Volume.{Names}
use Rattle.volume.specs.Sound.{node, naming, entries_of, entry_before}
use Rattle.names.specs.Entries.{has_name, entry_named, on_entry}
use Rattle.names.specs.Walks.{Walk, reached, stopped, walk_parts, on_start, walk_from}
use Rattle.names.specs.Unlinking.{is_entry, without}
use Rattle.words.proofs.Middle.{Alone, alone, times-in}

-- what the test of both says
pub says-entry : (p i : ℕ) (e : Entry) → Says ((e.parent ≡ p) × (e.index ≡ i)) (is_entry p i e)
says-entry p i e = says_both (says-eqb e.parent p) (says-eqb e.index i)

-- ---- rows in order

-- of two in order they differ
before-differs : (x y : Entry) → entry_before x y → (x.parent ≡ y.parent) × (x.index ≡ y.index) → ⊥
before-differs x y (inl h) q = omega (arith, q.0)
before-differs x y (inr h) q = omega (arith, q.1, h.1)

module _ (es : List Entry) (order : Asc entry_before es) where
  -- no two have the same directory and index
  pub entry-once : (p i : ℕ) → Asc (λ x y. is_entry p i x ≡ true → is_entry p i y ≡ false) es
  entry-once p i = asc-map entry_before (λ x y. is_entry p i x ≡ true → is_entry p i y ≡ false) apart es order
    where
      apart : (x y : Entry) → entry_before x y → is_entry p i x ≡ true → is_entry p i y ≡ false
      apart x y l h =
          let k = says-true (says-entry p i x) h in
          false-says (says-entry p i y) (λ z. before-differs x y l (k.0 ∙ sym z.0, k.1 ∙ sym z.1))

  -- each is found by them
  pub entry-by-key : Each (λ e. find (is_entry e.parent e.index) es ≡ some e) es
  entry-by-key =
      each-found (λ e. is_entry e.parent e.index) (λ e. find (is_entry e.parent e.index) es ≡ some e) es (λ e. true-says (says-entry e.parent e.index e) (refl, refl))
      (asc-map entry_before (λ x y. is_entry y.parent y.index x ≡ false) (λ x y l. false-says (says-entry y.parent y.index x) (before-differs x y l)) es order) (λ e h. h)

  -- ---- one that is there, and the rows without it

  module _ (e : Entry) (there : find (is_entry e.parent e.index) es ≡ some e) where
    -- it stands there once
    entry-alone : Alone (is_entry e.parent e.index) es e
    entry-alone = alone (is_entry e.parent e.index) es e there (entry-once e.parent e.index)

    -- a count is that of the others, and one more if it is counted
    times-without : (f : Entry → Bool) → times f es ≡ bit (f e) + times f (without e es)
    unfolding without
    times-without f = ap (times f) entry-alone.whole ∙ times-in f e entry-alone.before entry-alone.behind ∙ ap (λ (l : List Entry). bit (f e) + times f l) (sym entry-alone.gone)

    pub naming-without : (m : ℕ) → naming m es ≡ bit (eqb e.node m) + naming m (without e es)
    unfolding naming
    naming-without m = times-without (λ f. eqb f.node m)

    pub entries_of-without : (m : ℕ) → entries_of m es ≡ bit (eqb e.parent m) + entries_of m (without e es)
    unfolding entries_of
    entries_of-without m = times-without (λ f. eqb f.parent m)

-- ---- a walk

-- what holds of the entry that a walk ends with
abbrev pub EndsWith : (Entry → Type 0) → Walk → Type 0
EndsWith P (reached n (some e)) = P e
EndsWith P (reached n none) = Unit {0}
EndsWith P (stopped e) = Unit {0}

module _ (P : Entry → Type 0) where
  -- what holds of every entry holds of it
  walk_ends : (es : List Entry) → Each P es → (n : ℕ) (last : Option Entry) (ps : List (List ℕ)) → EndsWith P (reached n last) → EndsWith P (walk_parts es n last ps)
  unfolding walk_parts on_entry entry_named pick
  walk_ends es h n last [] l = l
  walk_ends es h n last (p ∷ ps) l = go (ltb most_name (length p)) (entry_named n p es) refl (λ e. walk_ends es h e.node (some e) ps)
    where
      go : (b : Bool) (o : Option Entry) → entry_named n p es ≡ o → ((e : Entry) → P e → EndsWith P (walk_parts es e.node (some e) ps))
          → EndsWith P (pick b (stopped BadName) (on_entry (stopped NoSuchEntry) (λ e. walk_parts es e.node (some e) ps) o))
      go true o q ih = tt
      go false none q ih = tt
      go false (some e) q ih = ih e (found-each (has_name n p) P es e h q)

  -- from a start
  pub walk-from-ends : (start : ℕ) (a : Names) (ps : List (List ℕ)) → Each P a.entries → EndsWith P (walk_from start a ps)
  unfolding walk_from on_start
  walk-from-ends start a ps h = go (node start a)
    where
      go : (o : Option NodeRecord) → EndsWith P (on_start (stopped NoSuchEntry) (walk_parts a.entries start none ps) o)
      go none = tt
      go (some r) = walk_ends a.entries h start none ps tt
