-- A search among a directory's entries ends where the definitions say: at the entry that has the name, or at the next one from an index.
-- Assumes nothing.
use Rattle.std.specs.Prelude.{Some, None, Result, Ok, Err}
use mathlib.Core.Path.{◌≡◌, refl, sym, ap, ◌∙◌}
use mathlib.Core.Bool.{Bool, true, false}
use mathlib.Core.List.{List, []}
use mathlib.Core.Logic.{◌⊎◌, inl, inr}
use mathlib.Core.Option.{Option, none, some}
use Prim.Native.Nat.{ℕ, ◌+◌, ◌-◌, ◌≤◌, ◌<◌, min}
use native.Mathlib.Omega.{arith}
use native.Mathlib.Decide.{dec_lt}
use lib.Dec.{eqb, ltb}
use lib.ListN.{length, drop, length-drop}
use borrow.Author.Tests.{eq-eqb, ne_eqb, lt-ltb, le-ltb, ltb-true}
use denote.Enum.Declared.{tag_of}
use Rattle.words.specs.Rules.{pick, same}
use Rattle.words.specs.Tables.{lead, Asc}
use Rattle.words.proofs.Joined.{both_true}
use Rattle.words.proofs.Rules.{pick_true, pick-false, stop, go_on}
use Rattle.words.proofs.Search.{lead-le, walk_turn, walk-stop, walk_end}
use Rattle.types.specs.Nodes.{is_directory}
use Rattle.types.specs.declared.Error.{Error}
use Rattle.types.specs.declared.Error.TheVariants.{NoSuchEntry, NotDirectory}
use Rattle.types.specs.declared.NodeRecord.{NodeRecord}
use Rattle.volume.specs.Rows.{Entry, read_entry}
use Rattle.volume.specs.Search.{entry_under}
use Rattle.volume.specs.Sound.{node, node_before}
use Rattle.volume.specs.Volume.{Names}
use Rattle.tables.specs.Tables.{node_at, entry_at, found_node, Found}
use Rattle.tables.proofs.TableSearch.{node-found, node-absent}
use Rattle.names.specs.Listing.{on_directory}
use Rattle.directories.specs.declared.searching.Searched.{Searched}
use Rattle.directories.specs.declared.searching.Searched.TheVariants.{At, Absent, Stopped}
use Rattle.directories.specs.contracts.searching.Searched as SearchedType
use Rattle.directories.specs.Searches.{directory_there, other_name, entry_there, searched_from, searched, found_from, entry_found, next_in}

-- ---- as code finds it

module _ (d : ℕ) (es : List Entry) where
  pub past_end : {p : ℕ} → length es ≤ p → false ≡ entry_there d es p
  unfolding entry_there
  past_end h = stop _ _ (le-ltb _ _ h)

  pub there-inside : {p : ℕ} → entry_there d es p ≡ true → p < length es
  unfolding entry_there
  there-inside {p} t = ltb-true p (length es) (both_true (ltb p (length es)) (eqb (entry_at es p).parent d) t).0

  pub there-if : {p x : ℕ} {r : Bool} → p < length es → x ≡ (entry_at es p).parent → r ≡ eqb x d → r ≡ entry_there d es p
  unfolding entry_there
  there-if h q e = go_on _ _ (lt-ltb _ _ h) (e ∙ rw q)

-- a search for a name that has come to row i; all rows of the directory before it have another name
module _ (d : ℕ) (name : List ℕ) (from most : ℕ) (es : List Entry) {first : ℕ} (at_first : first ≡ lead (entry_under d from) es) where
  abbrev others : ℕ → ℕ
  others i = lead (other_name d name) (drop i es)

  -- it ends there before the limit
  ends_at : (i : ℕ) → first ≤ i → i - first < most → i - first ≡ others first → searched d name from most es ≡ pick (entry_there d es i) (At i (i - first + 1)) (Absent (i - first))
  unfolding searched searched_from
  ends_at i l b e =
      let p : first + others first ≡ i = omega arith in
      let t : ltb (others first) most ≡ true = lt-ltb (others first) most (omega arith) in
      rw (← at_first) (sym (pick_true _ _ _ _ t (rw (p, e))))

  -- it ends there at the limit
  stops_at : (i : ℕ) → first ≤ i → i - first ≡ most → most ≤ others first → searched d name from most es ≡ pick (entry_there d es i) (Stopped i (i - first)) (Absent (i - first))
  unfolding searched searched_from
  stops_at i l b e =
      let p : first + most ≡ i = omega arith in
      let t : ltb (others first) most ≡ false = le-ltb (others first) most e in
      rw (← at_first) (sym (pick-false _ _ _ _ t (rw (p, b))))

  module _ (i : ℕ) (so_far : others first ≡ i - first + others i) (l : first ≤ i) where
    -- as many rows as the limit were passed, or all that there are
    module _ (e : i ≡ min (first + most) (length es)) where
      pub search-left : entry_there d es i ≡ true → Stopped i (i - first) ≡ searched d name from most es
      search-left t =
          let h : i < length es = there-inside d es t in
          sym (stops_at i l (omega arith) (omega arith) ∙ sym (pick_true _ _ _ _ t refl))

      pub search-end : entry_there d es i ≡ false → Absent (i - first) ≡ searched d name from most es
      search-end f = go (dec_lt (length es) (first + most))
        where
          go : Dec (length es < first + most) → Absent (i - first) ≡ searched d name from most es
          go (yes h) = sym (ends_at i l (omega arith) (walk_end (other_name d name) (read_entry []) es first i so_far l (omega arith)) ∙ sym (pick-false _ _ _ _ f refl))
          go (no h) = sym (stops_at i l (omega arith) (omega arith) ∙ sym (pick-false _ _ _ _ f refl))

    module _ (h : i < length es) (b : i - first < most) {x : ℕ} (p : x ≡ (entry_at es i).parent) where
      pub search-past : (x ≡ d → ⊥) → Absent (i - first) ≡ searched d name from most es
      search-past n =
          let f : other_name d name (entry_at es i) ≡ false = sym (stop _ _ (rw (← p) (ne_eqb x d n))) in
          sym (ends_at i l b (walk-stop (other_name d name) (read_entry []) es first i so_far l h refl f) ∙ sym (pick-false _ _ _ _ (sym (there-if d es h p (sym (ne_eqb x d n)))) refl))

      module _ (e : x ≡ d) {c : Bool} (q : c ≡ same (entry_at es i).name name) where
        pub search-here : c ≡ true → At i (i - first + 1) ≡ searched d name from most es
        search-here t =
            let f : other_name d name (entry_at es i) ≡ false = sym (go_on _ _ (rw (← p) (eq-eqb x d e)) (rw (← q, t) refl)) in
            sym (ends_at i l b (walk-stop (other_name d name) (read_entry []) es first i so_far l h refl f) ∙ sym (pick_true _ _ _ _ (sym (there-if d es h p (sym (eq-eqb x d e)))) refl))

    module _ (h : i < length es) {x : ℕ} (p : x ≡ (entry_at es i).parent) (e : x ≡ d) {c : Bool} (q : c ≡ same (entry_at es i).name name) where
      pub search-on : c ≡ false → others first ≡ i + 1 - first + others (i + 1)
      search-on t =
          let f : other_name d name (entry_at es i) ≡ true = sym (go_on _ _ (rw (← p) (eq-eqb x d e)) (rw (← q, t) refl)) in
          walk_turn (other_name d name) (read_entry []) es first i so_far l h refl f

-- what a search gave that found no entry, by its tag
not_at : {s : Searched} {p k : ℕ} → s ≡ At p k → (tag_of SearchedType.the_type s ≡ 1) ⊎ (tag_of SearchedType.the_type s ≡ 2) → ⊥
not_at q (inl t) = let x : ◌≡◌ {A = ℕ} 0 1 = ap (tag_of SearchedType.the_type) (sym q) ∙ t in omega arith
not_at q (inr t) = let x : ◌≡◌ {A = ℕ} 0 2 = ap (tag_of SearchedType.the_type) (sym q) ∙ t in omega arith

-- ---- with a limit of as many as there are rows, as code finds the entry that has a name

module _ (d : ℕ) (name : List ℕ) (es : List Entry) {most : ℕ} (room : length es ≤ most) where
  abbrev start : ℕ
  start = lead (entry_under d 0) es

  abbrev passed : ℕ
  passed = lead (other_name d name) (drop start es)

  unlimited : searched d name 0 most es ≡ pick (entry_there d es (start + passed)) (At (start + passed) (passed + 1)) (Absent passed)
  unfolding searched searched_from pick
  unlimited = go (dec_lt passed most)
    where
      few : passed ≤ length es - start
      few = rw (length-drop start es) at (lead-le (other_name d name) (drop start es))

      go : Dec (passed < most) → searched_from d es start most passed ≡ pick (entry_there d es (start + passed)) (At (start + passed) (passed + 1)) (Absent passed)
      go (yes h) = sym (pick_true _ _ _ _ (lt-ltb passed most h) refl)
      go (no h) =
          let k : most ≡ passed = omega (arith, few) in
          let b : false ≡ entry_there d es (start + passed) = past_end d es (omega arith) in
          sym (pick-false _ _ _ _ (le-ltb passed most (omega arith)) (rw (k, ← b) refl))

  pub found-place : {p k : ℕ} → At p k ≡ searched d name 0 most es → Some p ≡ entry_found d name es
  unfolding entry_found found_from pick
  found-place {p} {k} e = go (entry_there d es (start + passed)) (e ∙ unlimited)
    where
      go : (b : Bool) → At p k ≡ pick b (At (start + passed) (passed + 1)) (Absent passed) → Some p ≡ pick b (Some (start + passed)) None
      go true q = let i : p ≡ start + passed = cc in ap Some i
      go false q = absurd cc

  pub no_place : {s : Searched} → ((p k : ℕ) → s ≡ At p k → ⊥) → s ≡ searched d name 0 most es → None ≡ entry_found d name es
  unfolding entry_found found_from pick
  no_place {s} n e = go (entry_there d es (start + passed)) (e ∙ unlimited)
    where
      go : (b : Bool) → s ≡ pick b (At (start + passed) (passed + 1)) (Absent passed) → None ≡ pick b (Some (start + passed)) None
      go true q = absurd (n (start + passed) (passed + 1) q)
      go false q = refl

-- ---- a node that is a directory, as code finds it

module _ (d : ℕ) (a : Names) where
  pub directory-missing : Asc node_before a.nodes → {r : Found} → r ≡ None → r ≡ found_node d a.nodes → Err NoSuchEntry ≡ directory_there d a
  unfolding directory_there on_directory node
  directory-missing asc k h = rw (node-absent d a.nodes asc (sym k ∙ h)) refl

  module _ {r : Found} {i : ℕ} (k : r ≡ Some i) (h : r ≡ found_node d a.nodes) {row : NodeRecord} (q : row ≡ node_at a.nodes i) {b : Bool} (t : b ≡ is_directory row.kind) where
    pub directory-file : b ≡ false → Err NotDirectory ≡ directory_there d a
    unfolding directory_there on_directory node
    directory-file e = rw (node-found d a.nodes i (sym k ∙ h)).1 (pick-false _ _ _ _ (rw (← q) (sym t ∙ e)) refl)

    pub directory-is : b ≡ true → Ok tt ≡ directory_there d a
    unfolding directory_there on_directory node
    directory-is e = rw (node-found d a.nodes i (sym k ∙ h)).1 (pick_true _ _ _ _ (rw (← q) (sym t ∙ e)) refl)

  -- what a call on a directory makes of it
  abbrev ruled : Bool → Result (Unit {0}) Error
  ruled b = pick b (Ok tt) (Err NotDirectory)

  abbrev ruled_row : Option NodeRecord → Result (Unit {0}) Error
  ruled_row o = on_directory Err (λ r. Ok tt) o

  module _ {A : Type 0} (refuse : Error → A) (c : A) where
    pub directory-refused : {e : Error} → Err e ≡ directory_there d a → refuse e ≡ on_directory refuse (λ r. c) (node d a)
    unfolding directory_there on_directory pick
    directory-refused {e} h = go (node d a) h
      where
        of_row : (b : Bool) → Err e ≡ ruled b → refuse e ≡ pick b c (refuse NotDirectory)
        of_row true q = absurd cc
        of_row false q = let x : e ≡ NotDirectory = cc in ap refuse x

        go : (o : Option NodeRecord) → Err e ≡ ruled_row o → refuse e ≡ on_directory refuse (λ r. c) o
        go none q = let x : e ≡ NoSuchEntry = cc in ap refuse x
        go (some r) q = of_row (is_directory r.kind) q

    pub directory-goes-on : {u : Unit {0}} → Ok u ≡ directory_there d a → {x : A} → x ≡ c → x ≡ on_directory refuse (λ r. c) (node d a)
    unfolding directory_there on_directory pick
    directory-goes-on {u} h {x} y = go (node d a) h
      where
        of_row : (b : Bool) → Ok u ≡ ruled b → x ≡ pick b c (refuse NotDirectory)
        of_row true q = y
        of_row false q = absurd cc

        go : (o : Option NodeRecord) → Ok u ≡ ruled_row o → x ≡ on_directory refuse (λ r. c) o
        go none q = absurd cc
        go (some r) q = of_row (is_directory r.kind) q

-- ---- the next entry, as code finds it

module _ (d : ℕ) (es : List Entry) (p : ℕ) {b : Bool} (u : b ≡ entry_there d es p) where
  pub next-none : b ≡ false → Err NoSuchEntry ≡ next_in d es p
  unfolding next_in
  next-none z = pick-false _ _ _ _ (sym u ∙ z) refl

  pub next-at : b ≡ true → Ok p ≡ next_in d es p
  unfolding next_in
  next-at z = pick_true _ _ _ _ (sym u ∙ z) refl
