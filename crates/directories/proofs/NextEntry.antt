-- The place of the next entry is that of the definition's: the one with the least index at or above the one asked for.
-- Assumes nothing.
use Rattle.std.specs.Prelude.{Result, Ok, Err}
use mathlib.Core.Path.{◌≡◌, refl, sym, ap, ◌∙◌}
use mathlib.Core.Bool.{Bool, true, false, false≢true}
use mathlib.Core.List.{List, []}
use mathlib.Core.Logic.{inl, inr}
use mathlib.Core.Option.{Option, none, some}
use Prim.Native.Nat.{ℕ, ◌≤◌, ◌<◌}
use native.Mathlib.Omega.{arith}
use native.Mathlib.Decide.{dec_lt}
use lib.Dec.{eqb, ltb}
use lib.ListN.{length}
use borrow.Author.Tests.{eq-eqb, ne_eqb, lt-ltb, ltb-true, eqb-true}
use Rattle.words.specs.Rules.{pick}
use Rattle.words.specs.Tables.{lead, Asc}
use Rattle.words.proofs.Joined.{both_true}
use Rattle.words.proofs.Order.{asc-map}
use Rattle.words.proofs.Rules.{true-says, says-false, false-says, stop, go_on}
use Rattle.words.proofs.Search.{asc-falls, find-found, find-missing, lead-ends}
use Rattle.types.specs.declared.Error.{Error}
use Rattle.types.specs.declared.Error.TheVariants.{NoSuchEntry, NotDirectory}
use Rattle.types.specs.declared.NodeRecord.{NodeRecord}
use Rattle.types.specs.Nodes.{is_directory}
use Rattle.volume.specs.Rows.{Entry, read_entry}
use Rattle.volume.specs.Search.{PairBefore, entry_under}
use Rattle.volume.specs.Volume.{Names}
use Rattle.volume.specs.Sound.{node, entry_before, Named}
use Rattle.volume.proofs.PairOrder.{says-pair}
use Rattle.tables.specs.Tables.{entry_at}
use Rattle.tables.proofs.TableSearch.{entry-falls}
use Rattle.names.specs.Entries.{from_index, entry_from, on_entry}
use Rattle.names.specs.Listing.{Listed, listed, unlisted, on_directory, next_entry}
use Rattle.names.proofs.EntryRuns.{says-from, under-out}
use Rattle.directories.specs.Searches.{directory_there, entry_there, next_in, next_place}
use Rattle.directories.proofs.EntrySearch.{directory-refused, directory-goes-on}

-- ---- among the entries

module _ (d from : ℕ) (es : List Entry) (asc : Asc entry_before es) where
  -- an entry at or behind the key that is not from it on is another directory's, and so are all behind it
  none-behind : (a b : Entry) → entry_before a b → entry_under d from a ≡ false → from_index d from a ≡ false → from_index d from b ≡ false
  none-behind a b o u n = false-says (says-from d from b) (λ q. go o q)
    where
      not-before : PairBefore a.parent a.index d from → ⊥
      not-before = says-false (says-pair a.parent a.index d from) u

      not-from : (a.parent ≡ d) × (from ≤ a.index) → ⊥
      not-from = says-false (says-from d from a) n

      go : entry_before a b → (b.parent ≡ d) × (from ≤ b.index) → ⊥
      go (inl l) q = not-before (inl (omega arith))
      go (inr p) q = lies (dec_lt a.index from)
        where
          e : a.parent ≡ d
          e = p.0 ∙ q.0

          lies : Dec (a.index < from) → ⊥
          lies (yes l) = not-before (inr (e, l))
          lies (no l) = not-from (e, omega arith)

  abbrev place : ℕ
  place = lead (entry_under d from) es

  -- ---- where the search ends

  from-there : entry_there d es place ≡ true → (place < length es) × (entry_from d from es ≡ some (entry_at es place))
  unfolding entry_there entry_from
  from-there t =
      let p = both_true (ltb place (length es)) (eqb (entry_at es place).parent d) t in
      let h : place < length es = ltb-true place (length es) p.0 in
      (h, find-found (entry_under d from) (from_index d from) (read_entry []) (under-out d from) es h (true-says (says-from d from (entry_at es place)) (here h (eqb-true (entry_at es place).parent d p.1))))
    where
      here : place < length es → (entry_at es place).parent ≡ d → ((entry_at es place).parent ≡ d) × (from ≤ (entry_at es place).index)
      here h e = (e, go (dec_lt (entry_at es place).index from))
        where
          go : Dec ((entry_at es place).index < from) → from ≤ (entry_at es place).index
          go (yes l) = absurd (says-false (says-pair (entry_at es place).parent (entry_at es place).index d from) (lead-ends (entry_under d from) (read_entry []) es h) (inr (e, l)))
          go (no l) = omega arith

  from-nowhere : entry_there d es place ≡ false → entry_from d from es ≡ none
  unfolding entry_there entry_from
  from-nowhere t =
      find-missing (entry_under d from) (from_index d from) (read_entry []) (under-out d from) es (asc-falls entry_before (entry_under d from) (entry-falls d from) es asc)
      (asc-map entry_before (λ a b. entry_under d from a ≡ false → from_index d from a ≡ false → from_index d from b ≡ false) none-behind es asc)
      (λ h. sym (stop _ _ (ne_eqb (entry_at es place).parent d (λ e. false≢true (sym t ∙ sym (go_on _ _ (lt-ltb place (length es) h) (sym (eq-eqb (entry_at es place).parent d e))))))))

-- ---- the call, as code finds it

module _ (d from : ℕ) (a : Names) where
  pub next-refused : {e : Error} → Err e ≡ directory_there d a → Err e ≡ next_place d from a
  unfolding next_place
  next-refused h = directory-refused d a Err _ h

  pub next-goes-on : {u : Unit {0}} → Ok u ≡ directory_there d a → {p : ℕ} {x : Result ℕ Error} → p ≡ lead (entry_under d from) a.entries → x ≡ next_in d a.entries p → x ≡ next_place d from a
  unfolding next_place
  next-goes-on h e q = directory-goes-on d a Err _ h (q ∙ ap (next_in d a.entries) e)

-- ---- the call

-- a place that is found is that of the entry that is listed; a refusal is the definition's
data Shows (es : List Entry) : Result ℕ Error → Listed → Type 0 where
  shows-entry : (p : ℕ) → p < length es → Shows es (Ok p) (listed (entry_at es p))
  shows-refusal : (e : Error) → Shows es (Err e) (unlisted e)

module _ (d from : ℕ) (a : Names) (named : Named a) where
  abbrev es : List Entry
  es = a.entries

  abbrev first : ℕ
  first = lead (entry_under d from) es

  in-directory : (b : Bool) → entry_there d es first ≡ b → Shows es (pick b (Ok first) (Err NoSuchEntry)) (on_entry (unlisted NoSuchEntry) listed (entry_from d from es))
  unfolding on_entry pick
  in-directory true t = let h = from-there d from es named.entry_order t in rw h.1 (shows-entry first h.0)
  in-directory false t = rw (from-nowhere d from es named.entry_order t) (shows-refusal NoSuchEntry)

  of_row : (r : NodeRecord) (b : Bool) → is_directory r.kind ≡ b
      → Shows es (pick b (next_in d es first) (Err NotDirectory)) (pick b (on_entry (unlisted NoSuchEntry) listed (entry_from d from es)) (unlisted NotDirectory))
  unfolding pick next_in
  of_row r true e = in-directory (entry_there d es first) refl
  of_row r false e = shows-refusal NotDirectory

  next-shows : Shows es (next_place d from a) (next_entry d from a)
  unfolding next_place next_entry on_directory
  next-shows = go (node d a)
    where
      go : (o : Option NodeRecord) → Shows es (on_directory Err (λ r. next_in d es first) o) (on_directory unlisted (λ r. on_entry (unlisted NoSuchEntry) listed (entry_from d from es)) o)
      go none = shows-refusal NoSuchEntry
      go (some r) = of_row r (is_directory r.kind) refl

  module _ {r : Result ℕ Error} (h : r ≡ next_place d from a) where
    pub next-listed : {p : ℕ} → r ≡ Ok p → (p < length es) × (listed (entry_at es p) ≡ next_entry d from a)
    next-listed {p} k = go (next_place d from a) (next_entry d from a) next-shows (sym k ∙ h)
      where
        go : (n : Result ℕ Error) (l : Listed) → Shows es n l → Ok p ≡ n → (p < length es) × (listed (entry_at es p) ≡ l)
        go _ _ (shows-entry q b) e = let z : p ≡ q = cc in (rw z b, rw z)
        go _ _ (shows-refusal x) e = absurd cc

    pub next-first : {p : ℕ} → r ≡ Ok p → p ≡ first
    unfolding next_place on_directory
    next-first {p} k = go (node d a) (sym k ∙ h)
      where
        in-there : (b : Bool) → Ok p ≡ pick b (Ok first) (Err NoSuchEntry) → p ≡ first
        in-there true e = unfold pick in cc
        in-there false e = unfold pick in absurd cc

        row : (b : Bool) → Ok p ≡ pick b (next_in d es first) (Err NotDirectory) → p ≡ first
        row true e = unfold pick next_in in in-there (entry_there d es first) e
        row false e = unfold pick in absurd cc

        go : (o : Option NodeRecord) → Ok p ≡ on_directory Err (λ r. next_in d es first) o → p ≡ first
        go none e = absurd cc
        go (some r) e = row (is_directory r.kind) e

    pub next-unlisted : {e : Error} → r ≡ Err e → unlisted e ≡ next_entry d from a
    next-unlisted {e} k = go (next_place d from a) (next_entry d from a) next-shows (sym k ∙ h)
      where
        go : (n : Result ℕ Error) (l : Listed) → Shows es n l → Err e ≡ n → unlisted e ≡ l
        go _ _ (shows-entry q b) z = absurd cc
        go _ _ (shows-refusal x) z = let y : e ≡ x = cc in rw y
