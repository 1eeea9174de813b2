-- A table of a volume that is ready: a row by its place, what a search asks and where it ends, and what the writes of a change leave.
-- One law for the three tables. Positions are as code computes them.
-- Assumes nothing.
use mathlib.Core.Path.{◌≡◌, refl, sym, ap, ◌∙◌}
use mathlib.Core.Bool.{Bool, false}
use mathlib.Core.List.{List, [], ◌∷◌, ◌++◌}
use Prim.Native.Nat.{ℕ, ◌+◌, ◌-◌, ◌*◌, ◌≤◌, ◌<◌}
use native.Mathlib.Nat.{add-zero, mul-add, mul-one}
use native.Mathlib.Omega.{arith}
use lib.ListN.{length, take, drop, get_or, set, replicate, length-replicate, take-append-drop}
use Rattle.words.specs.Bytes.{part, over, zeros, little_endian, spell, num, word}
use Rattle.words.specs.Tables.{table, lay_all, joined, lead, Asc, insert_at, remove_at}
use Rattle.words.specs.Tests.{Falls}
use Rattle.words.proofs.Tables.{table_at, lay_all-one, lay-blank}
use Rattle.words.proofs.Search.{asc-falls}
use Rattle.words.proofs.Areas.{Counted, write-row, append-row, insert-rows, remove-rows}
use Rattle.volume.specs.declared.Layout.{Layout}
use Rattle.volume.specs.Rows.{read_node, read_entry, read_chunk, lay_node, lay_entry, lay_chunk, chunk_row, entry_row, node_row}
use Rattle.volume.specs.Volume.{Volume, shown, laid, with_next_node, with_nodes, with_entries, with_chunks, on_names, on_store}
use Rattle.volume.proofs.RowBytes.{node_at_lem}
use Rattle.volume.proofs.Laid.{Spaced, spaced, nodes-counted, entries-counted, chunks-counted}
use Rattle.volume.proofs.Framed.{told}
use Rattle.volume.proofs.AreaWrites.{onto, write-next}
use Rattle.tables.specs.Tables.{Ready, node_at}
use Rattle.tables.proofs.ReadyVolume.{rooms, count-nodes, count_entries, count-chunks}

-- the bytes l with a table of rows of s bytes in them, from index base on, counted by the word at index head; put makes the whole of any rows
pub record TableIn (l : List ℕ) {R : Type 0} (read : List ℕ → R) (lay : R → List ℕ) (s base room head : ℕ) (rs : List R) (put : List R → List ℕ) : Type 0 where
  pub counted : Counted lay s base room head rs put
  pub same : l ≡ put rs
  pub rows : (used : ℕ) → used ≡ length rs → table read s l base used ≡ rs
  pub ends : base + s * room ≤ length l

-- ---- the three tables, and the next node

module _ (l : List ℕ) (y : Layout) (r : Ready l y) where
  areas : Spaced (shown l)
  areas = spaced (shown l) r.formed.fits

  pub node-table : TableIn l read_node lay_node node_row y.nodes (shown l).names.node_room 32 (shown l).names.nodes (λ rs. laid (on_names (with_nodes rs) (shown l)))
  node-table = record {
    counted = rw r.layout (nodes-counted (shown l) areas);
    same = sym r.formed.same;
    rows = λ used e. unfold shown in rw ((rooms l y r).nodes, e, count-nodes l);
    ends = omega (arith, rooms l y r, told l r.formed);
  }

  pub entry-table : TableIn l read_entry lay_entry entry_row y.entries (shown l).names.entry_room 40 (shown l).names.entries (λ rs. laid (on_names (with_entries rs) (shown l)))
  entry-table = record {
    counted = rw r.layout (entries-counted (shown l) areas);
    same = sym r.formed.same;
    rows = λ used e. unfold shown in rw ((rooms l y r).entries, e, count_entries l);
    ends = omega (arith, rooms l y r, told l r.formed);
  }

  pub chunk-table : TableIn l read_chunk lay_chunk chunk_row y.chunks (shown l).store.chunk_room 48 (shown l).store.chunks (λ rs. laid (on_store (with_chunks rs) (shown l)))
  chunk-table = record {
    counted = rw r.layout (chunks-counted (shown l) areas);
    same = sym r.formed.same;
    rows = λ used e. unfold shown in rw ((rooms l y r).chunks, e, count-chunks l);
    ends = omega (arith, rooms l y r, told l r.formed);
  }

  -- the next node set
  pub next-set : (next : ℕ) {m : List ℕ} → m ≡ over l 56 (spell 8 next) → m ≡ laid (on_names (with_next_node next) (shown l))
  next-set next em = onto (laid (shown l)) 56 (spell 8 next) (sym r.formed.same) em (write-next (shown l) next)

-- the same of what the bytes are known to show

module _ {l : List ℕ} {y : Layout} (r : Ready l y) {v : Volume} (e : shown l ≡ v) where
  pub nodes-of : TableIn l read_node lay_node node_row y.nodes v.names.node_room 32 v.names.nodes (λ rs. laid (on_names (with_nodes rs) v))
  nodes-of = rw e at (node-table l y r)

  pub entries-of : TableIn l read_entry lay_entry entry_row y.entries v.names.entry_room 40 v.names.entries (λ rs. laid (on_names (with_entries rs) v))
  entries-of = rw e at (entry-table l y r)

  pub chunks-of : TableIn l read_chunk lay_chunk chunk_row y.chunks v.store.chunk_room 48 v.store.chunks (λ rs. laid (on_store (with_chunks rs) v))
  chunks-of = rw e at (chunk-table l y r)

-- so many rows, and so many more
rows-add : (s a b : ℕ) → a ≤ b → s * b ≡ s * a + s * (b - a)
rows-add s a b h =
    let q : b ≡ a + (b - a) = omega arith in
    ap (λ (k : ℕ). s * k) q ∙ mul-add s a (b - a)

module _ {l : List ℕ} {R : Type 0} {read : List ℕ → R} {lay : R → List ℕ} {s base room head : ℕ} {rs : List R} {put : List R → List ℕ} (t : TableIn l read lay s base room head rs put) where
  -- its room, for the parts that code touches
  pub table-end : (base + s * room ≤ length l) × (length rs ≤ room)
  table-end = (t.ends, t.counted.fits)

  -- row i
  pub row-there : (i : ℕ) {a : R} → i < length rs → a ≡ read (part l (base + s * i) s) → a ≡ get_or rs i (read [])
  row-there i h e = e ∙ sym (table_at read s l base (length rs) i (read []) h) ∙ ap (λ q. get_or q i (read [])) (t.rows (length rs) refl)

  -- ---- a search by halving

  -- rows in order stand first before a key and then no more
  pub rows-fall : {Before : R → R → Type 0} {under : R → Bool} {used : ℕ} → used ≡ length rs → ((a b : R) → Before a b → under a ≡ false → under b ≡ false) → Asc Before rs → Falls under (table read s l base used)
  rows-fall {Before} {under} {used} e f a = rw (t.rows used e) (asc-falls Before under f rs a)

  -- where it ends, in the table as a list
  pub row-lead : (under : R → Bool) {used k : ℕ} → used ≡ length rs → k ≡ lead under (table read s l base used) → k ≡ lead under rs
  row-lead under {used} e q = q ∙ ap (lead under) (t.rows used e)

  -- ---- what the steps of a change leave

  -- row i written
  pub row-changed : (i : ℕ) (r : R) {m : List ℕ} → i < length rs → m ≡ over l (base + s * i) (lay r) → m ≡ put (set rs i r)
  row-changed i r h em = onto (put rs) (base + s * i) (lay r) t.same em (write-row t.counted i (base + s * i) r h refl)

  -- a row put behind the others
  pub row_appended : (used : ℕ) (r : R) {m o : List ℕ} → used ≡ length rs → length rs < room → m ≡ over l (base + s * used) (lay r) → o ≡ over m head (spell 8 (used + 1)) → o ≡ put (rs ++ (r ∷ []))
  row_appended used r eu h em eo = append-row t.counted used (base + s * used) (used + 1) r t.same eu (omega arith) refl refl em eo

  -- rows put in before row p
  rows-inserted : (p used : ℕ) (qs : List R) {m o q : List ℕ} → used ≡ length rs → p ≤ length rs → length rs + length qs ≤ room → m ≡ over l (base + s * p + s * length qs) (part l (base + s * p) (base + s * used - (base + s * p)))
      → o ≡ over m (base + s * p) (lay_all lay qs) → q ≡ over o head (spell 8 (used + length qs)) → q ≡ put (take p rs ++ (qs ++ drop p rs))
  rows-inserted p used qs eu b h em eo eq =
      insert-rows t.counted p used (base + s * p) (base + s * p + s * length qs) (base + s * used - (base + s * p)) (used + length qs) qs
      t.same eu (omega arith) (omega arith) refl refl (omega (arith, rows-add s p used (omega arith))) refl em eo eq

  -- one row
  pub row-inserted : (p used : ℕ) (r : R) {m o q : List ℕ} → used ≡ length rs → p ≤ length rs → length rs < room → m ≡ over l (base + s * p + s) (part l (base + s * p) (base + s * used - (base + s * p)))
      → o ≡ over m (base + s * p) (lay r) → q ≡ over o head (spell 8 (used + 1)) → q ≡ put (insert_at p r rs)
  unfolding insert_at
  row-inserted p used r {m} {o} {q} eu b h em eo eq = rw (mul-one s, lay_all-one) at (rows-inserted p used (r ∷ []) {m = m} {o = o} {q = q} eu b (omega arith)) em eo eq

  -- n rows of zeros
  pub rows-opened : (p n used : ℕ) (r : R) {m o q : List ℕ} → lay r ≡ zeros s → used ≡ length rs → p ≤ length rs → length rs + n ≤ room → m ≡ over l (base + s * p + s * n) (part l (base + s * p) (base + s * used - (base + s * p)))
      → o ≡ over m (base + s * p) (zeros (s * n)) → q ≡ over o head (spell 8 (used + n)) → q ≡ put (take p rs ++ (replicate n r ++ drop p rs))
  rows-opened p n used r {m} {o} {q} z eu b h em eo eq =
      rw (length-replicate, lay-blank lay s r z n) at (rows-inserted p used (replicate n r) {m = m} {o = o} {q = q} eu b (rw length-replicate h)) em eo eq

  -- none
  pub none-opened : (p n : ℕ) (r : R) → n ≡ 0 → l ≡ put (take p rs ++ (replicate n r ++ drop p rs))
  none-opened p n r e = rw (e, take-append-drop) t.same

  pub none-removed : (p n : ℕ) → n ≡ 0 → l ≡ put (take p rs ++ drop (p + n) rs)
  none-removed p n e = rw (e, add-zero, take-append-drop) t.same

  -- n rows taken out, from row p on
  pub rows-removed : (p n used : ℕ) {q : List ℕ} → used ≡ length rs → p + n ≤ length rs
      → q ≡ over (over (over l (base + s * (p + n) - s * n) (part l (base + s * (p + n)) (base + s * used - (base + s * (p + n))))) (base + s * used - s * n) (zeros (s * n))) head (spell 8 (used - n)) → q ≡ put (take p rs ++ drop (p + n) rs)
  rows-removed p n used eu h eq =
      let a = mul-add s p n in
      let b = rows-add s (p + n) used (omega arith) in
      let c = rows-add s n used (omega arith) in
      remove-rows t.counted p n used (base + s * (p + n) - s * n) (base + s * (p + n)) (base + s * used - (base + s * (p + n))) (base + s * used - s * n) (s * n) (used - n)
      t.same eu (omega arith) (omega arith) (omega arith) (omega arith) (omega arith) refl refl refl refl eq

  -- one of them
  pub row-removed : (p used : ℕ) {q : List ℕ} → used ≡ length rs → p < length rs
      → q ≡ over (over (over l (base + s * (p + 1) - s) (part l (base + s * (p + 1)) (base + s * used - (base + s * (p + 1))))) (base + s * used - s) (zeros s)) head (spell 8 (used - 1)) → q ≡ put (remove_at p rs)
  unfolding remove_at
  row-removed p used {q} eu h eq = rw (mul-one s) at (rows-removed p 1 used {q = q} eu (omega arith)) eq

-- a node's number, read by itself
pub node-key : (l : List ℕ) (y : Layout) (r : Ready l y) (i : ℕ) {x : ℕ} → i < length (shown l).names.nodes → x ≡ word l (y.nodes + node_row * i) → x ≡ (node_at (shown l).names.nodes i).node
node-key l y r i h q = q ∙ ap (λ a. a.node) (sym (node_at_lem l (y.nodes + node_row * i)) ∙ row-there (node-table l y r) i h refl)

-- a chunk's row of zeros
pub chunk-blank : lay_chunk (read_chunk []) ≡ zeros chunk_row
unfolding lay_chunk read_chunk joined spell num part little_endian zeros
chunk-blank = refl
