-- The volume's bytes and its tables: what is laid out is read back, and what is framed is laid out again as it stands.
-- Assumes nothing.
use mathlib.Core.Path.{◌≡◌, refl, sym, ap, ◌∙◌}
use mathlib.Core.List.{List, [], ◌∷◌, ◌++◌, append-nil}
use Prim.Native.Nat.{ℕ, suc, ◌+◌, ◌-◌, ◌*◌, ◌/◌, ◌≤◌, ◌<◌}
use native.Mathlib.Nat.{mul-suc, mul-le-mul_left}
use native.Mathlib.Omega.{arith}
use lib.ListN.{length, take, drop, get_or, set, length-append, length-drop, take-append-drop}
use lib.Seq.{take_all, set-get_or, drop-drop}
use Rattle.words.specs.Bytes.{part, spell, word, Bytes}
use Rattle.words.specs.Tables.{table, lay_words, area, joined, Each}
use Rattle.words.proofs.Parts.{length_part}
use Rattle.words.proofs.Numbers.{length-spell, num-part, num-below, bytes-part}
use Rattle.words.proofs.Order.{each_map, each_at}
use Rattle.words.proofs.Tables.{length-lay_all, length-area, length-table, num-words, part-joined, table-area, drop-joined}
use Rattle.allocator.specs.Allocator.{marker, lay_allocator, read_allocator, read_word}
use Rattle.volume.specs.Header.{at_chunk_room, at_chunk_size, at_chunks_used, at_entries_used, at_entry_room, at_form, at_free_count, at_marker, at_next_node, at_next_ptr, at_node_room, at_nodes_used}
use Rattle.volume.specs.Rows.{lay_node, read_node, lay_entry, read_entry, lay_chunk, read_chunk, chunk_row, entry_row, node_row}
use Rattle.volume.specs.Volume.{Volume, form, heads, areas, laid, words_in, shown, at_nodes, at_entries, at_chunks, at_bytes, with_nodes, with_entries, with_chunks, on_names, on_store}
use Rattle.volume.specs.Framed.{RowsFormed, Framed, Fits}
use Rattle.volume.specs.Formed.{Formed}
use Rattle.words.proofs.Pieces.{Read, words-again, area-again, each_rows}
use Rattle.words.proofs.Areas.{row-joined, unused-joined, Counted}
use Rattle.volume.proofs.RowBytes.{Row, node_row_lem, entry_row_lem, chunk_row_lem}
use Rattle.allocator.specs.Words.{WordsFormed}
use Rattle.allocator.proofs.Laid as AllocatorLaid

-- ---- a table of rows of one kind, for all three

module _ {R : Type 0} {read : List ℕ → R} {lay : R → List ℕ} {s : ℕ} {Fit : R → Type 0} {Ok : List ℕ → ℕ → Type 0} (w : Row read lay s Fit Ok) where
  module _ {base room head : ℕ} {rs : List R} {put : List R → List ℕ} (t : Counted lay s base room head rs put) (f : Each Fit rs) where
    abbrev ls : List (List ℕ)
    ls = lay_words t.heads ∷ t.others

    here : put rs ≡ joined ls
    here = t.whole rs ∙ rw (← t.counts, ← t.stands, set-get_or t.heads t.counter 0, set-get_or t.others t.which [])

    -- rows that fit, laid out, are read back
    pub rows_back : table read s (put rs) base (length rs) ≡ rs
    rows_back = rw here (table-area read lay s w.sized ls (suc t.which) room rs base (omega (arith, t.in_others)) t.stands t.start (each_map Fit (λ r. read (lay r) ≡ r) w.back rs f))

    -- and their bytes are in the form of rows, with zeros behind them
    pub rows-formed : RowsFormed (Ok (put rs)) s (put rs) base (length rs) room
    rows-formed =
        let row = row-joined lay s w.sized ls (suc t.which) base room rs (omega (arith, t.in_others)) t.stands t.start t.fits in
        rw here (record {
          rows = λ i b. w.formed (joined ls) (base + s * i) (get_or rs i (read [])) (each_at Fit rs i (read []) f b) (row i (base + s * i) (read []) b refl);
          unused = unused-joined lay s w.sized ls (suc t.which) base room rs (omega (arith, t.in_others)) t.stands t.start t.fits (base + s * length rs) refl;
        })

  module _ (l : List ℕ) (y : Bytes l) (base used room : ℕ) (h : used ≤ room) (z : base + s * room ≤ length l) (f : RowsFormed (Ok l) s l base used room) where
    inside : (i : ℕ) → i < used → base + s * i + s ≤ length l
    inside i b = omega (arith, mul-suc s i, mul-le-mul_left {m = suc i} {n = room} s (omega arith))

    -- rows that are read from bytes in that form are laid out again as they stand
    pub rows-again : area lay s room (table read s l base used) ≡ part l base (s * room)
    rows-again = area-again read lay s l base used room h (λ i b. (w.again l y (base + s * i) (inside i b) (f.rows i b)).0) f.unused

    -- and fit
    pub rows_fit : Each Fit (table read s l base used)
    rows_fit = each_rows Fit read s l base used (λ i b. (w.again l y (base + s * i) (inside i b) (f.rows i b)).1)

-- ---- where the areas start

-- tables that fit their room, and an allocator with a word for each chunk: all that the places of the areas lean on
pub record Spaced (v : Volume) : Type 0 where
  pub nodes : length v.names.nodes ≤ v.names.node_room
  pub entries : length v.names.entries ≤ v.names.entry_room
  pub chunks : length v.store.chunks ≤ v.store.chunk_room
  pub twelve : length v.store.allocator.unread ≡ 12
  pub words : length v.store.allocator.words ≡ v.store.chunk_room

-- a volume that fits has its areas in place
pub spaced : (v : Volume) → Fits v → Spaced v
spaced v f = record { nodes = f.names.nodes; entries = f.names.entries; chunks = f.store.chunks; twelve = f.store.twelve; words = f.store.words }

-- where the areas start, and the length of all
pub record Starts (v : Volume) : Type 0 where
  pub allocator : length (joined (take 1 (areas v))) ≡ 64
  pub nodes : length (joined (take 2 (areas v))) ≡ at_nodes v.store.chunk_room
  pub entries : length (joined (take 3 (areas v))) ≡ at_entries v.names.node_room v.store.chunk_room
  pub chunks : length (joined (take 4 (areas v))) ≡ at_chunks v.names.node_room v.names.entry_room v.store.chunk_room
  pub bytes : length (joined (take 5 (areas v))) ≡ at_bytes v.names.node_room v.names.entry_room v.store.chunk_room
  pub long : length (laid v) ≡ at_bytes v.names.node_room v.names.entry_room v.store.chunk_room + length v.store.bytes

module _ (v : Volume) (f : Spaced v) where
  -- the length of the allocator's part
  pub length-allocator : length (lay_allocator v.store.allocator) ≡ 128 + 8 * v.store.chunk_room
  length-allocator = AllocatorLaid.length-laid v.store.allocator f.twelve ∙ ap (λ (c : ℕ). 128 + 8 * c) f.words

  pub starts : Starts v
  unfolding laid joined
  starts =
      let h = length-lay_all (spell 8) 8 (length-spell 8) (heads v) in
      let a = length-allocator in
      let n = length-area lay_node node_row node_row_lem.sized v.names.node_room v.names.nodes f.nodes in
      let e = length-area lay_entry entry_row entry_row_lem.sized v.names.entry_room v.names.entries f.entries in
      let c = length-area lay_chunk chunk_row chunk_row_lem.sized v.store.chunk_room v.store.chunks f.chunks in
      record { allocator = simp length-append (omega arith); nodes = simp length-append (omega arith); entries = simp length-append (omega arith); chunks = simp length-append (omega arith); bytes = simp length-append (omega arith); long = simp length-append (omega arith) }

  -- ---- the tables, each with its count in the header

  -- the table in area suc k, counted by word i
  counted : {R : Type 0} {lay : R → List ℕ} {s base room : ℕ} {rs : List R} {put : List R → List ℕ} (i k : ℕ) → i < 8 → k < 5 → ((r : R) → length (lay r) ≡ s) → length (joined (take (suc k) (areas v))) ≡ base → length rs ≤ room
      → get_or (heads v) i 0 ≡ length rs → get_or (areas v) (suc k) [] ≡ area lay s room rs → ((qs : List R) → put qs ≡ joined (lay_words (set (heads v) i (length qs)) ∷ set (drop 1 (areas v)) k (area lay s room qs))) → Counted lay s base room (8 * i) rs put
  counted i k h b z a r c e w =
      record { heads = heads v; others = drop 1 (areas v); counter = i; which = k; sized = z; in_heads = h; in_others = b; place = refl; start = a; fits = r; counts = c; stands = e; whole = w }

  pub nodes-counted : Counted lay_node node_row (at_nodes v.store.chunk_room) v.names.node_room 32 v.names.nodes (λ rs. laid (on_names (with_nodes rs) v))
  nodes-counted = counted 4 1 (omega arith) (omega arith) node_row_lem.sized starts.nodes f.nodes refl refl (λ qs. unfold laid in refl)

  pub entries-counted : Counted lay_entry entry_row (at_entries v.names.node_room v.store.chunk_room) v.names.entry_room 40 v.names.entries (λ rs. laid (on_names (with_entries rs) v))
  entries-counted = counted 5 2 (omega arith) (omega arith) entry_row_lem.sized starts.entries f.entries refl refl (λ qs. unfold laid in refl)

  pub chunks-counted : Counted lay_chunk chunk_row (at_chunks v.names.node_room v.names.entry_room v.store.chunk_room) v.store.chunk_room 48 v.store.chunks (λ rs. laid (on_store (with_chunks rs) v))
  chunks-counted = counted 6 3 (omega arith) (omega arith) chunk_row_lem.sized starts.chunks f.chunks refl refl (λ qs. unfold laid in refl)

  -- ---- what stands where

  -- the allocator's part
  pub allocator-laid : part (laid v) 64 (128 + 8 * v.store.chunk_room) ≡ lay_allocator v.store.allocator
  unfolding laid
  allocator-laid =
      let n = length-allocator in
      part-joined (areas v) 1 64 0 (omega arith) (omega (arith, starts.allocator)) (128 + 8 * v.store.chunk_room) (omega arith)
      ∙ (unfold part in take_all (128 + 8 * v.store.chunk_room) (lay_allocator v.store.allocator) (omega arith))

  -- the chunk area
  pub bytes-laid : drop (at_bytes v.names.node_room v.names.entry_room v.store.chunk_room) (laid v) ≡ v.store.bytes
  unfolding laid joined
  bytes-laid = drop-joined (areas v) 5 (at_bytes v.names.node_room v.names.entry_room v.store.chunk_room) starts.bytes ∙ append-nil v.store.bytes

-- what the words of bytes say of a volume
pub record Told (l : List ℕ) (v : Volume) : Type 0 where
  pub form : word l at_form ≡ form
  pub node_room : word l at_node_room ≡ v.names.node_room
  pub entry_room : word l at_entry_room ≡ v.names.entry_room
  pub chunk_room : word l at_chunk_room ≡ v.store.chunk_room
  pub nodes : word l at_nodes_used ≡ length v.names.nodes
  pub entries : word l at_entries_used ≡ length v.names.entries
  pub chunks : word l at_chunks_used ≡ length v.store.chunks
  pub next_node : word l at_next_node ≡ v.names.next_node
  pub mark : word l at_marker ≡ marker
  pub chunk_size : word l at_chunk_size ≡ v.store.allocator.chunk_size
  pub free_count : word l at_free_count ≡ v.store.allocator.free_count
  pub next_ptr : word l at_next_ptr ≡ v.store.allocator.next_ptr
  pub long : length l ≡ at_bytes v.names.node_room v.names.entry_room v.store.chunk_room + length v.store.bytes

module _ (v : Volume) (f : Fits v) where
  -- word i of the header
  head-laid : (i : ℕ) → i < 8 → word (laid v) (8 * i) ≡ get_or (heads v) i 0
  unfolding laid joined Each
  head-laid i h =
      let n = f.names in
      let s = f.store in
      num-words (heads v) (joined (drop 1 (areas v))) i (omega arith, (omega arith, (omega arith, (omega arith, (omega arith, (omega arith, (omega arith, (n.next_node, tt)))))))) h

  -- its allocator fits
  allocator-fits : AllocatorLaid.WordsFit v.store.allocator
  allocator-fits = record { twelve = f.store.twelve; small = f.store.small }

  -- a word of the allocator's part
  allocator-word : (i : ℕ) → i + 8 ≤ 128 → word (laid v) (64 + i) ≡ word (lay_allocator v.store.allocator) i
  allocator-word i h = sym (num-part 8 (laid v) 64 (128 + 8 * v.store.chunk_room) i (omega arith)) ∙ rw (allocator-laid v (spaced v f))

  -- the words of a volume that is laid out
  pub told-laid : Told (laid v) v
  told-laid = record {
    form = head-laid 0 (omega arith);
    node_room = head-laid 1 (omega arith);
    entry_room = head-laid 2 (omega arith);
    chunk_room = head-laid 3 (omega arith);
    nodes = head-laid 4 (omega arith);
    entries = head-laid 5 (omega arith);
    chunks = head-laid 6 (omega arith);
    next_node = head-laid 7 (omega arith);
    mark = allocator-word 0 (omega arith) ∙ AllocatorLaid.word-mark v.store.allocator allocator-fits ∙ f.store.mark;
    chunk_size = allocator-word 8 (omega arith) ∙ AllocatorLaid.word_size v.store.allocator allocator-fits;
    free_count = allocator-word 16 (omega arith) ∙ AllocatorLaid.word_count v.store.allocator allocator-fits;
    next_ptr = allocator-word 24 (omega arith) ∙ AllocatorLaid.word_next v.store.allocator allocator-fits;
    long = (starts v (spaced v f)).long;
  }

  -- what is laid out is read back
  pub shown-laid : shown (laid v) ≡ v
  unfolding shown
  shown-laid =
      let t = told-laid in
      let p = spaced v f in
      rw (t.node_room, t.entry_room, t.chunk_room, t.nodes, t.entries, t.chunks, t.next_node)
      (rw (rows_back node_row_lem (nodes-counted v p) f.names.node_rows, rows_back entry_row_lem (entries-counted v p) f.names.entry_rows, rows_back chunk_row_lem (chunks-counted v p) f.store.chunk_rows)
      (rw (bytes-laid v p, allocator-laid v p, AllocatorLaid.read-laid v.store.allocator allocator-fits)))

-- ---- what is framed is laid out again as it stands

-- a part, and the rest behind it, are the rest from the part on
behind : (l : List ℕ) (at n to : ℕ) {a b : List ℕ} → to ≡ at + n → a ≡ part l at n → b ≡ drop to l → a ++ b ≡ drop at l
unfolding part
behind l at n to e p q = rw (p, q, e, ← drop-drop n at l, take-append-drop n (drop at l))

-- the allocator's part of what is framed is in the allocator's form
pub allocator-formed : (l : List ℕ) → Framed l → WordsFormed (words_in l)
allocator-formed l f =
    let c = word l at_chunk_room in
    let n : length (words_in l) ≡ 128 + 8 * c = length_part l 64 (128 + 8 * c) (omega (arith, f.headed.placed.long)) in
    let k : word (words_in l) 16 ≡ word l at_free_count = num-part 8 l 64 (128 + 8 * c) 16 (omega arith) in
    record { least = rw n (omega arith); whole = rw n (omega arith); count = rw (n, k) (omega (arith, f.marked.free)) }

module _ (l : List ℕ) (y : Bytes l) (f : Framed l) where
  abbrev N : ℕ
  N = word l at_node_room

  abbrev E : ℕ
  E = word l at_entry_room

  abbrev C : ℕ
  C = word l at_chunk_room

  heads-again : lay_words (heads (shown l)) ≡ part l 0 64
  unfolding shown
  heads-again =
      words-again l 0 (heads (shown l)) y
      (unfold Read in (sym f.headed.formed, (refl, (refl, (refl, (length-table read_node node_row l (at_nodes C) (word l at_nodes_used), (length-table read_entry entry_row l (at_entries N C) (word l at_entries_used), (length-table read_chunk chunk_row l (at_chunks N E C) (word l at_chunks_used), (refl, tt))))))))) (omega (arith, f.headed.least))

  -- what is framed is laid out again as it stands
  pub laid-shown : laid (shown l) ≡ l
  unfolding laid shown joined
  laid-shown =
      let h = f.headed in
      let z = h.placed.long in
      behind l 0 64 64 refl heads-again
      (behind l 64 (128 + 8 * C) (at_nodes C) (omega arith) (AllocatorLaid.laid-again (words_in l) (bytes-part l 64 (128 + 8 * C) y (omega arith)) (allocator-formed l f))
      (behind l (at_nodes C) (node_row * N) (at_entries N C) refl (rows-again node_row_lem l y (at_nodes C) (word l at_nodes_used) N h.nodes (omega arith) f.nodes)
      (behind l (at_entries N C) (entry_row * E) (at_chunks N E C) refl (rows-again entry_row_lem l y (at_entries N C) (word l at_entries_used) E h.entries (omega arith) f.entries)
      (behind l (at_chunks N E C) (chunk_row * C) (at_bytes N E C) refl (rows-again chunk_row_lem l y (at_chunks N E C) (word l at_chunks_used) C h.chunks (omega arith) f.chunks) (append-nil (drop (at_bytes N E C) l))))))

  -- and its tables fit
  pub fits-shown : Fits (shown l)
  unfolding shown
  fits-shown =
      let h = f.headed in
      let z = h.placed.long in
      let a = AllocatorLaid.read_fits (words_in l) (bytes-part l 64 (128 + 8 * C) y (omega arith)) (allocator-formed l f) in
      record {
        names = record {
          node_room = h.placed.nodes;
          entry_room = h.placed.entries;
          next_node = num-below 8 l 56 y (omega arith);
          nodes = rw length-table h.nodes;
          entries = rw length-table h.entries;
          node_rows = rows_fit node_row_lem l y (at_nodes C) (word l at_nodes_used) N h.nodes (omega arith) f.nodes;
          entry_rows = rows_fit entry_row_lem l y (at_entries N C) (word l at_entries_used) E h.entries (omega arith) f.entries;
        };
        store = record {
          chunk_room = h.placed.chunks;
          long = rw length-drop (omega arith);
          chunks = rw length-table h.chunks;
          mark = unfold read_allocator in rw (num-part 8 l 64 (128 + 8 * C) 0 (omega arith)) f.marked.mark;
          twelve = a.twelve;
          words = unfold read_allocator in length-table read_word 8 (words_in l) 128 (length (words_in l) / 8 - 16) ∙ omega (arith, length_part l 64 (128 + 8 * C) (omega arith));
          small = a.small;
          size = unfold read_allocator in rw (num-part 8 l 64 (128 + 8 * C) 8 (omega arith)) f.marked.size;
          free = unfold read_allocator in rw (num-part 8 l 64 (128 + 8 * C) 16 (omega arith)) f.marked.free;
          chunk_rows = rows_fit chunk_row_lem l y (at_chunks N E C) (word l at_chunks_used) C h.chunks (omega arith) f.chunks;
        };
      }

  -- what is framed is a volume laid out
  pub framed-formed : Formed l
  framed-formed = record { same = laid-shown; fits = fits-shown }
