-- A volume that fits, laid out, is framed; and what keeps a volume fitting while one table changes.
-- Assumes nothing.
use mathlib.Core.Path.{◌≡◌, ap}
use mathlib.Core.Bool.{true}
use mathlib.Core.List.{List}
use Prim.Native.Nat.{ℕ, ◌^◌, ◌≤◌, ◌<◌}
use native.Mathlib.Omega.{arith}
use lib.ListN.{length}
use Rattle.words.specs.Tables.{Each}
use Rattle.types.specs.declared.NodeRecord.{NodeRecord}
use Rattle.allocator.specs.Sizes.{accepted_size}
use Rattle.allocator.specs.Allocator.{Allocator, marker}
use Rattle.volume.specs.declared.ChunkRow.{ChunkRow}
use Rattle.volume.specs.Rows.{Entry}
use Rattle.volume.specs.Volume.{Names, Store, Volume, laid, shown, with_next_node, with_allocator, with_nodes, with_entries, with_chunks, with_bytes, on_store}
use Rattle.volume.specs.Framed.{Framed, NodeFits, EntryFits, ChunkFits, NamesFits, StoreFits, Fits}
use Rattle.volume.specs.Formed.{Formed}
use Rattle.volume.proofs.RowBytes.{node_row_lem, entry_row_lem, chunk_row_lem}
use Rattle.volume.proofs.Laid.{rows-formed, Spaced, spaced, nodes-counted, entries-counted, chunks-counted, Told, told-laid, shown-laid}
use Rattle.allocator.proofs.Laid.{WordsFit}

module _ (v : Volume) (f : Fits v) where
  -- a volume that fits, laid out, is framed
  pub framed-laid : Framed (laid v)
  framed-laid =
      let t = told-laid v f in
      let p = spaced v f in
      record {
        headed = record {
          least = omega arith;
          formed = t.form;
          placed = rw (t.node_room, t.entry_room, t.chunk_room, t.long) (record { nodes = f.names.node_room; entries = f.names.entry_room; chunks = f.store.chunk_room; long = omega (arith, f.store.long) });
          nodes = rw (t.nodes, t.node_room) f.names.nodes;
          entries = rw (t.entries, t.entry_room) f.names.entries;
          chunks = rw (t.chunks, t.chunk_room) f.store.chunks;
        };
        marked = record { mark = t.mark; size = rw t.chunk_size f.store.size; free = rw (t.free_count, t.chunk_room) f.store.free };
        nodes = rw (t.chunk_room, t.nodes, t.node_room) (rows-formed node_row_lem (nodes-counted v p) f.names.node_rows);
        entries = rw (t.node_room, t.chunk_room, t.entries, t.entry_room) (rows-formed entry_row_lem (entries-counted v p) f.names.entry_rows);
        chunks = rw (t.node_room, t.entry_room, t.chunk_room, t.chunks) (rows-formed chunk_row_lem (chunks-counted v p) f.store.chunk_rows);
      }

  -- and is a volume laid out
  pub formed-laid : Formed (laid v)
  formed-laid = record { same = ap laid (shown-laid v f); fits = rw (shown-laid v f) f }

-- ---- what the words of a volume say

-- bytes that are a volume laid out
pub told : (l : List ℕ) → Formed l → Told l (shown l)
told l f = rw f.same at (told-laid (shown l) f.fits)

-- ---- another allocator: the areas stay in place

pub spaced-allocator : (v : Volume) → Spaced v → (a : Allocator) → length a.unread ≡ 12 → length a.words ≡ v.store.chunk_room → Spaced (on_store (with_allocator a) v)
spaced-allocator v f a t w = record { nodes = f.nodes; entries = f.entries; chunks = f.chunks; twelve = t; words = w }

-- ---- one table changed: the half still fits

module _ (a : Names) (f : NamesFits a) where
  pub fits_next : (x : ℕ) → x < 2 ^ 64 → NamesFits (with_next_node x a)
  fits_next x h = record { node_room = f.node_room; entry_room = f.entry_room; next_node = h; nodes = f.nodes; entries = f.entries; node_rows = f.node_rows; entry_rows = f.entry_rows }

  pub fits-nodes : (rs : List NodeRecord) → length rs ≤ a.node_room → Each NodeFits rs → NamesFits (with_nodes rs a)
  fits-nodes rs h g = record { node_room = f.node_room; entry_room = f.entry_room; next_node = f.next_node; nodes = h; entries = f.entries; node_rows = g; entry_rows = f.entry_rows }

  pub fits-entries : (rs : List Entry) → length rs ≤ a.entry_room → Each EntryFits rs → NamesFits (with_entries rs a)
  fits-entries rs h g = record { node_room = f.node_room; entry_room = f.entry_room; next_node = f.next_node; nodes = f.nodes; entries = h; node_rows = f.node_rows; entry_rows = g }

module _ (s : Store) (f : StoreFits s) where
  pub fits-allocator : (a : Allocator) → a.mark ≡ marker → WordsFit a → length a.words ≡ s.chunk_room → accepted_size a.chunk_size ≡ true → a.free_count ≤ s.chunk_room → StoreFits (with_allocator a s)
  fits-allocator a m g w z c = record { chunk_room = f.chunk_room; long = f.long; chunks = f.chunks; mark = m; twelve = g.twelve; words = w; small = g.small; size = z; free = c; chunk_rows = f.chunk_rows }

  pub fits-chunks : (rs : List ChunkRow) → length rs ≤ s.chunk_room → Each ChunkFits rs → StoreFits (with_chunks rs s)
  fits-chunks rs h g = record { chunk_room = f.chunk_room; long = f.long; chunks = h; mark = f.mark; twelve = f.twelve; words = f.words; small = f.small; size = f.size; free = f.free; chunk_rows = g }

  pub fits-bytes : (bs : List ℕ) → length bs ≡ length s.bytes → StoreFits (with_bytes bs s)
  fits-bytes bs e = record { chunk_room = f.chunk_room; long = rw e f.long; chunks = f.chunks; mark = f.mark; twelve = f.twelve; words = f.words; small = f.small; size = f.size; free = f.free; chunk_rows = f.chunk_rows }
