-- Believed: the form of the bytes: what has to hold so that the tables, laid out again, are the bytes. The scope's "The volume", sentence by sentence.
-- Assumes nothing.
use Rattle.std.specs.Prelude.{◌≡◌, true, ◌⊎◌, ℕ, ◌+◌, ◌-◌, ◌*◌, ◌^◌, ◌≤◌, ◌<◌, List, length}
use Rattle.words.specs.Bytes.{part, word, num, zeros}
use Rattle.words.specs.Tables.{Each}
use Rattle.types.specs.Sizes.{most_rows, least_area, most_size, most_name, name_room}
use Rattle.types.specs.Nodes.{limit_word}
use Rattle.types.specs.declared.NodeRecord.{NodeRecord}
use Rattle.allocator.specs.Sizes.{accepted_size}
use Rattle.allocator.specs.Allocator.{marker, words_of}
use Rattle.volume.specs.Header.{at_chunk_room, at_chunk_size, at_chunks_used, at_entries_used, at_entry_room, at_form, at_free_count, at_marker, at_node_room, at_nodes_used}
use Rattle.volume.specs.declared.ChunkRow.{ChunkRow}
use Rattle.volume.specs.Rows.{node_row, entry_row, chunk_row, Entry}
use Rattle.volume.specs.Volume.{Names, Store, Volume, form, at_nodes, at_entries, at_chunks, at_bytes}

-- N, E and C are 1 to 4,096, and the length is at least 65,728 + 40N + 280E + 32C
pub record Placed (n e c size : ℕ) : Type 0 where
  pub nodes : (1 ≤ n) × (n ≤ most_rows)
  pub entries : (1 ≤ e) × (e ≤ most_rows)
  pub chunks : (1 ≤ c) × (c ≤ most_rows)
  pub long : at_bytes n e c + least_area ≤ size

-- the header: form 1, the geometry, used counts that fit
pub record Headed (l : List ℕ) : Type 0 where
  pub least : 64 ≤ length l
  pub formed : word l at_form ≡ form
  pub placed : Placed (word l at_node_room) (word l at_entry_room) (word l at_chunk_room) (length l)
  pub nodes : word l at_nodes_used ≤ word l at_node_room
  pub entries : word l at_entries_used ≤ word l at_entry_room
  pub chunks : word l at_chunks_used ≤ word l at_chunk_room

-- the allocator's words: the marker, an accepted chunk size, a free count that fits
pub record Marked (l : List ℕ) : Type 0 where
  pub mark : word l at_marker ≡ marker
  pub size : accepted_size (word l at_chunk_size) ≡ true
  pub free : word l at_free_count ≤ word l at_chunk_room

-- a node's row: a type, a flag, six zeros, a limit of at most 2^40 that is 0 without the flag
pub record NodeFormed (l : List ℕ) (at : ℕ) : Type 0 where
  pub kind : num 1 l (at + 8) ≤ 2
  pub limit : ((num 1 l (at + 9) ≡ 0) × (word l (at + 32) ≡ 0)) ⊎ ((num 1 l (at + 9) ≡ 1) × (word l (at + 32) ≤ most_size))
  pub spare : part l (at + 10) 6 ≡ zeros 6

-- an entry's row: a name of 1 to 255 bytes, and the rest of its 256 bytes zero
pub record EntryFormed (l : List ℕ) (at : ℕ) : Type 0 where
  pub least : 1 ≤ num 4 l (at + 20)
  pub most : num 4 l (at + 20) ≤ most_name
  pub rest : part l (at + 24 + num 4 l (at + 20)) (name_room - num 4 l (at + 20)) ≡ zeros (name_room - num 4 l (at + 20))

-- rows of s bytes in use, and zeros behind them
pub record RowsFormed (Row : ℕ → Type 0) (s : ℕ) (l : List ℕ) (at used room : ℕ) : Type 0 where
  pub rows : (i : ℕ) → i < used → Row (at + s * i)
  pub unused : part l (at + s * used) (s * (room - used)) ≡ zeros (s * (room - used))

pub record Framed (l : List ℕ) : Type 0 where
  pub headed : Headed l
  pub marked : Marked l
  pub nodes : RowsFormed (NodeFormed l) node_row l (at_nodes (word l at_chunk_room)) (word l at_nodes_used) (word l at_node_room)
  pub entries : RowsFormed (EntryFormed l) entry_row l (at_entries (word l at_node_room) (word l at_chunk_room)) (word l at_entries_used) (word l at_entry_room)
  pub chunks : RowsFormed (λ _. Unit {0}) chunk_row l (at_chunks (word l at_node_room) (word l at_entry_room) (word l at_chunk_room)) (word l at_chunks_used) (word l at_chunk_room)

-- ---- the same of a volume: what fits into bytes

pub record NodeFits (r : NodeRecord) : Type 0 where
  pub node : r.node < 2 ^ 64
  pub links : r.links < 2 ^ 64
  pub size : r.size < 2 ^ 64
  pub limit : limit_word r.limit ≤ most_size

pub record EntryFits (e : Entry) : Type 0 where
  pub parent : e.parent < 2 ^ 64
  pub node : e.node < 2 ^ 64
  pub index : e.index < 2 ^ 32
  pub name : (1 ≤ length e.name) × (length e.name ≤ most_name)

pub record ChunkFits (r : ChunkRow) : Type 0 where
  pub node : r.node < 2 ^ 64
  pub index : r.index < 2 ^ 64
  pub pointer : r.pointer < 2 ^ 64

pub record NamesFits (a : Names) : Type 0 where
  pub node_room : (1 ≤ a.node_room) × (a.node_room ≤ most_rows)
  pub entry_room : (1 ≤ a.entry_room) × (a.entry_room ≤ most_rows)
  pub next_node : a.next_node < 2 ^ 64
  pub nodes : length a.nodes ≤ a.node_room
  pub entries : length a.entries ≤ a.entry_room
  pub node_rows : Each NodeFits a.nodes
  pub entry_rows : Each EntryFits a.entries

pub record StoreFits (s : Store) : Type 0 where
  pub chunk_room : (1 ≤ s.chunk_room) × (s.chunk_room ≤ most_rows)
  pub long : least_area ≤ length s.bytes
  pub chunks : length s.chunks ≤ s.chunk_room
  pub mark : s.allocator.mark ≡ marker
  pub twelve : length s.allocator.unread ≡ 12
  pub words : length s.allocator.words ≡ s.chunk_room
  pub small : Each (λ w. w < 2 ^ 64) (words_of s.allocator)
  pub size : accepted_size s.allocator.chunk_size ≡ true
  pub free : s.allocator.free_count ≤ s.chunk_room
  pub chunk_rows : Each ChunkFits s.chunks

pub record Fits (v : Volume) : Type 0 where
  pub names : NamesFits v.names
  pub store : StoreFits v.store
