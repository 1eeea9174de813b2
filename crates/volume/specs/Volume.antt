-- Believed: the volume as its tables, laid out area after area, and read off its bytes.
-- Assumes nothing.
use Rattle.std.specs.Prelude.{ℕ, ◌+◌, ◌*◌, List, [], ◌∷◌, length, drop}
use Rattle.words.specs.Bytes.{word, part}
use Rattle.words.specs.Tables.{table, lay_words, area, joined}
use Rattle.types.specs.declared.NodeRecord.{NodeRecord}
use Rattle.allocator.specs.Allocator.{Allocator, lay_allocator, read_allocator}
use Rattle.volume.specs.Header.{at_chunk_room, at_chunks_used, at_entries_used, at_entry_room, at_next_node, at_node_room, at_nodes_used}
use Rattle.volume.specs.declared.ChunkRow.{ChunkRow}
use Rattle.volume.specs.Rows.{node_row, entry_row, chunk_row, Entry, lay_node, read_node, lay_entry, read_entry, lay_chunk, read_chunk}

-- room for nodes and entries, the next node, and the rows of both
pub record Names : Type 0 where
  pub node_room : ℕ
  pub entry_room : ℕ
  pub next_node : ℕ
  pub nodes : List NodeRecord
  pub entries : List Entry

-- room for chunks, the allocator, the rows, and the chunk area
pub record Store : Type 0 where
  pub chunk_room : ℕ
  pub allocator : Allocator
  pub chunks : List ChunkRow
  pub bytes : List ℕ

pub record Volume : Type 0 where
  pub names : Names
  pub store : Store

-- the form the bytes have
abbrev pub form : ℕ
form = 1

-- the header's words: the form, the rooms, the rows used, the next node
abbrev pub heads : Volume → List ℕ
heads v = form ∷ v.names.node_room ∷ v.names.entry_room ∷ v.store.chunk_room ∷ length v.names.nodes ∷ length v.names.entries ∷ length v.store.chunks ∷ v.names.next_node ∷ []

abbrev pub areas : Volume → List (List ℕ)
areas v =
    lay_words (heads v)
    ∷ lay_allocator v.store.allocator
    ∷ area lay_node node_row v.names.node_room v.names.nodes
    ∷ area lay_entry entry_row v.names.entry_room v.names.entries
    ∷ area lay_chunk chunk_row v.store.chunk_room v.store.chunks
    ∷ v.store.bytes ∷ []

unfoldable pub laid : Volume → List ℕ
laid v = joined (areas v)

-- ---- where the areas start: behind the header's 64 bytes the allocator's 128 and 8 for each chunk, and so on

abbrev pub at_allocator : ℕ
at_allocator = 64

abbrev pub allocator_size : ℕ → ℕ
allocator_size c = 128 + 8 * c

abbrev pub at_nodes : ℕ → ℕ
at_nodes c = 192 + 8 * c

abbrev pub at_entries : ℕ → ℕ → ℕ
at_entries n c = at_nodes c + node_row * n

abbrev pub at_chunks : ℕ → ℕ → ℕ → ℕ
at_chunks n e c = at_entries n c + entry_row * e

abbrev pub at_bytes : ℕ → ℕ → ℕ → ℕ
at_bytes n e c = at_chunks n e c + chunk_row * c

-- the allocator's words
abbrev pub words_in : List ℕ → List ℕ
words_in l = part l at_allocator (allocator_size (word l at_chunk_room))

unfoldable pub shown : List ℕ → Volume
shown l = record {
  names = record {
    node_room = word l at_node_room;
    entry_room = word l at_entry_room;
    next_node = word l at_next_node;
    nodes = table read_node node_row l (at_nodes (word l at_chunk_room)) (word l at_nodes_used);
    entries = table read_entry entry_row l (at_entries (word l at_node_room) (word l at_chunk_room)) (word l at_entries_used);
  };
  store = record {
    chunk_room = word l at_chunk_room;
    allocator = read_allocator (words_in l);
    chunks = table read_chunk chunk_row l (at_chunks (word l at_node_room) (word l at_entry_room) (word l at_chunk_room)) (word l at_chunks_used);
    bytes = drop (at_bytes (word l at_node_room) (word l at_entry_room) (word l at_chunk_room)) l;
  };
}

-- ---- one field of a half changed

abbrev pub with_next_node : ℕ → Names → Names
with_next_node n a = record { node_room = a.node_room; entry_room = a.entry_room; next_node = n; nodes = a.nodes; entries = a.entries }

abbrev pub with_nodes : List NodeRecord → Names → Names
with_nodes rs a = record { node_room = a.node_room; entry_room = a.entry_room; next_node = a.next_node; nodes = rs; entries = a.entries }

abbrev pub with_entries : List Entry → Names → Names
with_entries es a = record { node_room = a.node_room; entry_room = a.entry_room; next_node = a.next_node; nodes = a.nodes; entries = es }

abbrev pub with_allocator : Allocator → Store → Store
with_allocator a s = record { chunk_room = s.chunk_room; allocator = a; chunks = s.chunks; bytes = s.bytes }

abbrev pub with_chunks : List ChunkRow → Store → Store
with_chunks cs s = record { chunk_room = s.chunk_room; allocator = s.allocator; chunks = cs; bytes = s.bytes }

abbrev pub with_bytes : List ℕ → Store → Store
with_bytes bs s = record { chunk_room = s.chunk_room; allocator = s.allocator; chunks = s.chunks; bytes = bs }

-- ---- one half changed

abbrev pub with_store : Store → Volume → Volume
with_store s v = record { names = v.names; store = s }

abbrev pub on_names : (Names → Names) → Volume → Volume
on_names f v = record { names = f v.names; store = v.store }

abbrev pub on_store : (Store → Store) → Volume → Volume
on_store f v = record { names = v.names; store = f v.store }
