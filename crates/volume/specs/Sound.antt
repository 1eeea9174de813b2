-- Believed: sound, in the scope's words and order: the frame, and what the tables say of each other.
-- Assumes nothing.
use Rattle.std.specs.Prelude.{◌≡◌, true, ℕ, ◌+◌, ◌-◌, ◌*◌, ◌/◌, ◌%◌, ◌≤◌, ◌<◌, List, map, length, get_or, eqb, None}
use Rattle.std.proofs.Math.Option.{Option, none, some}
use Rattle.words.specs.Rules.{bit, times, count}
use Rattle.words.specs.Tables.{Each, Asc, find}
use Rattle.types.specs.Nodes.{file_limit}
use Rattle.types.specs.declared.FileType.TheVariants.{Directory}
use Rattle.types.specs.declared.NodeRecord.{NodeRecord}
use Rattle.paths.specs.Path.{name_allowed}
use Rattle.allocator.specs.Allocator.{free}
use Rattle.allocator.specs.Pointers.{due}
use Rattle.volume.specs.declared.ChunkRow.{ChunkRow}
use Rattle.volume.specs.Rows.{Entry}
use Rattle.volume.specs.Volume.{Names, Store, Volume, shown}
use Rattle.volume.specs.Framed.{Framed}
use Rattle.volume.specs.Search.{PairBefore}

-- ---- a node's row, by its number

unfoldable pub node : ℕ → Names → Option NodeRecord
node n a = find (λ r. eqb r.node n) a.nodes

abbrev pub DirectoryThere : Option NodeRecord → Type 0
DirectoryThere none = ⊥
DirectoryThere (some r) = r.kind ≡ Directory

abbrev pub NodeThere : Option NodeRecord → Type 0
NodeThere none = ⊥
NodeThere (some r) = Unit {0}

-- ---- counts

-- how many entries name a node
unfoldable pub naming : ℕ → List Entry → ℕ
naming n es = times (λ e. eqb e.node n) es

-- how many entries a directory has
unfoldable pub entries_of : ℕ → List Entry → ℕ
entries_of n es = times (λ e. eqb e.parent n) es

-- ---- orders

abbrev pub node_before : NodeRecord → NodeRecord → Type 0
node_before a b = a.node < b.node

abbrev pub entry_before : Entry → Entry → Type 0
entry_before a b = PairBefore a.parent a.index b.parent b.index

abbrev pub chunk_before : ChunkRow → ChunkRow → Type 0
chunk_before a b = PairBefore a.node a.index b.node b.index

-- ---- chunks, over the chunk size

-- bytes divided by the chunk size, rounded up
unfoldable pub round_up : ℕ → ℕ → ℕ
round_up s z = (z + (s - 1)) / s

pub record ChunkOwned (s : ℕ) (bytes : List ℕ) (c : ChunkRow) (r : NodeRecord) : Type 0 where
  pub file : r.kind ≡ Directory → ⊥
  pub below : c.index < round_up s r.size
  pub zeros : (i : ℕ) → i < s → r.size ≤ c.index * s + i → get_or bytes (c.pointer + i) 0 ≡ 0

abbrev pub Owned : ℕ → List ℕ → ChunkRow → Option NodeRecord → Type 0
Owned s bytes c none = ⊥
Owned s bytes c (some r) = ChunkOwned s bytes c r

-- ---- the rules

pub record NodeGood (es : List Entry) (r : NodeRecord) : Type 0 where
  -- a directory is named by at most one entry, has no limit, and a size equal to its number of entries, which is 0 if its links are 0
  pub named : r.kind ≡ Directory → naming r.node es ≤ 1
  pub unlimited : r.kind ≡ Directory → r.limit ≡ None
  pub entries : r.kind ≡ Directory → r.size ≡ entries_of r.node es
  pub unlinked : r.kind ≡ Directory → r.links ≡ 0 → r.size ≡ 0
  -- links equal the entries naming the node; node 0 has 1
  pub links : r.links ≡ bit (eqb r.node 0) + naming r.node es
  -- size is at most the file limit
  pub size : r.size ≤ file_limit r.limit

-- nodes and entries
pub record Named (a : Names) : Type 0 where
  -- rows strictly ascend by node, by (parent, index)
  pub node_order : Asc node_before a.nodes
  pub entry_order : Asc entry_before a.entries
  -- an entry's index is at least 1
  pub indexes : Each (λ e. 1 ≤ e.index) a.entries
  -- next node exceeds every node
  pub fresh : Each (λ r. r.node < a.next_node) a.nodes
  -- node 0 is a directory named by no entry
  pub root : DirectoryThere (node 0 a)
  pub unnamed : naming 0 a.entries ≡ 0
  -- names have 1 to 255 bytes, no slash, and are neither `.` nor `..`
  pub names : Each (λ e. name_allowed e.name ≡ true) a.entries
  -- every entry's parent is a directory and its node has a row
  pub parents : Each (λ e. DirectoryThere (node e.parent a)) a.entries
  pub targets : Each (λ e. NodeThere (node e.node a)) a.entries
  -- no name stands twice in a directory
  pub once : Asc (λ a b. a.parent ≡ b.parent → a.name ≡ b.name → ⊥) a.entries
  -- what holds of each node
  pub nodes : Each (NodeGood a.entries) a.nodes

-- chunk rows, allocator and chunk area
pub record Stored (s : Store) : Type 0 where
  -- rows strictly ascend by (node, index)
  pub order : Asc chunk_before s.chunks
  -- word 3 is a multiple of S, at most A and C × S
  pub lined : s.allocator.next_ptr % s.allocator.chunk_size ≡ 0
  pub inside : s.allocator.next_ptr ≤ length s.bytes
  pub enough : s.allocator.next_ptr ≤ s.chunk_room * s.allocator.chunk_size
  -- each multiple of S below it stands exactly once among row pointers and free pointers, and no other pointer stands there
  pub pointers : (p : ℕ) → count p (map (λ c. c.pointer) s.chunks) + count p (free s.allocator) ≡ due s.allocator.chunk_size s.allocator.next_ptr p

-- chunk rows belong to non-directories, with index below size divided by S, rounded up; bytes of a chunk above size are zero
abbrev pub ChunksOwned : Names → Store → Type 0
ChunksOwned a s = Each (λ c. Owned s.allocator.chunk_size s.bytes c (node c.node a)) s.chunks

pub record Good (v : Volume) : Type 0 where
  pub named : Named v.names
  pub stored : Stored v.store
  pub owned : ChunksOwned v.names v.store

pub record Sound (l : List ℕ) : Type 0 where
  pub framed : Framed l
  pub good : Good (shown l)
