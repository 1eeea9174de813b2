-- Inner: rules of chunk rows as tests: whose chunk it is, how far its index may reach, and the zeros above the size.
-- Assumes nothing.
use Rattle.std.specs.Prelude.{ℕ, ◌+◌, ◌-◌, ◌/◌, ◌%◌, Bool, false, not, List, length, ltb, Some, None}
use Rattle.words.specs.Bytes.{part}
use Rattle.words.specs.Rules.{both, either, upto}
use Rattle.words.specs.Tests.{all_zero}
use Rattle.types.specs.Nodes.{is_directory}
use Rattle.types.specs.declared.NodeRecord.{NodeRecord}
use Rattle.volume.specs.declared.ChunkRow.{ChunkRow}
use Rattle.volume.specs.Volume.{Names, Store}
use Rattle.volume.specs.Sound.{round_up}
use Rattle.tables.specs.Tables.{node_at, chunk_at, found_node, Found}

-- only a chunk that the size ends in has bytes above it
unfoldable pub tail_zero : ℕ → List ℕ → ChunkRow → ℕ → Bool
tail_zero s bytes c size = either (ltb c.index (size / s)) (all_zero (part bytes (c.pointer + size % s) (s - size % s)))

-- the owner is no directory, the index lies below size divided by S, rounded up; bytes above size are zero
unfoldable pub owned_by : ℕ → List ℕ → ChunkRow → NodeRecord → Bool
owned_by s bytes c r = both (not (is_directory r.kind)) (both (ltb c.index (round_up s r.size)) (tail_zero s bytes c r.size))

unfoldable pub owned_where : ℕ → List ℕ → List NodeRecord → ChunkRow → Found → Bool
owned_where s bytes rs c (Some i) = owned_by s bytes c (node_at rs i)
owned_where s bytes rs c None = false

-- the chunk in row i has an owner that can have it
unfoldable pub row_owned : Names → Store → ℕ → Bool
row_owned a s i = owned_where s.allocator.chunk_size s.bytes a.nodes (chunk_at s.chunks i) (found_node (chunk_at s.chunks i).node a.nodes)

unfoldable pub chunks_owned : Names → Store → Bool
chunks_owned a s = upto (length s.chunks) (λ i. row_owned a s i)
