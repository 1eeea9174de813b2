-- Believed: a chunk taken. Over any chunk size.
-- Assumes nothing.
use Rattle.std.specs.Prelude.{ℕ}
use Rattle.std.proofs.Math.Option.{Option, none, some}
use Rattle.words.specs.Bytes.{over, zeros}
use Rattle.words.specs.Tables.{lead, insert_at}
use Rattle.allocator.specs.Allocator.{allocate}
use Rattle.volume.specs.declared.ChunkRow.{ChunkRow}
use Rattle.volume.specs.Search.{chunk_under}
use Rattle.volume.specs.Volume.{Store, with_allocator, with_chunks, with_bytes}
use Rattle.tables.specs.OneRow.{chunk}

-- a chunk taken for index k of node n: allocate's pointer, its row in its place, its bytes zero
unfoldable pub taken : ℕ → ℕ → Store → Store
taken n k v =
    with_bytes (over v.bytes (allocate v.allocator).pointer (zeros v.allocator.chunk_size))
    (with_chunks (insert_at (lead (chunk_under n k) v.chunks) (record { node = n; index = k; pointer = (allocate v.allocator).pointer }) v.chunks)
    (with_allocator (allocate v.allocator).after v))

unfoldable pub ensured_for : Option ChunkRow → ℕ → ℕ → Store → Store
ensured_for none n k v = taken n k v
ensured_for (some c) n k v = v

-- taken where index k is a hole
unfoldable pub ensured : ℕ → ℕ → Store → Store
ensured n k v = ensured_for (chunk n k v.chunks) n k v
