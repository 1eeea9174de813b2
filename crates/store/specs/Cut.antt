-- Believed: a file's chunks freed from an index on, and zeros behind its new end; a hole there stays a hole. Over any chunk size.
-- Assumes nothing.
use Rattle.std.specs.Prelude.{ℕ, ◌-◌, ◌/◌, ◌%◌, Bool, not, map, eqb, leb}
use Rattle.words.specs.Bytes.{zeros}
use Rattle.words.specs.Rules.{both}
use Rattle.words.specs.Tables.{only}
use Rattle.allocator.specs.Allocator.{released}
use Rattle.volume.specs.declared.ChunkRow.{ChunkRow}
use Rattle.volume.specs.Volume.{Store, with_allocator, with_chunks}
use Rattle.volume.specs.Sound.{round_up}
use Rattle.store.specs.Written.{put}

-- chunk c of node n, or a later one of it
unfoldable pub goes : ℕ → ℕ → ChunkRow → Bool
goes n c r = both (eqb r.node n) (leb c r.index)

-- node n without its chunks from index c on: they are freed in ascending index order
unfoldable pub cut_from : ℕ → ℕ → Store → Store
cut_from n c v =
    with_chunks (only (λ r. not (goes n c r)) v.chunks) (with_allocator (released (map (λ r. r.pointer) (only (goes n c) v.chunks)) v.allocator) v)

-- zeros from byte z of node n to the end of its chunk, if that has a row
unfoldable pub tail_zeroed : ℕ → ℕ → Store → Store
tail_zeroed n z v = put n z (zeros (v.allocator.chunk_size - z % v.allocator.chunk_size)) (z / v.allocator.chunk_size) v

-- node n cut to z bytes. Where z is a multiple of the chunk size, no row is left to be zeroed
unfoldable pub shrunk : ℕ → ℕ → Store → Store
shrunk n z v = tail_zeroed n z (cut_from n (round_up v.allocator.chunk_size z) v)
