-- Believed: bytes put into chunks, which are taken where there is none. Over any chunk size.
-- Assumes nothing.
use Rattle.std.specs.Prelude.{ℕ, zero, suc, ◌+◌, ◌-◌, ◌*◌, min, max, List, length}
use Rattle.std.proofs.Math.Option.{Option, none, some}
use Rattle.words.specs.Bytes.{part, over}
use Rattle.volume.specs.declared.ChunkRow.{ChunkRow}
use Rattle.volume.specs.Volume.{Store, with_bytes}
use Rattle.tables.specs.OneRow.{chunk}
use Rattle.store.specs.Room.{first_of, num_of}
use Rattle.store.specs.Taken.{ensured}

-- what of bytes from byte offset of a file on falls into its chunk k: from this byte of the file to that one
abbrev pub low_of : ℕ → ℕ → ℕ → ℕ
low_of s offset k = max offset (k * s)

abbrev pub high_of : ℕ → ℕ → ℕ → ℕ → ℕ
high_of s offset len k = min (offset + len) (k * s + s)

abbrev pub piece_of : ℕ → ℕ → List ℕ → ℕ → List ℕ
piece_of s offset bs k = part bs (low_of s offset k - offset) (high_of s offset (length bs) k - low_of s offset k)

unfoldable pub put_for : Option ChunkRow → ℕ → List ℕ → ℕ → Store → Store
put_for none offset bs k v = v
put_for (some c) offset bs k v =
    with_bytes (over v.bytes (c.pointer + (low_of v.allocator.chunk_size offset k - k * v.allocator.chunk_size)) (piece_of v.allocator.chunk_size offset bs k)) v

-- the piece of bytes that falls into chunk k put there
unfoldable pub put : ℕ → ℕ → List ℕ → ℕ → Store → Store
put n offset bs k v = put_for (chunk n k v.chunks) offset bs k v

-- ---- chunks one after another

unfoldable pub write_chunk : ℕ → ℕ → List ℕ → ℕ → Store → Store
write_chunk n offset bs k v = put n offset bs k (ensured n k v)

-- c chunks from index k on, in index order
unfoldable pub write_chunks : ℕ → ℕ → List ℕ → ℕ → ℕ → Store → Store
write_chunks n offset bs zero k v = v
write_chunks n offset bs (suc c) k v = write_chunks n offset bs c (suc k) (write_chunk n offset bs k v)

-- all that bytes from byte offset on touch
unfoldable pub written : ℕ → ℕ → List ℕ → Store → Store
written n offset bs v = write_chunks n offset bs (num_of v.allocator.chunk_size offset (length bs)) (first_of v.allocator.chunk_size offset) v
