-- Believed: room for new chunks, and how many of them a write needs. Over any chunk size.
-- Assumes nothing.
use Rattle.std.specs.Prelude.{ℕ, zero, suc, ◌+◌, ◌-◌, ◌/◌, min, List, length}
use Rattle.std.proofs.Math.Option.{Option, none, some}
use Rattle.volume.specs.declared.ChunkRow.{ChunkRow}
use Rattle.volume.specs.Volume.{Store}
use Rattle.tables.specs.OneRow.{chunk}

-- the lesser of C - rows and word 2 + (A - word 3) / S, rounded down
unfoldable pub room : Store → ℕ
room v = min (v.chunk_room - length v.chunks) (v.allocator.free_count + (length v.bytes - v.allocator.next_ptr) / v.allocator.chunk_size)

abbrev pub hole : Option ChunkRow → ℕ
hole none = 1
hole (some c) = 0

-- how many of c indexes of node n, from k on, have no row
unfoldable pub missing : ℕ → ℕ → ℕ → List ChunkRow → ℕ
missing n zero k cs = 0
missing n (suc c) k cs = hole (chunk n k cs) + missing n c (suc k) cs

-- the touched indexes: offset / S to (end - 1) / S
abbrev pub first_of : ℕ → ℕ → ℕ
first_of s offset = offset / s

abbrev pub num_of : ℕ → ℕ → ℕ → ℕ
num_of s offset len = suc ((offset + len - 1) / s) - offset / s

-- touched indexes without a row
unfoldable pub holes : ℕ → ℕ → ℕ → Store → ℕ
holes n offset len v = missing n (num_of v.allocator.chunk_size offset len) (first_of v.allocator.chunk_size offset) v.chunks
