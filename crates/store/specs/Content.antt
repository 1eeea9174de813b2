-- Believed: what tables and chunks show of a file: its bytes, a hole's as zeros. Over any chunk size.
-- Assumes nothing.
use Rattle.std.specs.Prelude.{ℕ, zero, suc, ◌+◌, ◌/◌, ◌%◌, List, [], ◌∷◌, get_or}
use Rattle.std.proofs.Math.Option.{Option, none, some}
use Rattle.volume.specs.declared.ChunkRow.{ChunkRow}
use Rattle.volume.specs.Volume.{Store}
use Rattle.tables.specs.OneRow.{chunk}

abbrev pub byte_in : List ℕ → Option ChunkRow → ℕ → ℕ
byte_in bytes none i = 0
byte_in bytes (some c) i = get_or bytes (c.pointer + i) 0

-- byte j of node n
unfoldable pub byte_at : Store → ℕ → ℕ → ℕ
byte_at v n j = byte_in v.bytes (chunk n (j / v.allocator.chunk_size) v.chunks) (j % v.allocator.chunk_size)

-- so many bytes of node n from byte j on
unfoldable pub bytes_from : Store → ℕ → ℕ → ℕ → List ℕ
bytes_from v n j zero = []
bytes_from v n j (suc k) = byte_at v n j ∷ bytes_from v n (j + 1) k
