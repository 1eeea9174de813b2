-- Believed: the volume that the scope's boundary rows P1 to P7 start from, and a chunk row of theirs. The rows stand in
-- crates/sequences/specs/Boundary.antt.
-- Assumes nothing.
use Rattle.std.specs.Prelude.{◌≡◌, ℕ, ◌≤◌, None}
use Rattle.std.proofs.Math.Option.{some}
use Rattle.types.specs.declared.FileType.TheVariants.{RegularFile}
use Rattle.types.specs.declared.NodeRecord.{NodeRecord}
use Rattle.volume.specs.declared.ChunkRow.{ChunkRow}
use Rattle.volume.specs.Volume.{Volume}
use Rattle.volume.specs.Framed.{Fits}
use Rattle.volume.specs.Sound.{node, Good}

-- chunks of 16,384 bytes, room for at least two of them, no pointer given out yet; and a file that is empty and has no limit
pub record Start (n : ℕ) (r : NodeRecord) (v : Volume) : Type 0 where
  pub fits : Fits v
  pub good : Good v
  pub size : v.store.allocator.chunk_size ≡ 16384
  pub room : 2 ≤ v.store.chunk_room
  pub unused : v.store.allocator.next_ptr ≡ 0
  pub there : node n v.names ≡ some r
  pub file : r.kind ≡ RegularFile
  pub empty : r.size ≡ 0
  pub unlimited : r.limit ≡ None

-- chunk k of node n at this pointer
abbrev pub row : ℕ → ℕ → ℕ → ChunkRow
row n k p = record { node = n; index = k; pointer = p }
