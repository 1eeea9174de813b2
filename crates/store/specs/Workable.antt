-- Inner: what the steps of a write or a cut ask of a store, and keep: the rules of a good store, and of what fits into bytes the part they lean on.
-- Assumes nothing.
use Rattle.std.specs.Prelude.{◌≡◌, ◌≤◌, ◌<◌, length}
use Rattle.volume.specs.Volume.{Store}
use Rattle.volume.specs.Sound.{Stored}

pub record Workable (v : Store) : Type 0 where
  pub stored : Stored v
  pub size : 0 < v.allocator.chunk_size
  pub rows : length v.chunks ≤ v.chunk_room
  pub words : length v.allocator.words ≡ v.chunk_room
  pub frees : v.allocator.free_count ≤ v.chunk_room
