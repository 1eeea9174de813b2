-- A good store that fits into bytes is one to work on.
-- Assumes nothing.
use native.Mathlib.Omega.{arith}
use Rattle.allocator.proofs.Sizes.{accepted-bounds}
use Rattle.volume.specs.Volume.{Store}
use Rattle.volume.specs.Framed.{StoreFits}
use Rattle.volume.specs.Sound.{Stored}
use Rattle.store.specs.Workable.{Workable}

pub stored-workable : (s : Store) → StoreFits s → Stored s → Workable s
stored-workable s f g = record { stored = g; size = omega (arith, accepted-bounds s.allocator.chunk_size f.size); rows = f.chunks; words = f.words; frees = f.free }
