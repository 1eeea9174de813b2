-- Believed: pointers over a sequence of calls: one that stood in a chunk row at some point is, at every later one, a multiple of the chunk
-- size below word 3, and live once or free once.
-- Assumes nothing.
use Rattle.std.specs.Prelude.{◌≡◌, List, map, ℕ, ◌+◌, ◌%◌, ◌≤◌, ◌<◌}
use Rattle.words.specs.Rules.{count}
use Rattle.allocator.specs.Allocator.{free}
use Rattle.volume.specs.Volume.{Store}
use Rattle.sequences.specs.Calls.{Call, new_volume, check, report, set_chunk_size, read, write, resize, set_limit, find_node, next_entry, search, create, link, unlink, remove}

abbrev pub live : Store → List ℕ
live s = map (λ c. c.pointer) s.chunks

-- it stands in a chunk row
abbrev pub GivenOut : ℕ → Store → Type 0
GivenOut p s = 1 ≤ count p (live s)

-- s is a store at some point, t the one at a later point
pub record StillOnce (p : ℕ) (s t : Store) : Type 0 where
  pub size : t.allocator.chunk_size ≡ s.allocator.chunk_size
  pub next : s.allocator.next_ptr ≤ t.allocator.next_ptr
  pub lined : p % t.allocator.chunk_size ≡ 0
  pub below : p < t.allocator.next_ptr
  pub once : count p (live t) + count p (free t.allocator) ≡ 1

-- every call but new volume goes on with the volume that there is
abbrev pub GoesOn : Call → Type 0
GoesOn (new_volume n e c s) = ⊥
GoesOn check = Unit {0}
GoesOn (report out) = Unit {0}
GoesOn (set_chunk_size s) = Unit {0}
GoesOn (read n offset buffer) = Unit {0}
GoesOn (write n offset bs) = Unit {0}
GoesOn (resize n z) = Unit {0}
GoesOn (set_limit n most) = Unit {0}
GoesOn (find_node start path) = Unit {0}
GoesOn (next_entry d from) = Unit {0}
GoesOn (search d name from most) = Unit {0}
GoesOn (create p name byte) = Unit {0}
GoesOn (link p name t) = Unit {0}
GoesOn (unlink start path want opens) = Unit {0}
GoesOn (remove n) = Unit {0}
