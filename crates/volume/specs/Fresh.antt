-- Believed: new volume: all zero but the header, the marker, the chunk size, and node 0, a directory with links 1; next node 1.
-- Assumes nothing.
use Rattle.std.specs.Prelude.{ℕ, ◌-◌, List, [], ◌∷◌, length, None}
use Rattle.words.specs.Bytes.{zeros}
use Rattle.words.specs.Rules.{pick}
use Rattle.types.specs.Outcomes.{Outcome, refused, done}
use Rattle.types.specs.declared.Error.TheVariants.{InvalidArgument}
use Rattle.types.specs.declared.FileType.TheVariants.{Directory}
use Rattle.types.specs.declared.NodeRecord.{NodeRecord}
use Rattle.allocator.specs.Sizes.{accepted_size}
use Rattle.allocator.specs.Allocator.{Allocator, marker}
use Rattle.volume.specs.Volume.{Volume, laid, at_bytes}
use Rattle.volume.specs.Geometry.{placed}

abbrev pub fresh_allocator : ℕ → ℕ → Allocator
fresh_allocator c s = record { mark = marker; chunk_size = s; free_count = 0; next_ptr = 0; unread = zeros 12; words = zeros c }

abbrev pub root : NodeRecord
root = record { node = 0; kind = Directory; limit = None; links = 1; size = 0 }

unfoldable pub fresh : ℕ → ℕ → ℕ → ℕ → ℕ → Volume
fresh n e c s area = record {
  names = record { node_room = n; entry_room = e; next_node = 1; nodes = root ∷ []; entries = [] };
  store = record { chunk_room = c; allocator = fresh_allocator c s; chunks = []; bytes = zeros area };
}

-- the bytes of one in a memory of so many
unfoldable pub fresh_laid : ℕ → ℕ → ℕ → ℕ → ℕ → List ℕ
fresh_laid n e c s size = laid (fresh n e c s (size - at_bytes n e c))

-- 13 for the geometry, the length, and the chunk size
unfoldable pub new_volume : ℕ → ℕ → ℕ → ℕ → List ℕ → Outcome
new_volume n e c s l =
    pick (placed n e c (length l))
    (pick (accepted_size s) (done 0 (fresh_laid n e c s (length l))) (refused InvalidArgument l))
    (refused InvalidArgument l)
