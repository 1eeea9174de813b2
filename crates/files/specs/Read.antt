-- Believed: read: 2, 3; at or past size a count of 0, else the lesser of buffer length and size less offset; holes give zeros; the buffer past
-- the count stays.
-- Assumes nothing.
use Rattle.std.specs.Prelude.{ℕ, ◌-◌, min, List, length}
use Rattle.words.specs.Bytes.{over}
use Rattle.types.specs.Outcomes.{Outcome, refused, done}
use Rattle.types.specs.declared.NodeRecord.{NodeRecord}
use Rattle.volume.specs.Volume.{Volume}
use Rattle.volume.specs.Files.{on_file}
use Rattle.store.specs.Content.{bytes_from}

-- how many bytes a read gives
unfoldable pub read_count : ℕ → ℕ → ℕ → ℕ
read_count size offset room = min room (size - offset)

unfoldable pub read_file : Volume → ℕ → List ℕ → NodeRecord → Outcome
read_file v offset buffer r =
    done (read_count r.size offset (length buffer)) (over buffer 0 (bytes_from v.store r.node offset (read_count r.size offset (length buffer))))

unfoldable pub read : ℕ → ℕ → Volume → List ℕ → Outcome
read n offset v buffer = on_file n v.names (λ e. refused e buffer) (read_file v offset buffer)
