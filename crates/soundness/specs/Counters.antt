-- Inner: counters by the rows of the nodes: of the entries that name each, or of those that each holds.
-- Assumes nothing.
use Rattle.std.specs.Prelude.{◌≡◌, ℕ, ◌≤◌, ◌<◌, List, length, get_or}
use Rattle.types.specs.Sizes.{most_rows}
use Rattle.volume.specs.Rows.{Entry}
use Rattle.volume.specs.Volume.{Names}
use Rattle.tables.specs.Tables.{node_at}

-- as many counters as a table may have rows; that of a row tells how many entries its number has
abbrev pub Counts : (ℕ → List Entry → ℕ) → Names → List ℕ → Type 0
Counts many a m = (length m ≡ most_rows) × ((k : ℕ) → k < length a.nodes → (get_or m k 0 ≡ many (node_at a.nodes k).node a.entries) × (get_or m k 0 ≤ 4096))
