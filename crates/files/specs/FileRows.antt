-- Inner: a file's row as code searches for it: the row and its place, or the refusal; and the chunk size as code hands it on.
-- Assumes nothing.
use Rattle.std.specs.Prelude.{ℕ, ◌≤◌, ◌<◌, ◌≡◌, List, Result, Some, None, Ok, Err}
use Rattle.words.specs.Rules.{pick}
use Rattle.types.specs.Nodes.{is_directory}
use Rattle.types.specs.declared.Error.TheVariants.{NoSuchEntry, IsDirectory}
use Rattle.types.specs.declared.NodeRecord.{NodeRecord}
use Rattle.volume.specs.Volume.{Store}
use Rattle.tables.specs.Tables.{node_at, found_node, Found}
use Rattle.files.specs.declared.files.RowAt.{RowAt}
use Rattle.types.specs.declared.Error.{Error}

unfoldable pub file_at : List NodeRecord → Found → Result RowAt Error
file_at rs None = Err NoSuchEntry
file_at rs (Some i) = pick (is_directory (node_at rs i).kind) (Err IsDirectory) (Ok (record { place = i; row = node_at rs i }))

unfoldable pub file_found : ℕ → List NodeRecord → Result RowAt Error
file_found n rs = file_at rs (found_node n rs)

-- the chunk size, as code hands it on
abbrev pub IsSpan : Store → ℕ → Type 0
IsSpan v s = (s ≡ v.allocator.chunk_size) × (0 < s) × (s ≤ 65536)
