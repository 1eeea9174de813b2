-- Inner: rules of the rows as tests, by their places in the tables: orders, indexes, next node, node 0, names.
-- Assumes nothing.
use Rattle.std.specs.Prelude.{ℕ, ◌+◌, ◌-◌, Bool, not, List, length, eqb, leb, ltb}
use Rattle.words.specs.Rules.{both, upto}
use Rattle.types.specs.Nodes.{is_directory}
use Rattle.types.specs.declared.NodeRecord.{NodeRecord}
use Rattle.paths.specs.Path.{name_allowed}
use Rattle.volume.specs.declared.ChunkRow.{ChunkRow}
use Rattle.volume.specs.Rows.{Entry}
use Rattle.volume.specs.Search.{pair_before}
use Rattle.tables.specs.Tables.{node_at, entry_at, chunk_at}

-- rows strictly ascend by node, by (parent, index), by (node, index): each row stands before the next one
unfoldable pub nodes_ascend : List NodeRecord → Bool
nodes_ascend rs = upto (length rs - 1) (λ i. ltb (node_at rs i).node (node_at rs (i + 1)).node)

unfoldable pub entries_ascend : List Entry → Bool
entries_ascend es = upto (length es - 1) (λ i. pair_before (entry_at es i).parent (entry_at es i).index (entry_at es (i + 1)).parent (entry_at es (i + 1)).index)

unfoldable pub chunks_ascend : List ChunkRow → Bool
chunks_ascend cs = upto (length cs - 1) (λ i. pair_before (chunk_at cs i).node (chunk_at cs i).index (chunk_at cs (i + 1)).node (chunk_at cs (i + 1)).index)

-- next node exceeds every node
unfoldable pub nodes_below : ℕ → List NodeRecord → Bool
nodes_below next rs = upto (length rs) (λ i. ltb (node_at rs i).node next)

-- the first row is node 0, a directory (rows ascend, so that node 0 stands first)
unfoldable pub rooted : List NodeRecord → Bool
rooted rs = both (leb 1 (length rs)) (both (eqb (node_at rs 0).node 0) (is_directory (node_at rs 0).kind))

-- an entry's index is at least 1, it does not name node 0, and its name has 1 to 255 bytes, no slash, and is neither `.` nor `..`
unfoldable pub entry_numbered : Entry → Bool
entry_numbered e = both (leb 1 e.index) (both (not (eqb e.node 0)) (name_allowed e.name))

unfoldable pub entries_numbered : List Entry → Bool
entries_numbered es = upto (length es) (λ i. entry_numbered (entry_at es i))
