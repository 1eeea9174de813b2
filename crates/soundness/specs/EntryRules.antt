-- Inner: rules between entries and the nodes they name, and between entries of one directory, as tests by their places in the tables.
-- Assumes nothing.
use Rattle.std.specs.Prelude.{ℕ, Bool, true, false, not, List, length, eqb, Some, None}
use Rattle.words.specs.Rules.{both, upto, same}
use Rattle.types.specs.Nodes.{is_directory}
use Rattle.types.specs.declared.NodeRecord.{NodeRecord}
use Rattle.volume.specs.Rows.{Entry}
use Rattle.tables.specs.Tables.{node_at, entry_at, found_node, Found}

-- what a search found is there, is a directory
unfoldable pub is_found : Found → Bool
is_found (Some i) = true
is_found None = false

unfoldable pub found_directory : List NodeRecord → Found → Bool
found_directory rs (Some i) = is_directory (node_at rs i).kind
found_directory rs None = false

-- every entry's parent is a directory and its node has a row
unfoldable pub entry_related : List NodeRecord → Entry → Bool
entry_related rs e = both (found_directory rs (found_node e.parent rs)) (is_found (found_node e.node rs))

unfoldable pub entries_related : List NodeRecord → List Entry → Bool
entries_related rs es = upto (length es) (λ i. entry_related rs (entry_at es i))

-- two entries have one name in one directory
unfoldable pub same_name : Entry → Entry → Bool
same_name a b = both (eqb a.parent b.parent) (same a.name b.name)

-- no row before row i has its name
unfoldable pub name_new : List Entry → ℕ → Bool
name_new es i = upto i (λ k. not (same_name (entry_at es k) (entry_at es i)))

-- no name stands twice in a directory
unfoldable pub names_once : List Entry → Bool
names_once es = upto (length es) (λ i. name_new es i)
