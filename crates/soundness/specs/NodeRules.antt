-- Inner: rules of a node's row that count entries, as tests: links, a directory's entries and size, limits.
-- Assumes nothing.
use Rattle.std.specs.Prelude.{ℕ, ◌+◌, Bool, true, List, length, eqb, leb}
use Rattle.words.specs.Rules.{pick, both, either, upto, bit}
use Rattle.types.specs.Nodes.{is_directory, is_unlimited, file_limit}
use Rattle.types.specs.declared.NodeRecord.{NodeRecord}
use Rattle.volume.specs.Rows.{Entry}
use Rattle.volume.specs.Sound.{naming, entries_of}
use Rattle.tables.specs.Tables.{node_at}

-- a directory is named by at most one entry, has no limit, and a size equal to its number of entries, which is 0 if its links are 0
unfoldable pub directory_good : ℕ → ℕ → NodeRecord → Bool
directory_good named held r = both (leb named 1) (both (is_unlimited r.limit) (both (eqb r.size held) (either (leb 1 r.links) (eqb r.size 0))))

-- links equal the entries naming the node, node 0 has 1; size is at most the file limit
unfoldable pub node_good : ℕ → ℕ → NodeRecord → Bool
node_good named held r =
    both (eqb r.links (bit (eqb r.node 0) + named))
    (both (leb r.size (file_limit r.limit))
    (pick (is_directory r.kind) (directory_good named held r) true))

unfoldable pub nodes_good : List NodeRecord → List Entry → Bool
nodes_good rs es = upto (length rs) (λ i. node_good (naming (node_at rs i).node es) (entries_of (node_at rs i).node es) (node_at rs i))
