-- Inner: what a search in a table finds, rows by their places, and where a volume's tables stand.
-- Assumes nothing.
use Rattle.std.specs.Prelude.{◌≡◌, ℕ, List, [], length, get_or, eqb, ltb, Option, Some, None}
use Rattle.words.specs.Rules.{pick}
use Rattle.words.specs.Tables.{lead}
use Rattle.types.specs.declared.NodeRecord.{NodeRecord}
use Rattle.volume.specs.declared.Layout.{Layout}
use Rattle.volume.specs.declared.ChunkRow.{ChunkRow}
use Rattle.volume.specs.Rows.{Entry, read_node, read_entry, read_chunk}
use Rattle.volume.specs.Volume.{Volume, shown}
use Rattle.volume.specs.Formed.{Formed}
use Rattle.volume.specs.Layouts.{layout_of}
use Rattle.volume.specs.Search.{node_under}

abbrev pub layout_at : Volume → Layout
layout_at v = layout_of v.names.node_room v.names.entry_room v.store.chunk_room

-- a volume laid out, with its geometry
pub record Ready (l : List ℕ) (y : Layout) : Type 0 where
  pub formed : Formed l
  pub layout : y ≡ layout_at (shown l)

-- rows by their place in a table
abbrev pub node_at : List NodeRecord → ℕ → NodeRecord
node_at rs i = get_or rs i (read_node [])

abbrev pub entry_at : List Entry → ℕ → Entry
entry_at es i = get_or es i (read_entry [])

abbrev pub chunk_at : List ChunkRow → ℕ → ChunkRow
chunk_at cs i = get_or cs i (read_chunk [])

-- the place of a row, if there is one
abbrev pub Found : Type 0
Found = Option ℕ

unfoldable pub found_node : ℕ → List NodeRecord → Found
found_node n rs = pick (ltb (lead (node_under n) rs) (length rs)) (pick (eqb (node_at rs (lead (node_under n) rs)).node n) (Some (lead (node_under n) rs)) None) None
