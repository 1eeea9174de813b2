-- Inner: where a new entry goes, as code searches for it: the row of its directory, its place among the entries, and its index.
-- Assumes nothing.
use Rattle.std.specs.Prelude.{◌≡◌, ℕ, ◌+◌, Bool, List, eqb, Result, Some, None, Ok, Err}
use Rattle.words.specs.Rules.{pick}
use Rattle.words.specs.Tables.{lead}
use Rattle.types.specs.Nodes.{is_directory}
use Rattle.types.specs.declared.Error.TheVariants.{NoSuchEntry, NotDirectory, NoRowRoom, BadName, NameExists, NoIndexLeft}
use Rattle.types.specs.declared.NodeRecord.{NodeRecord}
use Rattle.paths.specs.Path.{name_allowed}
use Rattle.volume.specs.Rows.{Entry}
use Rattle.volume.specs.Search.{entry_under}
use Rattle.volume.specs.Volume.{Names}
use Rattle.tables.specs.Tables.{node_at, found_node, Found}
use Rattle.files.specs.declared.files.RowAt.{RowAt}
use Rattle.names.specs.Entries.{entry_named, greatest, on_entry}
use Rattle.names.specs.Entering.{most_index}
use Rattle.names.specs.Enterable as enterable
use Rattle.directories.specs.declared.entering.Spot.{Spot}
use Rattle.types.specs.declared.Error.{Error}

-- ---- the parent: its row and its place, or the refusal

unfoldable pub parent_at : List ℕ → List NodeRecord → Found → Result RowAt Error
parent_at name rs None = Err NoSuchEntry
parent_at name rs (Some i) =
    pick (eqb (node_at rs i).links 0) (Err NoSuchEntry)
    (pick (is_directory (node_at rs i).kind) (pick (name_allowed name) (Ok (record { place = i; row = node_at rs i })) (Err BadName)) (Err NotDirectory))

unfoldable pub parent_found : ℕ → List ℕ → List NodeRecord → Result RowAt Error
parent_found p name rs = parent_at name rs (found_node p rs)

-- a row and its place are those of a directory that is linked
pub record IsParent (p : ℕ) (a : Names) (d : RowAt) : Type 0 where
  pub found : Some d.place ≡ found_node p a.nodes
  pub here : d.row ≡ node_at a.nodes d.place
  pub number : d.row.node ≡ p
  pub linked : enterable.LinkedParent p a d.row

-- ---- the entry's place

-- an index above that of every entry
abbrev pub past_indexes : ℕ
past_indexes = 4294967296

-- behind the directory's other entries, and its index one above the greatest of them
abbrev pub new_spot : ℕ → List Entry → Spot
new_spot d es = record { place = lead (entry_under d (greatest d es + 1)) es; index = greatest d es + 1 }

unfoldable pub spot_found : ℕ → List ℕ → Bool → List Entry → Result Spot Error
spot_found d name full es =
    on_entry (pick full (Err NoRowRoom) (pick (eqb (greatest d es) most_index) (Err NoIndexLeft) (Ok (new_spot d es))))
    (λ e. Err NameExists) (entry_named d name es)
