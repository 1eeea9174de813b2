-- Believed: a search that may stop. 2 for a node that has no row, 4 for one that is no directory, 9 for a name that no entry can have. Then the
-- directory's entries at or above an index, in index order, no more of them than a limit.
-- Assumes nothing.
use Rattle.std.specs.Prelude.{ℕ, ◌+◌, Bool, not, List, [], ◌∷◌, length, take, drop, Result, Ok, Err}
use Rattle.std.proofs.Math.Option.{Option}
use Rattle.words.specs.Rules.{pick, same}
use Rattle.words.specs.Tables.{lead, find, only}
use Rattle.types.specs.declared.Error.{Error}
use Rattle.types.specs.declared.Error.TheVariants.{BadName}
use Rattle.types.specs.declared.Search.{Search}
use Rattle.types.specs.declared.Search.TheVariants.{Found, Absent, Stopped}
use Rattle.paths.specs.Path.{name_allowed}
use Rattle.volume.specs.Rows.{Entry}
use Rattle.volume.specs.Volume.{Names}
use Rattle.volume.specs.Sound.{node}
use Rattle.names.specs.Entries.{from_index, on_entry}
use Rattle.names.specs.Listing.{on_directory}

-- the entries of directory d at or above an index, in index order
unfoldable pub entries_from : ℕ → ℕ → List Entry → List Entry
entries_from d from es = only (from_index d from) es

abbrev pub named : List ℕ → Entry → Bool
named name e = same e.name name

-- the full search: the entry of directory d at or above an index that has a name
unfoldable pub named_from : ℕ → List ℕ → ℕ → List Entry → Option Entry
named_from d name from es = find (named name) (entries_from d from es)

-- ---- among entries

-- the position of the first that has a name, from 1
unfoldable pub position : List ℕ → List Entry → ℕ
position name es = lead (λ e. not (named name e)) es + 1

-- none of those looked at has the name: absent if no entry is left, else stopped at the first that is
unfoldable pub unfound : ℕ → List Entry → Search
unfound looked [] = Absent looked
unfound looked (e ∷ es) = Stopped e.index looked

-- no more than `most` are looked at
unfoldable pub looked_through : List ℕ → ℕ → List Entry → Search
looked_through name most es =
    on_entry (unfound (length (take most es)) (drop most es)) (λ e. Found e.index e.node (position name es)) (find (named name) (take most es))

-- ---- the call

unfoldable pub search : ℕ → List ℕ → ℕ → ℕ → Names → Result Search Error
search d name from most a =
    on_directory Err (λ r. pick (name_allowed name) (Ok (looked_through name most (entries_from d from a.entries))) (Err BadName)) (node d a)

-- ---- a search that goes on

-- what it finds in all, where so many were looked at before
abbrev pub found_in_all : ℕ → Search → Search
found_in_all before (Found index n looked) = Found index n (before + looked)
found_in_all before (Absent looked) = Absent (before + looked)
found_in_all before (Stopped index looked) = Stopped index (before + looked)

-- and what it gives
abbrev pub in_all : ℕ → Result Search Error → Result Search Error
in_all before (Ok s) = Ok (found_in_all before s)
in_all before (Err e) = Err e
