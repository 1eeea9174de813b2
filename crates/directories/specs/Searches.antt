-- Inner: a search among a directory's entries as code takes it: the first by halving, the others followed.
-- Assumes nothing.
use Rattle.std.specs.Prelude.{ℕ, ◌+◌, Bool, not, List, eqb, ltb, length, drop, Result, Some, None, Ok, Err}
use Rattle.words.specs.Rules.{pick, both, same}
use Rattle.words.specs.Tables.{lead}
use Rattle.types.specs.declared.Error.TheVariants.{NoSuchEntry}
use Rattle.volume.specs.Rows.{Entry}
use Rattle.volume.specs.Search.{entry_under}
use Rattle.volume.specs.Volume.{Names}
use Rattle.volume.specs.Sound.{node}
use Rattle.tables.specs.Tables.{entry_at, Found}
use Rattle.names.specs.Listing.{on_directory}
use Rattle.directories.specs.declared.searching.Searched.{Searched}
use Rattle.directories.specs.declared.searching.Searched.TheVariants.{At, Absent, Stopped}
use Rattle.types.specs.declared.Error.{Error}

-- a node is there and is a directory: nothing to tell, or why not
unfoldable pub directory_there : ℕ → Names → Result (Unit {0}) Error
directory_there d a = on_directory Err (λ r. Ok tt) (node d a)

-- an entry of the directory that has another name
abbrev pub other_name : ℕ → List ℕ → Entry → Bool
other_name d name e = both (eqb e.parent d) (not (same e.name name))

-- there is an entry at a place, and it is the directory's
unfoldable pub entry_there : ℕ → List Entry → ℕ → Bool
entry_there d es p = both (ltb p (length es)) (eqb (entry_at es p).parent d)

-- k have another name from the first on. Where the limit is above that, the next one is it, if it is the directory's; else as many as the limit
-- were looked at, and the next one is left, if it is the directory's
unfoldable pub searched_from : ℕ → List Entry → ℕ → ℕ → ℕ → Searched
searched_from d es first most k =
    pick (ltb k most) (pick (entry_there d es (first + k)) (At (first + k) (k + 1)) (Absent k))
    (pick (entry_there d es (first + most)) (Stopped (first + most) most) (Absent most))

unfoldable pub searched : ℕ → List ℕ → ℕ → ℕ → List Entry → Searched
searched d name from most es = searched_from d es (lead (entry_under d from) es) most (lead (other_name d name) (drop (lead (entry_under d from) es) es))

-- the place of the entry that has a name
unfoldable pub found_from : ℕ → List Entry → ℕ → Found
found_from d es p = pick (entry_there d es p) (Some p) None

unfoldable pub entry_found : ℕ → List ℕ → List Entry → Found
entry_found d name es = found_from d es (lead (entry_under d 0) es + lead (other_name d name) (drop (lead (entry_under d 0) es) es))

-- ---- the place of the next entry

unfoldable pub next_in : ℕ → List Entry → ℕ → Result ℕ Error
next_in d es p = pick (entry_there d es p) (Ok p) (Err NoSuchEntry)

unfoldable pub next_place : ℕ → ℕ → Names → Result ℕ Error
next_place d from a = on_directory Err (λ r. next_in d a.entries (lead (entry_under d from) a.entries)) (node d a)
