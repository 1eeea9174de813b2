-- Inner: a walk along parts as code takes it: the node that it has come to, and the place of the entry that named it last.
-- Assumes nothing.
use Rattle.std.specs.Prelude.{ℕ, List, [], ◌∷◌, ltb, length, Some, None, Result, Ok, Err}
use Rattle.words.specs.Rules.{pick}
use Rattle.types.specs.Sizes.{most_name}
use Rattle.types.specs.declared.Error.{Error}
use Rattle.types.specs.declared.Error.TheVariants.{NoSuchEntry, PathNotPermitted, BadName}
use Rattle.paths.specs.Path.{cut_path}
use Rattle.volume.specs.Rows.{Entry}
use Rattle.volume.specs.Volume.{Names}
use Rattle.volume.specs.Sound.{node}
use Rattle.tables.specs.Tables.{entry_at, found_node, Found}
use Rattle.names.specs.Walks.{on_cutting, means_directory, on_passing}
use Rattle.directories.specs.declared.finding.Reached.{Reached}
use Rattle.directories.specs.Searches.{entry_found}

-- what a walk comes to, or why it is refused
abbrev pub Reach : Type 0
Reach = Result Reached Error

-- what a search gives
unfoldable pub reached_by : List Entry → Found → Reach
reached_by es (Some p) = Ok (record { node = (entry_at es p).node; place = p })
reached_by es None = Err NoSuchEntry

-- one part, from a node
unfoldable pub reach : List Entry → ℕ → List ℕ → Reach
reach es n part = pick (ltb most_name (length part)) (Err BadName) (reached_by es (entry_found n part es))

-- a part more, from what was reached
unfoldable pub reach_next : List Entry → Reach → List ℕ → Reach
reach_next es (Err e) part = Err e
reach_next es (Ok r) part = reach es r.node part

unfoldable pub reach_all : List Entry → Reach → List (List ℕ) → Reach
reach_all es r [] = r
reach_all es r (part ∷ ps) = reach_all es (reach_next es r part) ps

-- where a walk begins
abbrev pub begun : ℕ → Reach
begun start = Ok (record { node = start; place = 0 })

unfoldable pub reach_of : List Entry → ℕ → List (List ℕ) → Found → Reach
reach_of es start ps None = Err NoSuchEntry
reach_of es start ps (Some i) = reach_all es (begun start) ps

-- from a start that has a row
unfoldable pub reach_from : ℕ → Names → List (List ℕ) → Reach
reach_from start a ps = reach_of a.entries start ps (found_node start a.nodes)

-- to what passes as a directory
unfoldable pub reach_directory : Names → Reach → Reach
reach_directory a (Err e) = Err e
reach_directory a (Ok r) = on_passing Err (Ok r) (node r.node a)

-- along the parts of a path
unfoldable pub reach_parts : ℕ → List ℕ → Names → List (List ℕ) → Reach
reach_parts start path a ps = pick (means_directory path ps) (reach_directory a (reach_from start a ps)) (reach_from start a ps)

-- along a path, which has to have at least so many parts
unfoldable pub reach_path : ℕ → List ℕ → ℕ → Names → Reach
reach_path start path least a =
    on_cutting Err (λ ps. pick (ltb (length ps) least) (Err PathNotPermitted) (reach_parts start path a ps)) (cut_path path)
