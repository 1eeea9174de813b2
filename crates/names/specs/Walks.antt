-- Believed: find. 13 for a path that is too long, 8 for one that is not permitted, 2 for a start that has no row; then part by part 9 for
-- one of more than 255 bytes, or 2 where the directory has no entry of that name. Below a file there is none. Behind that 4 for a path that
-- means a directory and leads to a regular file.
-- Assumes nothing.
use Rattle.std.specs.Prelude.{ℕ, Bool, true, false, List, [], ◌∷◌, ltb, length, Ok, Err}
use Rattle.std.proofs.Math.Option.{Option, none, some}
use Rattle.words.specs.Rules.{pick, both}
use Rattle.types.specs.Sizes.{most_name}
use Rattle.types.specs.declared.Error.{Error}
use Rattle.types.specs.declared.Error.TheVariants.{NoSuchEntry, NotDirectory, PathNotPermitted, BadName, InvalidArgument}
use Rattle.types.specs.Answers.{Answer}
use Rattle.types.specs.declared.FileType.{FileType}
use Rattle.types.specs.declared.FileType.TheVariants.{Directory, RegularFile, SymbolicLink}
use Rattle.types.specs.declared.NodeRecord.{NodeRecord}
use Rattle.paths.specs.Path.{Cutting, parts, not_permitted, too_long, cut_path, ends_open}
use Rattle.volume.specs.Rows.{Entry}
use Rattle.volume.specs.Volume.{Names}
use Rattle.volume.specs.Sound.{node}
use Rattle.names.specs.Entries.{entry_named, on_entry}

-- ---- the parts of a path

unfoldable pub on_cutting : {A : Type 0} → (Error → A) → (List (List ℕ) → A) → Cutting → A
on_cutting refuse call (parts ps) = call ps
on_cutting refuse call not_permitted = refuse PathNotPermitted
on_cutting refuse call too_long = refuse InvalidArgument

-- ---- looked up one by one

-- where parts lead: to a node, by the entry that names it last (none, where there was no part); or to a refusal
pub data Walk : Type 0 where
  reached : ℕ → Option Entry → Walk
  stopped : Error → Walk

unfoldable pub walk_parts : List Entry → ℕ → Option Entry → List (List ℕ) → Walk
walk_parts es n last [] = reached n last
walk_parts es n last (p ∷ ps) =
    pick (ltb most_name (length p)) (stopped BadName)
    (on_entry (stopped NoSuchEntry) (λ e. walk_parts es e.node (some e) ps) (entry_named n p es))

unfoldable pub on_start : {A : Type 0} → A → A → Option NodeRecord → A
on_start missing there none = missing
on_start missing there (some r) = there

-- from a start that has a row
unfoldable pub walk_from : ℕ → Names → List (List ℕ) → Walk
walk_from start a ps = on_start (stopped NoSuchEntry) (walk_parts a.entries start none ps) (node start a)

-- ---- a path that means a directory

-- its last piece is empty, `.` or `..`, and a part is left
unfoldable pub means_directory : List ℕ → List (List ℕ) → Bool
means_directory path ps = both (ends_open path) (ltb 0 (length ps))

-- a symbolic link passes, since it is not followed
abbrev pub passes_as_directory : FileType → Bool
passes_as_directory Directory = true
passes_as_directory RegularFile = false
passes_as_directory SymbolicLink = true

-- 4 for another node; an entry of a sound volume leads to none that has no row
unfoldable pub on_passing : {A : Type 0} → (Error → A) → A → Option NodeRecord → A
on_passing refuse there none = refuse NoSuchEntry
on_passing refuse there (some r) = pick (passes_as_directory r.kind) there (refuse NotDirectory)

-- judged by the node that the walk came to
unfoldable pub as_directory : Names → Walk → Walk
as_directory a (reached n last) = on_passing stopped (reached n last) (node n a)
as_directory a (stopped e) = stopped e

-- where a path leads that was cut into these parts
unfoldable pub walk_path : ℕ → List ℕ → Names → List (List ℕ) → Walk
walk_path start path a ps = pick (means_directory path ps) (as_directory a (walk_from start a ps)) (walk_from start a ps)

-- ---- the call

unfoldable pub node_reached : Walk → Answer
node_reached (reached n last) = Ok n
node_reached (stopped e) = Err e

unfoldable pub find_node : ℕ → List ℕ → Names → Answer
find_node start path a = on_cutting Err (λ ps. node_reached (walk_path start path a ps)) (cut_path path)
