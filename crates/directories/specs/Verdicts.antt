-- Inner: an entry taken out as code does it: whether it may go, by its node's row and decided by the node's kind first; and the entry by its place.
-- Assumes nothing.
use Rattle.std.specs.Prelude.{◌≡◌, ℕ, ◌<◌, eqb, ltb, length, Result, Some, Ok, Err}
use Rattle.words.specs.Rules.{pick}
use Rattle.types.specs.Nodes.{is_directory}
use Rattle.types.specs.declared.Expected.{Expected}
use Rattle.types.specs.declared.Error.TheVariants.{IsDirectory, NotDirectory, DirectoryNotEmpty, Busy}
use Rattle.types.specs.declared.FileType.TheVariants.{Directory}
use Rattle.types.specs.declared.NodeRecord.{NodeRecord}
use Rattle.volume.specs.Volume.{Names}
use Rattle.volume.specs.Sound.{node}
use Rattle.volume.specs.Steps.{NamesStep}
use Rattle.tables.specs.Tables.{node_at, entry_at, found_node}
use Rattle.files.specs.declared.files.RowAt.{RowAt}
use Rattle.names.specs.Unlinking.{wants_file, wants_directory, unlink_node}
use Rattle.types.specs.declared.Error.{Error}

-- a node that is open keeps its last name
unfoldable pub open_verdict : ℕ → NodeRecord → Result (Unit {0}) Error
open_verdict opens r = pick (eqb opens 0) (Ok tt) (pick (eqb r.links 1) (Err Busy) (Ok tt))

unfoldable pub directory_verdict : Expected → ℕ → NodeRecord → Result (Unit {0}) Error
directory_verdict want opens r = pick (wants_file want) (Err IsDirectory) (pick (ltb 0 r.size) (Err DirectoryNotEmpty) (open_verdict opens r))

unfoldable pub file_verdict : Expected → ℕ → NodeRecord → Result (Unit {0}) Error
file_verdict want opens r = pick (wants_directory want) (Err NotDirectory) (open_verdict opens r)

unfoldable pub verdict : Expected → ℕ → NodeRecord → Result (Unit {0}) Error
verdict want opens r = pick (is_directory r.kind) (directory_verdict want opens r) (file_verdict want opens r)

-- the entry at a place may go: the row is its node's, and a directory that it names is empty
pub record Leaves (a : Names) (p : ℕ) (t : RowAt) : Type 0 where
  pub place : p < length a.entries
  pub found : Some t.place ≡ found_node (entry_at a.entries p).node a.nodes
  pub here : t.row ≡ node_at a.nodes t.place
  pub empty : t.row.kind ≡ Directory → t.row.size ≡ 0

-- what unlink does, once it has come to the entry at a place
unfoldable pub unlink_at : ℕ → Expected → ℕ → Names → NamesStep
unlink_at p want opens a = unlink_node want opens a (entry_at a.entries p) (node (entry_at a.entries p).node a)
