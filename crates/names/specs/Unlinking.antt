-- Believed: unlink. Find's checks, with 8 also for a path with no parts; then 3, 11, 4, and 12 if the open count is above 0 and links are 1.
-- The entry goes, the parent's size and the links fall by 1, the node and its bytes stay.
-- Assumes nothing.
use Rattle.std.specs.Prelude.{ℕ, ◌-◌, Bool, true, false, not, List, eqb, ltb, length}
use Rattle.std.proofs.Math.Option.{Option, none, some}
use Rattle.words.specs.Rules.{pick, both}
use Rattle.words.specs.Tables.{only}
use Rattle.types.specs.Nodes.{is_directory}
use Rattle.types.specs.declared.Expected.{Expected}
use Rattle.types.specs.declared.Expected.TheVariants as expected
use Rattle.types.specs.declared.Error.TheVariants.{NoSuchEntry, IsDirectory, NotDirectory, PathNotPermitted, DirectoryNotEmpty, Busy}
use Rattle.types.specs.declared.NodeRecord.{NodeRecord}
use Rattle.paths.specs.Path.{cut_path}
use Rattle.volume.specs.Rows.{Entry}
use Rattle.volume.specs.Volume.{Names, with_entries}
use Rattle.volume.specs.Sound.{node}
use Rattle.volume.specs.Steps.{NamesStep, remain, turn, with_node}
use Rattle.names.specs.Walks.{on_cutting, Walk, reached, stopped, walk_path}
use Rattle.tables.specs.OneRow.{sized, linked}

abbrev pub wants_file : Expected → Bool
wants_file expected.Any = false
wants_file expected.Directory = false
wants_file expected.File = true

abbrev pub wants_directory : Expected → Bool
wants_directory expected.Any = false
wants_directory expected.Directory = true
wants_directory expected.File = false

-- ---- an entry less

abbrev pub is_entry : ℕ → ℕ → Entry → Bool
is_entry p i e = both (eqb e.parent p) (eqb e.index i)

unfoldable pub without : Entry → List Entry → List Entry
without e es = only (λ f. not (is_entry e.parent e.index f)) es

unfoldable pub unlinked : Entry → Names → Names
unlinked e a =
    with_entries (without e a.entries)
    (with_node e.parent (λ r. sized (r.size - 1) r) (with_node e.node (λ r. linked (r.links - 1) r) a))

-- ---- the call

unfoldable pub unlink_node : Expected → ℕ → Names → Entry → Option NodeRecord → NamesStep
unlink_node want opens a e none = remain NoSuchEntry a
unlink_node want opens a e (some r) =
    pick (both (is_directory r.kind) (wants_file want)) (remain IsDirectory a)
    (pick (both (is_directory r.kind) (ltb 0 r.size)) (remain DirectoryNotEmpty a)
    (pick (both (not (is_directory r.kind)) (wants_directory want)) (remain NotDirectory a)
    (pick (both (ltb 0 opens) (eqb r.links 1)) (remain Busy a) (turn e.node (unlinked e a)))))

unfoldable pub unlink_reached : Expected → ℕ → Names → Walk → NamesStep
unlink_reached want opens a (reached n (some e)) = unlink_node want opens a e (node e.node a)
unlink_reached want opens a (reached n none) = remain PathNotPermitted a
unlink_reached want opens a (stopped e) = remain e a

unfoldable pub unlink : ℕ → List ℕ → Expected → ℕ → Names → NamesStep
unlink start path want opens a =
    on_cutting (λ e. remain e a)
    (λ ps. pick (eqb (length ps) 0) (remain PathNotPermitted a) (unlink_reached want opens a (walk_path start path a ps)))
    (cut_path path)
