-- Believed: a call on a file: 2 if the node has no row, 3 if its row is a directory's; else what the call makes of the row.
-- Assumes nothing.
use Rattle.std.specs.Prelude.{ℕ}
use Rattle.std.proofs.Math.Option.{Option, none, some}
use Rattle.words.specs.Rules.{pick}
use Rattle.types.specs.Nodes.{is_directory}
use Rattle.types.specs.declared.Error.{Error}
use Rattle.types.specs.declared.Error.TheVariants.{NoSuchEntry, IsDirectory}
use Rattle.types.specs.declared.NodeRecord.{NodeRecord}
use Rattle.volume.specs.Volume.{Names}
use Rattle.volume.specs.Sound.{node}

unfoldable pub on_row : {A : Type 0} → (Error → A) → (NodeRecord → A) → Option NodeRecord → A
on_row refuse call none = refuse NoSuchEntry
on_row refuse call (some r) = pick (is_directory r.kind) (refuse IsDirectory) (call r)

unfoldable pub on_file : {A : Type 0} → ℕ → Names → (Error → A) → (NodeRecord → A) → A
on_file n a refuse call = on_row refuse call (node n a)
