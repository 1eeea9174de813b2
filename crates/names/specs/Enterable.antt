-- Inner: what create and link have of a parent and a new name once they are past their checks.
-- Assumes nothing.
use Rattle.std.specs.Prelude.{◌≡◌, true, List, ℕ, ◌≤◌, ◌<◌, length}
use Rattle.std.proofs.Math.Option.{none, some}
use Rattle.types.specs.declared.FileType.TheVariants.{Directory}
use Rattle.types.specs.declared.NodeRecord.{NodeRecord}
use Rattle.paths.specs.Path.{name_allowed}
use Rattle.volume.specs.Volume.{Names}
use Rattle.volume.specs.Sound.{node}
use Rattle.names.specs.Entries.{entry_named, greatest}
use Rattle.names.specs.Entering.{most_index}

-- r is the row of a directory that is linked
pub record LinkedParent (p : ℕ) (a : Names) (r : NodeRecord) : Type 0 where
  pub row : node p a ≡ some r
  pub kind : r.kind ≡ Directory
  pub links : 1 ≤ r.links

-- a name is allowed there and new, and there is room for its entry
pub record Enterable (p : ℕ) (name : List ℕ) (a : Names) : Type 0 where
  pub allowed : name_allowed name ≡ true
  pub new : entry_named p name a.entries ≡ none
  pub room : length a.entries < a.entry_room
  pub index : greatest p a.entries ≡ most_index → ⊥
