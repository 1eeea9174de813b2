-- A call on a file: it is refused, or goes on with the row of a file.
-- Assumes nothing.
use mathlib.Core.Path.{◌≡◌, refl}
use mathlib.Core.Bool.{Bool, true, false}
use mathlib.Core.Option.{Option, none, some}
use Prim.Native.Nat.{ℕ}
use Rattle.words.specs.Rules.{pick}
use Rattle.types.specs.Nodes.{is_directory}
use Rattle.types.specs.declared.Error.{Error}
use Rattle.types.specs.declared.Error.TheVariants.{NoSuchEntry, IsDirectory}
use Rattle.types.specs.declared.FileType.TheVariants.{Directory}
use Rattle.types.specs.declared.NodeRecord.{NodeRecord}
use Rattle.types.proofs.Nodes.{no-directory}
use Rattle.volume.specs.Volume.{Names}
use Rattle.volume.specs.Sound.{node}
use Rattle.volume.specs.Files.{on_row, on_file}
use Rattle.tables.proofs.NodeRows.{node-is}

-- a call on a file is refused, or goes on with the row of a file
pub data OnFile (X : Type 0) (n : ℕ) (a : Names) (refuse : Error → X) (call : NodeRecord → X) : X → Type 0 where
  stops : (e : Error) → OnFile X n a refuse call (refuse e)
  goes_on : (r : NodeRecord) → node n a ≡ some r → r.node ≡ n → (r.kind ≡ Directory → ⊥) → OnFile X n a refuse call (call r)

pub on-file : {X : Type 0} (n : ℕ) (a : Names) (refuse : Error → X) (call : NodeRecord → X) → OnFile X n a refuse call (on_file n a refuse call)
unfolding on_file on_row pick
on-file {X} n a refuse call = go (node n a) refl
  where
    row : (r : NodeRecord) → node n a ≡ some r → (b : Bool) → is_directory r.kind ≡ b → OnFile X n a refuse call (pick b (refuse IsDirectory) (call r))
    row r e true k = stops IsDirectory
    row r e false k = goes_on r e (node-is n a r e) (no-directory r.kind k)

    go : (o : Option NodeRecord) → node n a ≡ o → OnFile X n a refuse call (on_row refuse call o)
    go none e = stops NoSuchEntry
    go (some r) e = row r e (is_directory r.kind) refl
