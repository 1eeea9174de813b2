-- Believed: a file system as a person sees it: for each node number nothing, or a kind, a limit, links, a size, a byte at every offset, and
-- a directory's names; and the next node number. No chunk, pointer, table, room or row.
-- Assumes nothing.
use Rattle.std.specs.Prelude.{ℕ, List}
use Rattle.std.proofs.Math.Option.{Option}
use Rattle.types.specs.declared.FileType.{FileType}
use Rattle.types.specs.Nodes.{Limit}

-- a name in a directory: its index, and the node it names
pub record NameSeen : Type 0 where
  pub index : ℕ
  pub node : ℕ
  pub name : List ℕ

-- size: a file's bytes, or how many names a directory has. A byte that was never written is zero
pub record NodeSeen : Type 0 where
  pub kind : FileType
  pub limit : Limit
  pub links : ℕ
  pub size : ℕ
  pub bytes : ℕ → ℕ
  pub names : List NameSeen

pub record Fs : Type 0 where
  pub next : ℕ
  pub at : ℕ → Option NodeSeen
