-- Believed: the public calls, one case each, with their arguments.
-- Assumes nothing.
use Rattle.std.specs.Prelude.{ℕ, List}
use Rattle.words.specs.Bytes.{Bytes}
use Rattle.types.specs.declared.Expected.{Expected}
use Rattle.types.specs.Nodes.{Limit}

-- bytes that a call may put into the volume
pub record Lent : Type 0 where
  pub list : List ℕ
  pub bytes : Bytes list

pub data Call : Type 0 where
  -- rooms for nodes, entries and chunks, and the chunk size
  new_volume : ℕ → ℕ → ℕ → ℕ → Call
  check : Call
  -- an output
  report : List ℕ → Call
  set_chunk_size : ℕ → Call
  -- a node, an offset, a buffer
  read : ℕ → ℕ → List ℕ → Call
  write : ℕ → ℕ → Lent → Call
  -- a node, a size
  resize : ℕ → ℕ → Call
  set_limit : ℕ → Limit → Call
  -- a start, a path
  find_node : ℕ → List ℕ → Call
  -- a directory, an index
  next_entry : ℕ → ℕ → Call
  -- a directory, a name, an index, a limit
  search : ℕ → List ℕ → ℕ → ℕ → Call
  -- a parent, a name, a type
  create : ℕ → Lent → ℕ → Call
  -- a parent, a name, a target
  link : ℕ → Lent → ℕ → Call
  -- a start, a path, what is expected, how many have the node open
  unlink : ℕ → List ℕ → Expected → ℕ → Call
  remove : ℕ → Call
