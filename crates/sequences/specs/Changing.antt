-- Believed: the scope's "Nodes changed". Write, resize, limit, remove: that node. Create: parent and new node. Link, unlink: parent and target.
-- New: every node. Others: none.
-- Assumes nothing.
use Rattle.std.specs.Prelude.{◌≡◌, ◌⊎◌, ℕ}
use Rattle.std.proofs.Math.Option.{Option, none, some}
use Rattle.sequences.specs.Fs.{Fs}
use Rattle.sequences.specs.Calls.{Call, new_volume, check, report, set_chunk_size, read, write, resize, set_limit, find_node, next_entry, search, create, link, unlink, remove}
use Rattle.sequences.specs.Act.{NameIn, path_name}

-- the directory that a name stands in, and the node it names
abbrev pub ParentOrTarget : ℕ → Option NameIn → Type 0
ParentOrTarget m none = ⊥
ParentOrTarget m (some x) = (m ≡ x.directory) ⊎ (m ≡ x.seen.node)

abbrev pub MayChange : Call → Fs → ℕ → Type 0
MayChange (new_volume n e c s) fs m = Unit {0}
MayChange check fs m = ⊥
MayChange (report out) fs m = ⊥
MayChange (set_chunk_size s) fs m = ⊥
MayChange (read n offset buffer) fs m = ⊥
MayChange (write n offset bs) fs m = m ≡ n
MayChange (resize n z) fs m = m ≡ n
MayChange (set_limit n most) fs m = m ≡ n
MayChange (find_node start path) fs m = ⊥
MayChange (next_entry d from) fs m = ⊥
MayChange (search d name from most) fs m = ⊥
MayChange (create p name byte) fs m = (m ≡ p) ⊎ (m ≡ fs.next)
MayChange (link p name t) fs m = (m ≡ p) ⊎ (m ≡ t)
MayChange (unlink start path want opens) fs m = ParentOrTarget m (path_name fs start path)
MayChange (remove n) fs m = m ≡ n
