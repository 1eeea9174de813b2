-- Believed: resize: 2, 3, 5. Growing changes size only. Shrinking frees, in ascending index order, all chunks from new size / S rounded up; then, if
-- the new size is no multiple of S, it zeroes the last chunk from there. A last chunk that is a hole stays a hole, so that a cut needs no room.
-- Assumes nothing.
use Rattle.std.specs.Prelude.{ℕ, ltb}
use Rattle.words.specs.Rules.{pick}
use Rattle.types.specs.Nodes.{file_limit}
use Rattle.types.specs.declared.Error.TheVariants.{FileTooLarge}
use Rattle.types.specs.declared.NodeRecord.{NodeRecord}
use Rattle.volume.specs.Volume.{Volume, on_names}
use Rattle.volume.specs.Steps.{Step, stays, becomes, with_node}
use Rattle.volume.specs.Files.{on_file}
use Rattle.tables.specs.OneRow.{sized}
use Rattle.store.specs.Cut.{shrunk}

unfoldable pub resize_file : ℕ → Volume → NodeRecord → Step
resize_file z v r =
    pick (ltb (file_limit r.limit) z) (stays FileTooLarge v)
    (pick (ltb z r.size) (becomes 0 (record { names = with_node r.node (sized z) v.names; store = shrunk r.node z v.store }))
    (becomes 0 (on_names (with_node r.node (sized z)) v)))

unfoldable pub resize : ℕ → ℕ → Volume → Step
resize n z v = on_file n v.names (λ e. stays e v) (resize_file z v)
