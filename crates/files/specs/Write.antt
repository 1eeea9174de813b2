-- Believed: write: 2, 3; an empty write gives 0 at any offset; 5 if offset plus length, as exact numbers, exceeds the file limit; 6 if the touched
-- indexes without a row outnumber the room. New chunks are taken in index order and zeroed around the data. Size becomes the greater of
-- size and end.
-- Assumes nothing.
use Rattle.std.specs.Prelude.{ℕ, ◌+◌, max, List, eqb, ltb, length}
use Rattle.words.specs.Rules.{pick}
use Rattle.types.specs.Nodes.{file_limit}
use Rattle.types.specs.declared.Error.TheVariants.{FileTooLarge, NoChunkRoom}
use Rattle.types.specs.declared.NodeRecord.{NodeRecord}
use Rattle.volume.specs.Volume.{Volume}
use Rattle.volume.specs.Steps.{Step, stays, becomes, with_node}
use Rattle.volume.specs.Files.{on_file}
use Rattle.tables.specs.OneRow.{sized}
use Rattle.store.specs.Room.{room, holes}
use Rattle.store.specs.Written.{written}

unfoldable pub write_file : ℕ → List ℕ → Volume → NodeRecord → Step
write_file offset bs v r =
    pick (eqb (length bs) 0) (becomes 0 v)
    (pick (ltb (file_limit r.limit) (offset + length bs)) (stays FileTooLarge v)
    (pick (ltb (room v.store) (holes r.node offset (length bs) v.store)) (stays NoChunkRoom v)
    (becomes (length bs) (record { names = with_node r.node (sized (max r.size (offset + length bs))) v.names; store = written r.node offset bs v.store }))))

unfoldable pub write : ℕ → ℕ → List ℕ → Volume → Step
write n offset bs v = on_file n v.names (λ e. stays e v) (write_file offset bs v)
