use native.Mathlib.Omega.{arith}
use Rattle.tables.proofs.ReadyTables.{table-end, chunk-table, row-changed}
use Rattle.tables.proofs.chunks.change_chunk.Goals as goal

pub overflow_add-base : goal.overflow_add-base
overflow_add-base c =
    omega (arith, table-end (chunk-table c.args.volume.now c.args.layout c.requires.0))

pub write_chunk-requires : goal.write_chunk-requires
write_chunk-requires c =
    omega (arith, table-end (chunk-table c.args.volume.now c.args.layout c.requires.0))

pub returns : goal.returns
returns c =
    row-changed (chunk-table c.args.volume.now c.args.layout c.requires.0) c.args.place c.args.row c.requires.1 c.write_chunk.ensures
