use native.Mathlib.Omega.{arith}
use Rattle.tables.proofs.ReadyVolume.{rooms}
use Rattle.tables.proofs.ReadyTables.{table-end, chunk-table, none-removed, rows-removed}
use Rattle.tables.proofs.chunks.remove_chunks.Goals as goal

pub returns-then-count-eq0 : goal.returns-then-count-eq0
returns-then-count-eq0 c =
    none-removed (chunk-table c.args.volume.now c.args.layout c.requires.0) c.args.place c.args.count c.if-count-eq0.true

pub overflow_add-base : goal.overflow_add-base
overflow_add-base c =
    omega (arith, table-end (chunk-table c.args.volume.now c.args.layout c.requires.0))

pub overflow_add-base-2 : goal.overflow_add-base-2
overflow_add-base-2 c =
    omega (arith, table-end (chunk-table c.args.volume.now c.args.layout c.requires.0))

pub take_out-requires : goal.take_out-requires
take_out-requires c =
    let e = table-end (chunk-table c.args.volume.now c.args.layout c.requires.0) in
    (omega arith, omega arith, omega arith, omega (arith, rooms c.args.volume.now c.args.layout c.requires.0))

pub returns : goal.returns
returns c =
    rows-removed (chunk-table c.args.volume.now c.args.layout c.requires.0) c.args.place c.args.count _ c.chunks_used-used.ensures.0 c.requires.1 c.take_out.ensures
