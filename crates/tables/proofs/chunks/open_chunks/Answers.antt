use native.Mathlib.Omega.{arith}
use Rattle.tables.proofs.ReadyVolume.{rooms}
use Rattle.tables.proofs.ReadyTables.{table-end, chunk-table, none-opened, rows-opened, chunk-blank}
use Rattle.tables.proofs.chunks.open_chunks.Goals as goal

pub returns-then-count-eq0 : goal.returns-then-count-eq0
returns-then-count-eq0 c =
    none-opened (chunk-table c.args.volume.now c.args.layout c.requires.0) c.args.place c.args.count _ c.if-count-eq0.true

pub overflow_add-at : goal.overflow_add-at
overflow_add-at c =
    omega (arith, table-end (chunk-table c.args.volume.now c.args.layout c.requires.0))

pub overflow_add-base : goal.overflow_add-base
overflow_add-base c =
    omega (arith, table-end (chunk-table c.args.volume.now c.args.layout c.requires.0))

pub shift_up-requires : goal.shift_up-requires
shift_up-requires c =
    (omega (arith, table-end (chunk-table c.args.volume.now c.args.layout c.requires.0)), omega (arith, table-end (chunk-table c.args.volume.now c.args.layout c.requires.0)))

pub clear-requires : goal.clear-requires
clear-requires c =
    omega (arith, table-end (chunk-table c.args.volume.now c.args.layout c.requires.0))

pub put-requires : goal.put-requires
put-requires c =
    omega (arith, rooms c.args.volume.now c.args.layout c.requires.0)

pub returns : goal.returns
returns c =
    rows-opened (chunk-table c.args.volume.now c.args.layout c.requires.0) c.args.place c.args.count _ _ chunk-blank c.chunks_used-used.ensures.0 c.requires.1 c.requires.2 c.shift_up.ensures c.clear.ensures c.put.ensures
