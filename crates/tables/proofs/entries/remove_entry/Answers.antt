use native.Mathlib.Omega.{arith}
use Rattle.tables.proofs.ReadyVolume.{rooms}
use Rattle.tables.proofs.ReadyTables.{table-end, entry-table, row-removed}
use Rattle.tables.proofs.entries.remove_entry.Goals as goal

pub overflow_add-base : goal.overflow_add-base
overflow_add-base c =
    omega (arith, table-end (entry-table c.args.volume.now c.args.layout c.requires.0))

pub overflow_add-base-2 : goal.overflow_add-base-2
overflow_add-base-2 c =
    omega (arith, table-end (entry-table c.args.volume.now c.args.layout c.requires.0))

pub take_out-requires : goal.take_out-requires
take_out-requires c =
    let e = table-end (entry-table c.args.volume.now c.args.layout c.requires.0) in
    (omega arith, omega arith, omega arith, omega (arith, rooms c.args.volume.now c.args.layout c.requires.0))

pub returns : goal.returns
returns c =
    row-removed (entry-table c.args.volume.now c.args.layout c.requires.0) c.args.place _ c.entries_used-used.ensures.0 c.requires.1 c.take_out.ensures
