use native.Mathlib.Omega.{arith}
use Rattle.tables.proofs.ReadyVolume.{rooms}
use Rattle.tables.proofs.ReadyTables.{table-end, entry-table, row-inserted}
use Rattle.tables.proofs.entries.insert_entry.Goals as goal

pub overflow_add-at : goal.overflow_add-at
overflow_add-at c =
    omega (arith, table-end (entry-table c.args.volume.now c.args.layout c.requires.0))

pub overflow_add-end : goal.overflow_add-end
overflow_add-end c =
    omega (arith, table-end (entry-table c.args.volume.now c.args.layout c.requires.0))

pub shift_up-requires : goal.shift_up-requires
shift_up-requires c =
    (omega (arith, table-end (entry-table c.args.volume.now c.args.layout c.requires.0)), omega (arith, table-end (entry-table c.args.volume.now c.args.layout c.requires.0)))

pub write_entry-requires : goal.write_entry-requires
write_entry-requires c =
    (omega (arith, table-end (entry-table c.args.volume.now c.args.layout c.requires.0)), omega (arith, c.requires.3))

pub put-requires : goal.put-requires
put-requires c =
    omega (arith, rooms c.args.volume.now c.args.layout c.requires.0)

pub returns : goal.returns
returns c =
    row-inserted (entry-table c.args.volume.now c.args.layout c.requires.0) c.args.place _ _ c.entries_used-used.ensures.0 c.requires.1 c.requires.2 c.shift_up.ensures c.write_entry.ensures c.put.ensures
