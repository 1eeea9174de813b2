use native.Mathlib.Omega.{arith}
use Rattle.tables.proofs.ReadyTables.{table-end, node-table, row-changed}
use Rattle.tables.proofs.nodes.change_node.Goals as goal

pub overflow_add-base : goal.overflow_add-base
overflow_add-base c =
    omega (arith, table-end (node-table c.args.volume.now c.args.layout c.requires.0))

pub write_node-requires : goal.write_node-requires
write_node-requires c =
    omega (arith, table-end (node-table c.args.volume.now c.args.layout c.requires.0))

pub returns : goal.returns
returns c =
    row-changed (node-table c.args.volume.now c.args.layout c.requires.0) c.args.place c.args.row c.requires.1 c.write_node.ensures
