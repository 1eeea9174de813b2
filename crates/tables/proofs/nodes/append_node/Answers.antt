use native.Mathlib.Omega.{arith}
use Rattle.tables.proofs.ReadyVolume.{rooms}
use Rattle.tables.proofs.ReadyTables.{table-end, node-table, row_appended}
use Rattle.tables.proofs.nodes.append_node.Goals as goal

pub overflow_add-base : goal.overflow_add-base
overflow_add-base c =
    omega (arith, table-end (node-table c.args.volume.now c.args.layout c.requires.0))

pub write_node-requires : goal.write_node-requires
write_node-requires c =
    omega (arith, table-end (node-table c.args.volume.now c.args.layout c.requires.0))

pub put-requires : goal.put-requires
put-requires c =
    omega (arith, rooms c.args.volume.now c.args.layout c.requires.0)

pub returns : goal.returns
returns c =
    row_appended (node-table c.args.volume.now c.args.layout c.requires.0) _ c.args.row c.nodes_used-used.ensures.0 c.requires.1 c.write_node.ensures c.put.ensures
