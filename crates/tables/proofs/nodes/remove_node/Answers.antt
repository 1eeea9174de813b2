use native.Mathlib.Omega.{arith}
use Rattle.tables.proofs.ReadyVolume.{rooms}
use Rattle.tables.proofs.ReadyTables.{table-end, node-table, row-removed}
use Rattle.tables.proofs.nodes.remove_node.Goals as goal

pub overflow_add-base : goal.overflow_add-base
overflow_add-base c =
    omega (arith, table-end (node-table c.args.volume.now c.args.layout c.requires.0))

pub overflow_add-base-2 : goal.overflow_add-base-2
overflow_add-base-2 c =
    omega (arith, table-end (node-table c.args.volume.now c.args.layout c.requires.0))

pub take_out-requires : goal.take_out-requires
take_out-requires c =
    let e = table-end (node-table c.args.volume.now c.args.layout c.requires.0) in
    (omega arith, omega arith, omega arith, omega (arith, rooms c.args.volume.now c.args.layout c.requires.0))

pub returns : goal.returns
returns c =
    row-removed (node-table c.args.volume.now c.args.layout c.requires.0) c.args.place _ c.nodes_used-used.ensures.0 c.requires.1 c.take_out.ensures
