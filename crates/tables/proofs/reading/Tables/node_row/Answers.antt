use native.Mathlib.Omega.{arith}
use Rattle.tables.proofs.ReadyTables.{table-end, nodes-of, row-there}
use Rattle.tables.proofs.reading.Tables.node_row.Goals as goal

pub overflow_add-base : goal.overflow_add-base
overflow_add-base c =
    omega (arith, table-end (nodes-of c.self.invariant c.self.view_is))

pub read_node-requires : goal.read_node-requires
read_node-requires c =
    omega (arith, table-end (nodes-of c.self.invariant c.self.view_is))

pub returns : goal.returns
returns c =
    row-there (nodes-of c.self.invariant c.self.view_is) c.args.place c.requires c.read_node.ensures
