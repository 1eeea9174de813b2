use native.Mathlib.Omega.{arith}
use Rattle.tables.proofs.ReadyTables.{table-end, nodes-of, node-key}
use Rattle.tables.proofs.reading.Tables.node_number.Goals as goal

pub overflow_add-base : goal.overflow_add-base
overflow_add-base c =
    omega (arith, table-end (nodes-of c.self.invariant c.self.view_is))

pub get-requires : goal.get-requires
get-requires c =
    omega (arith, table-end (nodes-of c.self.invariant c.self.view_is))

pub returns : goal.returns
returns c =
    rw (← c.self.view_is) (node-key c.self.inside.bytes.now c.self.inside.layout c.self.invariant c.args.place (rw c.self.view_is c.requires) c.get.ensures.value)
