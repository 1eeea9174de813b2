use native.Mathlib.Omega.{arith}
use Rattle.tables.proofs.ReadyTables.{table-end, nodes-of, rows-fall, row-lead}
use Rattle.tables.proofs.TableSearch.{node-falls, node-past, node-other, node-here}
use Rattle.tables.proofs.reading.Tables.find_node.Goals as goal

pub seek_node-place-requires : goal.seek_node-place-requires
seek_node-place-requires c =
    let t = nodes-of c.self.invariant c.self.view_is in
    (omega (arith, table-end t, c.nodes_used-used.ensures.0), rows-fall t c.nodes_used-used.ensures.0 (node-falls c.args.node) c.requires)

pub returns-then-used-place : goal.returns-then-used-place
returns-then-used-place c =
    node-past c.args.node _ (row-lead (nodes-of c.self.invariant c.self.view_is) _ c.nodes_used-used.ensures.0 c.seek_node-place.ensures.0) (omega (arith, c.nodes_used-used.ensures.0))

pub node_number-requires : goal.node_number-requires
node_number-requires c =
    omega (arith, c.nodes_used-used.ensures.0)

pub returns-then-node_number-node : goal.returns-then-node_number-node
returns-then-node_number-node c =
    node-other c.args.node _ (row-lead (nodes-of c.self.invariant c.self.view_is) _ c.nodes_used-used.ensures.0 c.seek_node-place.ensures.0) (omega (arith, c.nodes_used-used.ensures.0)) c.node_number.ensures c.if-node_number-node.true

pub returns : goal.returns
returns c =
    node-here c.args.node _ (row-lead (nodes-of c.self.invariant c.self.view_is) _ c.nodes_used-used.ensures.0 c.seek_node-place.ensures.0) (omega (arith, c.nodes_used-used.ensures.0)) c.node_number.ensures c.if-node_number-node.false
