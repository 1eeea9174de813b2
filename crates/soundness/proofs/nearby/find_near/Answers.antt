use Rattle.soundness.proofs.Counters.{near-found}
use Rattle.soundness.proofs.nearby.find_near.Goals as goal

pub returns-then-is_node : goal.returns-then-is_node
returns-then-is_node c =
    near-found c.args.node c.args.tables.now.names.nodes c.requires.0 _ c.is_node.ensures c.if-is_node.true

pub returns-then-is_node-2 : goal.returns-then-is_node-2
returns-then-is_node-2 c =
    near-found c.args.node c.args.tables.now.names.nodes c.requires.0 _ c.is_node-2.ensures c.if-is_node-2.true
