use Rattle.types.proofs.Results.{exit-is}
use Rattle.directories.proofs.FoundNode.{find-node-at, find-stopped}
use Rattle.directories.proofs.finding.find_node.Goals as goal

pub returns-in_err-reach_path : goal.returns-in_err-reach_path
returns-in_err-reach_path c =
    rw (exit-is _ c.from_residual.ensures.1) (find-stopped c.args.start c.args.path.now c.args.tables.now.names c.requires c.in_err-reach_path.ensures)

pub returns : goal.returns
returns c =
    find-node-at c.args.start c.args.path.now c.args.tables.now.names c.requires c.in_ok-reach_path.ensures
