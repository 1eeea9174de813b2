use Rattle.types.proofs.Results.{or-refused, exit-is}
use Rattle.directories.proofs.UnlinkSteps.{row-missing, row-asked, entry-stays, take-asked, entry-goes}
use Rattle.directories.proofs.unlinking.unlink_at.Goals as goal

pub returns-in_err-found : goal.returns-in_err-found
returns-in_err-found c =
    let n = or-refused _ _ c.in_err-found.ensures.value in
    rw (exit-is _ c.from_residual.ensures.1, n.1) (row-missing c.args.volume.now c.args.layout c.requires.0 c.requires.1 c.args.place c.requires.2 c.args.expected c.args.opens c.entry_node-node.ensures n.0 c.find_node.ensures)

pub node_row-row-requires : goal.node_row-row-requires
node_row-row-requires c =
    row-asked c.args.volume.now c.args.layout c.requires.0 c.requires.1 c.args.place c.requires.2 c.args.expected c.args.opens c.entry_node-node.ensures c.in_ok-found.ensures.ok_part c.find_node.ensures

pub returns-in_err-judge : goal.returns-in_err-judge
returns-in_err-judge c =
    rw (exit-is _ c.from_residual-in_err-judge.ensures.1) (entry-stays c.args.volume.now c.args.layout c.requires.0 c.requires.1 c.args.place c.requires.2 c.args.expected c.args.opens c.entry_node-node.ensures c.in_ok-found.ensures.ok_part c.find_node.ensures c.node_row-row.ensures c.in_err-judge.ensures)

pub take_entry-requires : goal.take_entry-requires
take_entry-requires c =
    take-asked c.args.volume.now c.args.layout c.requires.0 c.requires.1 c.args.place c.requires.2 c.args.expected c.args.opens c.entry_node-node.ensures c.in_ok-found.ensures.ok_part c.find_node.ensures c.node_row-row.ensures c.in_ok-judge.ensures

pub returns : goal.returns
returns c =
    entry-goes c.args.volume.now c.args.layout c.requires.0 c.requires.1 c.args.place c.requires.2 c.args.expected c.args.opens c.entry_node-node.ensures c.in_ok-found.ensures.ok_part c.find_node.ensures c.node_row-row.ensures c.in_ok-judge.ensures c.take_entry.ensures
