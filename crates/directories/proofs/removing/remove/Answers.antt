use Rattle.types.proofs.Results.{or-refused, exit-is}
use Rattle.directories.proofs.RemoveSteps.{remove-missing, row-asked, remove-busy, chunks-asked, out-asked, remove-done}
use Rattle.directories.proofs.removing.remove.Goals as goal

pub returns-in_err-place : goal.returns-in_err-place
returns-in_err-place c =
    let n = or-refused _ _ c.in_err-place.ensures.value in
    rw (exit-is _ c.from_residual.ensures.1, n.1) (remove-missing c.args.node c.args.volume.now c.args.layout c.requires.0 c.requires.1 n.0 c.find_node.ensures)

pub node_row-row-requires : goal.node_row-row-requires
node_row-row-requires c =
    row-asked c.args.node c.args.volume.now c.args.layout c.requires.0 c.requires.1 c.in_ok-place.ensures.ok_part c.find_node.ensures

pub returns-then-row-gt0 : goal.returns-then-row-gt0
returns-then-row-gt0 c =
    remove-busy c.args.node c.args.volume.now c.args.layout c.requires.0 c.requires.1 c.in_ok-place.ensures.ok_part c.find_node.ensures c.node_row-row.ensures c.if-row-gt0.true

pub cut_rows-requires : goal.cut_rows-requires
cut_rows-requires c =
    chunks-asked c.args.node c.args.volume.now c.args.layout c.requires.0 c.requires.1 c.first_chunk-first.ensures.1

pub remove_node-requires : goal.remove_node-requires
remove_node-requires c =
    out-asked c.args.node c.args.volume.now c.args.layout c.requires.0 c.requires.1 c.in_ok-place.ensures.ok_part c.find_node.ensures c.node_row-row.ensures c.if-row-gt0.false c.first_chunk-first.ensures.0 c.cut_rows.ensures

pub returns : goal.returns
returns c =
    remove-done c.args.node c.args.volume.now c.args.layout c.requires.0 c.requires.1 c.in_ok-place.ensures.ok_part c.find_node.ensures c.node_row-row.ensures c.if-row-gt0.false c.first_chunk-first.ensures.0 c.cut_rows.ensures c.remove_node.ensures
