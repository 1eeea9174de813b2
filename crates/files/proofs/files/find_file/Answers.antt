use Rattle.types.proofs.Results.{or-refused, exit-is}
use Rattle.files.proofs.FileRows.{no_row, directory-row, file-row, row-there}
use Rattle.files.proofs.files.find_file.Goals as goal

pub returns-in_err-place : goal.returns-in_err-place
returns-in_err-place c =
    let n = or-refused _ _ c.in_err-place.ensures.value in
    rw (exit-is _ c.from_residual.ensures.1, n.1) (no_row c.args.node c.args.tables.now.names.nodes n.0 c.find_node.ensures)

pub node_row-row-requires : goal.node_row-row-requires
node_row-row-requires c =
    row-there c.args.node c.args.tables.now.names.nodes c.in_ok-place.ensures.ok_part c.find_node.ensures

pub returns-then-is_directory : goal.returns-then-is_directory
returns-then-is_directory c =
    directory-row c.args.node c.args.tables.now.names.nodes c.in_ok-place.ensures.ok_part c.find_node.ensures c.node_row-row.ensures c.is_directory.ensures c.if-is_directory.true

pub returns : goal.returns
returns c =
    file-row c.args.node c.args.tables.now.names.nodes c.in_ok-place.ensures.ok_part c.find_node.ensures c.node_row-row.ensures c.is_directory.ensures c.if-is_directory.false
