use mathlib.Core.Path.{refl}
use Rattle.words.proofs.Rules.{told}
use Rattle.types.proofs.Results.{or-refused, exit-is}
use Rattle.directories.proofs.ReachedDirectory.{directory-missing, row_inside, directory-passes, directory-fails}
use Rattle.directories.proofs.finding.as_directory.Goals as goal

pub returns-in_err-place : goal.returns-in_err-place
returns-in_err-place c =
    let n = or-refused _ _ c.in_err-place.ensures.value in
    rw (exit-is _ c.from_residual.ensures.1, n.1) (directory-missing c.args.tables.now.names c.requires c.args.reached n.0 c.find_node.ensures)

pub node_row-row-requires : goal.node_row-row-requires
node_row-row-requires c =
    row_inside c.args.tables.now.names c.requires c.args.reached c.in_ok-place.ensures.ok_part c.find_node.ensures

pub returns-then-not-passes_as_directory : goal.returns-then-not-passes_as_directory
returns-then-not-passes_as_directory c =
    directory-fails c.args.tables.now.names c.requires c.args.reached c.in_ok-place.ensures.ok_part c.find_node.ensures c.node_row-row.ensures c.passes_as_directory.ensures (told refl c.if-not-passes_as_directory.true)

pub returns : goal.returns
returns c =
    directory-passes c.args.tables.now.names c.requires c.args.reached c.in_ok-place.ensures.ok_part c.find_node.ensures c.node_row-row.ensures c.passes_as_directory.ensures (told refl c.if-not-passes_as_directory.false)
