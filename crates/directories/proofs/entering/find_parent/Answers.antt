use mathlib.Core.Path.{refl}
use Rattle.words.proofs.Rules.{told}
use Rattle.types.proofs.Results.{or-refused, exit-is}
use Rattle.directories.proofs.ParentRows.{parent-missing, parent-there, parent-unlinked, parent-file, parent-misnamed, parent-at}
use Rattle.directories.proofs.entering.find_parent.Goals as goal

pub returns-in_err-place : goal.returns-in_err-place
returns-in_err-place c =
    let n = or-refused _ _ c.in_err-place.ensures.value in
    rw (exit-is _ c.from_residual.ensures.1, n.1) (parent-missing c.args.parent c.args.name.now c.args.tables.now.names.nodes n.0 c.find_node.ensures)

pub node_row-row-requires : goal.node_row-row-requires
node_row-row-requires c =
    parent-there c.args.parent c.args.name.now c.args.tables.now.names.nodes c.in_ok-place.ensures.ok_part c.find_node.ensures

pub returns-then-row-eq0 : goal.returns-then-row-eq0
returns-then-row-eq0 c =
    parent-unlinked c.args.parent c.args.name.now c.args.tables.now.names.nodes c.in_ok-place.ensures.ok_part c.find_node.ensures c.node_row-row.ensures c.if-row-eq0.true

pub returns-then-not-is_directory : goal.returns-then-not-is_directory
returns-then-not-is_directory c =
    parent-file c.args.parent c.args.name.now c.args.tables.now.names.nodes c.in_ok-place.ensures.ok_part c.find_node.ensures c.node_row-row.ensures c.if-row-eq0.false c.is_directory.ensures (told refl c.if-not-is_directory.true)

pub returns-then-not-name_allowed : goal.returns-then-not-name_allowed
returns-then-not-name_allowed c =
    parent-misnamed c.args.parent c.args.name.now c.args.tables.now.names.nodes c.in_ok-place.ensures.ok_part c.find_node.ensures c.node_row-row.ensures c.if-row-eq0.false c.is_directory.ensures (told refl c.if-not-is_directory.false) c.name_allowed.ensures (told refl c.if-not-name_allowed.true)

pub returns : goal.returns
returns c =
    parent-at c.args.parent c.args.name.now c.args.tables.now.names.nodes c.in_ok-place.ensures.ok_part c.find_node.ensures c.node_row-row.ensures c.if-row-eq0.false c.is_directory.ensures (told refl c.if-not-is_directory.false) c.name_allowed.ensures (told refl c.if-not-name_allowed.false)
