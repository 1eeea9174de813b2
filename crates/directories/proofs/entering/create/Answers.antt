use mathlib.Core.Path.{sym}
use native.Mathlib.Omega.{arith}
use Rattle.types.proofs.Results.{or-given, or-refused, exit-is}
use Rattle.directories.proofs.CreateSteps.{create-homeless, create-kindless, create-crowded, create-enters, create-counts, create-appends, create-moves, create-done}
use Rattle.directories.proofs.entering.create.Goals as goal

pub returns-in_err-directory : goal.returns-in_err-directory
returns-in_err-directory c =
    rw (exit-is _ c.from_residual.ensures.1) (create-homeless c.args.volume.now c.args.layout c.requires.0 c.requires.1 c.args.parent c.args.name.now c.args.kind c.in_err-directory.ensures)

pub returns-in_err-file_type : goal.returns-in_err-file_type
returns-in_err-file_type c =
    let n = or-refused _ _ c.in_err-file_type.ensures in
    rw (exit-is _ c.from_residual-in_err-file_type.ensures.1, n.1) (create-kindless c.args.volume.now c.args.layout c.requires.0 c.requires.1 c.args.parent c.args.name.now c.args.kind c.in_ok-directory.ensures (sym n.0))

pub returns-in_err-spot : goal.returns-in_err-spot
returns-in_err-spot c =
    rw (exit-is _ c.from_residual-in_err-spot.ensures.1) (create-crowded c.args.volume.now c.args.layout c.requires.0 c.requires.1 c.args.parent c.args.name.now c.args.kind c.in_ok-directory.ensures (sym (or-given _ _ c.in_ok-file_type.ensures)) c.nodes_full-full.ensures c.in_err-spot.ensures)

pub add_entry-requires : goal.add_entry-requires
add_entry-requires c =
    create-enters c.args.volume.now c.args.layout c.requires.0 c.requires.1 c.args.parent c.args.name.now c.args.kind c.in_ok-directory.ensures (sym (or-given _ _ c.in_ok-file_type.ensures)) c.nodes_full-full.ensures c.in_ok-spot.ensures

pub append_node-requires : goal.append_node-requires
append_node-requires c =
    create-appends c.args.volume.now c.args.layout c.requires.0 c.requires.1 c.args.parent c.args.name.now c.args.kind c.in_ok-directory.ensures (sym (or-given _ _ c.in_ok-file_type.ensures)) c.nodes_full-full.ensures c.in_ok-spot.ensures c.next_node-node.ensures c.add_entry.ensures

pub overflow_add-node : goal.overflow_add-node
overflow_add-node c =
    omega (arith, create-counts c.args.volume.now c.args.layout c.requires.0 c.requires.1 c.args.parent c.args.name.now c.args.kind c.in_ok-directory.ensures (sym (or-given _ _ c.in_ok-file_type.ensures)) c.nodes_full-full.ensures c.in_ok-spot.ensures c.next_node-node.ensures)

pub set_next_node-requires : goal.set_next_node-requires
set_next_node-requires c =
    create-moves c.args.volume.now c.args.layout c.requires.0 c.requires.1 c.args.parent c.args.name.now c.args.kind c.in_ok-directory.ensures (sym (or-given _ _ c.in_ok-file_type.ensures)) c.nodes_full-full.ensures c.in_ok-spot.ensures c.next_node-node.ensures c.add_entry.ensures c.new_node.ensures c.append_node.ensures

pub returns : goal.returns
returns c =
    create-done c.args.volume.now c.args.layout c.requires.0 c.requires.1 c.args.parent c.args.name.now c.args.kind c.in_ok-directory.ensures (sym (or-given _ _ c.in_ok-file_type.ensures)) c.nodes_full-full.ensures c.in_ok-spot.ensures c.next_node-node.ensures c.add_entry.ensures c.new_node.ensures c.append_node.ensures c.set_next_node.ensures
