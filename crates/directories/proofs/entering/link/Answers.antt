use mathlib.Core.Path.{refl}
use native.Mathlib.Omega.{arith}
use Rattle.types.proofs.Results.{exit-is}
use Rattle.directories.proofs.LinkSteps.{link-homeless, link-targetless, link-crowded, link-enters, link-counts, link-changes, link-done}
use Rattle.directories.proofs.entering.link.Goals as goal

pub returns-in_err-directory : goal.returns-in_err-directory
returns-in_err-directory c =
    rw (exit-is _ c.from_residual.ensures.1) (link-homeless c.args.volume.now c.args.layout c.requires.0 c.requires.1 c.args.parent c.args.name.now c.args.target c.in_err-directory.ensures)

pub returns-in_err-file : goal.returns-in_err-file
returns-in_err-file c =
    rw (exit-is _ c.from_residual-in_err-file.ensures.1) (link-targetless c.args.volume.now c.args.layout c.requires.0 c.requires.1 c.args.parent c.args.name.now c.args.target c.in_ok-directory.ensures c.in_err-file.ensures)

pub returns-in_err-spot : goal.returns-in_err-spot
returns-in_err-spot c =
    rw (exit-is _ c.from_residual-in_err-spot.ensures.1) (link-crowded c.args.volume.now c.args.layout c.requires.0 c.requires.1 c.args.parent c.args.name.now c.args.target c.in_ok-directory.ensures c.in_ok-file.ensures c.entries_full-full.ensures c.in_err-spot.ensures)

pub add_entry-requires : goal.add_entry-requires
add_entry-requires c =
    link-enters c.args.volume.now c.args.layout c.requires.0 c.requires.1 c.args.parent c.args.name.now c.args.target c.in_ok-directory.ensures c.in_ok-file.ensures c.entries_full-full.ensures c.in_ok-spot.ensures

pub overflow_add-row : goal.overflow_add-row
overflow_add-row c =
    omega (arith, link-counts c.args.volume.now c.args.layout c.requires.0 c.requires.1 c.args.parent c.args.name.now c.args.target c.in_ok-directory.ensures c.in_ok-file.ensures c.entries_full-full.ensures c.in_ok-spot.ensures)

pub change_node-requires : goal.change_node-requires
change_node-requires c =
    link-changes c.args.volume.now c.args.layout c.requires.0 c.requires.1 c.args.parent c.args.name.now c.args.target c.in_ok-directory.ensures c.in_ok-file.ensures c.entries_full-full.ensures c.in_ok-spot.ensures c.add_entry.ensures

pub returns : goal.returns
returns c =
    link-done c.args.volume.now c.args.layout c.requires.0 c.requires.1 c.args.parent c.args.name.now c.args.target c.in_ok-directory.ensures c.in_ok-file.ensures c.entries_full-full.ensures c.in_ok-spot.ensures c.add_entry.ensures refl c.change_node.ensures
