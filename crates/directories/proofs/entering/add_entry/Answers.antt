use borrow.Author.Rules.{rules}
use mathlib.Core.Path.{refl}
use native.Mathlib.Omega.{arith}
use Rattle.volume.specs.Volume.{shown}
use Rattle.directories.proofs.EntrySteps.{parent-size, entry-asked, size-asked, entry-added}
use Rattle.directories.proofs.entering.add_entry.Goals as goal

pub insert_entry-requires : goal.insert_entry-requires
insert_entry-requires c =
    entry-asked c.args.volume.now c.args.layout c.requires.0 c.requires.1 c.args.directory.row.node c.args.name.now c.args.node (search rules) c.requires.2 c.requires.3 c.requires.4

pub overflow_add-row : goal.overflow_add-row
overflow_add-row c =
    omega (arith, parent-size c.args.directory.row.node (shown c.args.volume.now).names c.requires.0.formed.fits.names c.requires.1.named c.requires.2)

pub change_node-requires : goal.change_node-requires
change_node-requires c =
    size-asked c.args.volume.now c.args.layout c.requires.0 c.requires.1 c.args.directory.row.node c.args.name.now c.args.node (search rules) c.requires.2 c.requires.3 c.requires.4 c.insert_entry.ensures

pub returns : goal.returns
returns c =
    entry-added c.args.volume.now c.args.layout c.requires.0 c.requires.1 c.args.directory.row.node c.args.name.now c.args.node (search rules) c.requires.2 c.requires.3 c.requires.4 c.insert_entry.ensures refl c.change_node.ensures
