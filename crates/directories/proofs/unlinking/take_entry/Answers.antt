use mathlib.Core.Path.{refl}
use Rattle.directories.proofs.TakenEntry.{parent-found, holder-asked, links-some, size-some, links-asked, size-asked, entry-taken}
use Rattle.directories.proofs.unlinking.take_entry.Goals as goal

pub unwrap-above-requires : goal.unwrap-above-requires
unwrap-above-requires c =
    parent-found c.args.volume.now c.args.layout c.requires.0 c.requires.1 c.args.place c.args.target c.requires.2 c.entry_parent-parent.ensures _ c.find_node.ensures

pub node_row-holder-requires : goal.node_row-holder-requires
node_row-holder-requires c =
    holder-asked c.args.volume.now c.args.layout c.requires.0 c.requires.1 c.args.place c.args.target c.requires.2 c.entry_parent-parent.ensures c.unwrap-above.ensures c.find_node.ensures

pub overflow_sub-row : goal.overflow_sub-row
overflow_sub-row c =
    links-some c.args.volume.now c.args.layout c.requires.0 c.requires.1 c.args.place c.args.target c.requires.2 c.entry_parent-parent.ensures c.unwrap-above.ensures c.find_node.ensures c.node_row-holder.ensures

pub change_node-requires : goal.change_node-requires
change_node-requires c =
    links-asked c.args.volume.now c.args.layout c.requires.0 c.requires.1 c.args.place c.args.target c.requires.2 c.entry_parent-parent.ensures c.unwrap-above.ensures c.find_node.ensures c.node_row-holder.ensures c.remove_entry.ensures

pub overflow_sub-holder : goal.overflow_sub-holder
overflow_sub-holder c =
    size-some c.args.volume.now c.args.layout c.requires.0 c.requires.1 c.args.place c.args.target c.requires.2 c.entry_parent-parent.ensures c.unwrap-above.ensures c.find_node.ensures c.node_row-holder.ensures

pub change_node-requires-2 : goal.change_node-requires-2
change_node-requires-2 c =
    size-asked c.args.volume.now c.args.layout c.requires.0 c.requires.1 c.args.place c.args.target c.requires.2 c.entry_parent-parent.ensures c.unwrap-above.ensures c.find_node.ensures c.node_row-holder.ensures c.remove_entry.ensures refl c.change_node.ensures

pub returns : goal.returns
returns c =
    entry-taken c.args.volume.now c.args.layout c.requires.0 c.requires.1 c.args.place c.args.target c.requires.2 c.entry_parent-parent.ensures c.unwrap-above.ensures c.find_node.ensures c.node_row-holder.ensures c.remove_entry.ensures refl c.change_node.ensures refl c.change_node-2.ensures
