use Rattle.volume.proofs.RowFields.{entry-written}
use Rattle.volume.proofs.entries.write_entry.Goals as goal

pub returns : goal.returns
returns c =
    entry-written c.args.volume.now c.args.at c.args.parent c.args.node c.args.index c.args.name.now c.put.ensures c.put-2.ensures c.put-3.ensures c.put-4.ensures c.copy.ensures c.clear.ensures c.requires.0 c.requires.1
