use Rattle.tables.proofs.ReadyTables.{next-set}
use Rattle.tables.proofs.header.set_next_node.Goals as goal

pub returns : goal.returns
returns c =
    next-set c.args.volume.now c.args.layout c.requires c.args.next c.put.ensures
