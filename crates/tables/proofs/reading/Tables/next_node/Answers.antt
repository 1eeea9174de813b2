use Rattle.volume.specs.Volume.{shown}
use Rattle.tables.proofs.reading.Tables.next_node.Goals as goal

pub returns : goal.returns
unfolding shown
returns c =
    rw (← c.self.view_is) (c.get.ensures.value)
