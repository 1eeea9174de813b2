use Rattle.tables.proofs.ReadyVolume.{area-long}
use Rattle.tables.proofs.reading.Tables.area_size.Goals as goal

pub returns : goal.returns
returns c =
    rw (← c.self.view_is) (area-long c.self.inside.bytes.now c.self.inside.layout c.self.invariant)
