use Rattle.tables.proofs.ReadyVolume.{area-rest}
use Rattle.tables.proofs.reading.Tables.area.Goals as goal

pub returns : goal.returns
returns c =
    rw (← c.self.view_is, area-rest c.self.inside.bytes.now c.self.inside.layout c.self.invariant)
