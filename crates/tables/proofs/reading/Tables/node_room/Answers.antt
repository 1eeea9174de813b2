use native.Mathlib.Omega.{arith}
use Rattle.volume.specs.Volume.{shown}
use Rattle.tables.proofs.ReadyVolume.{rooms}
use Rattle.tables.proofs.reading.Tables.node_room.Goals as goal

pub returns : goal.returns
unfolding shown
returns c =
    rw (← c.self.view_is) ((c.get.ensures.value, omega (arith, c.get.ensures.value, rooms c.self.inside.bytes.now c.self.inside.layout c.self.invariant)))
