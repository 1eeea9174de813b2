use Rattle.volume.specs.Volume.{shown}
use Rattle.tables.proofs.LentAllocator.{lent-read, lent-long, lent-formed}
use Rattle.tables.proofs.reading.Tables.allocator_words.Goals as goal

pub returns : goal.returns
unfolding shown
returns c =
    let l = c.self.inside.bytes.now in
    let y = c.self.inside.layout in
    rw (← c.self.view_is) (lent-read l y c.self.invariant, lent-long l y c.self.invariant, lent-formed l y c.self.invariant)
