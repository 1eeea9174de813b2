use native.Mathlib.Omega.{arith}
use Rattle.volume.specs.Volume.{shown}
use Rattle.tables.proofs.LentAllocator.{lent-formed, lent-count, lent-long, freed}
use Rattle.tables.proofs.pointers.free.Goals as goal

pub free-requires : goal.free-requires
unfolding shown
free-requires c =
    (lent-formed c.args.volume.now c.args.layout c.requires.0, omega (arith, lent-long c.args.volume.now c.args.layout c.requires.0, lent-count c.args.volume.now c.args.layout c.requires.0, c.requires.1))

pub returns : goal.returns
returns c =
    freed c.args.volume.now c.args.layout c.requires.0 c.args.pointer c.free.ensures
