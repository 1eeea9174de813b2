use native.Mathlib.Omega.{arith}
use Rattle.files.proofs.FreeSteps.{none-freed, next_row, freed-turn, all-freed}
use Rattle.files.proofs.cutting.free_rows.Goals as goal

pub loop-i-init : goal.loop-i-init
loop-i-init c =
    none-freed c.args.volume.now c.args.layout c.requires.0 c.args.first c.args.n c.requires.1 c.requires.2

pub free_row-requires : goal.free_row-requires
free_row-requires c =
    next_row c.args.volume.now c.args.layout c.requires.0 c.args.first c.args.n c.requires.1 c.requires.2 c.loop-i.i c.loop-i.invariant (omega arith) (omega arith)

pub loop-i-preserved : goal.loop-i-preserved
loop-i-preserved c =
    freed-turn c.args.volume.now c.args.layout c.requires.0 c.args.first c.args.n c.requires.1 c.requires.2 c.loop-i.i c.loop-i.invariant (omega arith) (omega arith) c.free_row.ensures

pub returns : goal.returns
returns c =
    all-freed c.args.volume.now c.args.first c.args.n c.loop-i.i c.loop-i.invariant (omega arith)
