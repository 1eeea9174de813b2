use mathlib.Core.Path.{◌≡◌}
use Rattle.volume.specs.Volume.{laid}
use Rattle.files.proofs.FreeSteps.{freed_to}
use Rattle.files.proofs.cutting.free_rows.Given as goal

abbrev pub invariant-loop-i : goal.invariant-loop-i
invariant-loop-i l =
    l.volume ≡ laid (freed_to l.initial.volume l.first l.i)
