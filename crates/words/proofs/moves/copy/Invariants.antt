use mathlib.Core.Path.{◌≡◌}
use lib.ListN.{take}
use Rattle.words.specs.Bytes.{over}
use Rattle.words.proofs.moves.copy.Given as goal

abbrev pub invariant-loop-i : goal.invariant-loop-i
invariant-loop-i l =
    l.v ≡ over l.initial.v l.at (take l.i l.src)
