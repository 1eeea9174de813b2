use Prim.Native.Nat.{◌-◌}
use Rattle.words.proofs.Halves.{Between}
use Rattle.words.proofs.halving.seek.Given as goal

abbrev pub invariant-loop-low : goal.invariant-loop-low
invariant-loop-low g l =
    Between (goal.F-post g l.before) l.count l.low l.high

abbrev pub decreases-loop-low : goal.decreases-loop-low
decreases-loop-low g l =
    l.high - l.low
