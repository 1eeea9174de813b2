use Rattle.std.proofs.Common.{◌+◌, ◌≤◌, length}
use Rattle.path_vectors.proofs.replay.Given as goal

abbrev pub invariant-loop-numbers : goal.invariant-loop-numbers
invariant-loop-numbers g l = (l.totals.paths + length l.numbers ≤ length l.text) × (l.totals.refused ≤ l.totals.paths)

abbrev pub decreases-loop-numbers : goal.decreases-loop-numbers
decreases-loop-numbers g l = length l.numbers
