use Rattle.std.proofs.Common.{◌+◌, ◌≤◌, length}
use Rattle.allocator_vectors.proofs.replay.Given as goal

abbrev pub invariant-loop-numbers : goal.invariant-loop-numbers
invariant-loop-numbers g l = l.runs + l.steps + length l.numbers ≤ length l.text

abbrev pub decreases-loop-numbers : goal.decreases-loop-numbers
decreases-loop-numbers g l = length l.numbers
