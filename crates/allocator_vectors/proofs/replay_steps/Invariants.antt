use Rattle.std.proofs.Common.{◌+◌, ◌≤◌, length}
use Rattle.allocator_vectors.proofs.replay_steps.Given as goal

abbrev pub invariant-loop-step : goal.invariant-loop-step
invariant-loop-step l = l.run.steps + length l.numbers ≤ length l.initial.numbers

abbrev pub decreases-loop-step : goal.decreases-loop-step
decreases-loop-step l = length l.numbers
