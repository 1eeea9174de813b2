use Rattle.std.proofs.Common.{◌≤◌, length}
use Rattle.file_vectors.proofs.replay_run.Given as goal

abbrev pub invariant-loop-kind : goal.invariant-loop-kind
invariant-loop-kind g l = length l.numbers ≤ length l.initial.numbers

abbrev pub decreases-loop-kind : goal.decreases-loop-kind
decreases-loop-kind g l = length l.numbers
