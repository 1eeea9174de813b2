use Rattle.std.proofs.Common.{◌≤◌, length}
use Rattle.path_vectors.proofs.compare_parts.Given as goal

abbrev pub invariant-loop-i : goal.invariant-loop-i
invariant-loop-i l = length l.numbers ≤ length l.initial.numbers
