use Rattle.std.proofs.Common.{◌≤◌, length}
use Rattle.path_vectors.proofs.compare_part.Given as goal

abbrev pub invariant-loop-byte : goal.invariant-loop-byte
invariant-loop-byte l = length l.numbers ≤ length l.initial.numbers
