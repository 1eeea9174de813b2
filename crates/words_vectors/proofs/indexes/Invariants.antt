use Rattle.std.proofs.Common.{◌≤◌, length}
use Rattle.words_vectors.proofs.indexes.Given as goal

abbrev pub invariant-loop-index : goal.invariant-loop-index
invariant-loop-index g l = length l.numbers ≤ length l.initial.numbers
