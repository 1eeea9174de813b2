use Rattle.std.proofs.Common.{◌≤◌, length}
use Rattle.allocator_vectors.proofs.read_words.Given as goal

abbrev pub invariant-loop-word : goal.invariant-loop-word
invariant-loop-word l = length l.numbers ≤ length l.initial.numbers
