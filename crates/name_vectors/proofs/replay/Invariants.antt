use Rattle.std.proofs.Common.{length}
use Rattle.name_vectors.proofs.replay.Given as goal

abbrev pub decreases-loop-numbers : goal.decreases-loop-numbers
decreases-loop-numbers g l = length l.numbers
