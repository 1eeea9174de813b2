use Rattle.std.proofs.Common.{length}
use Rattle.words_vectors.proofs.replay.Given as goal

abbrev pub decreases-loop-step : goal.decreases-loop-step
decreases-loop-step g l = length l.numbers
