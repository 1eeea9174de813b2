use Rattle.std.proofs.Common.{length}
use Rattle.broken_volumes.proofs.replay.Given as goal

abbrev pub decreases-loop-volume : goal.decreases-loop-volume
decreases-loop-volume g l = length l.numbers
