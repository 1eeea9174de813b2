use Rattle.std.proofs.Common.{◌%◌, ◌<◌, length}
use Rattle.vectors.proofs.Seeds.{Filled}
use Rattle.vectors.proofs.seed.fill.Given as goal

abbrev pub invariant-loop-byte : goal.invariant-loop-byte
invariant-loop-byte l = (l.value < 251) × Filled l.buffer l.byte-index l.value (length l.initial.buffer) (l.seed % 251)
