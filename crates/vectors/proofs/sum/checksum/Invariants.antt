use Rattle.std.proofs.Common.{◌≡◌, ◌<◌, drop}
use Rattle.vectors.specs.Sum.{summed, checksum}
use Rattle.vectors.proofs.sum.checksum.Given as goal

abbrev pub invariant-loop-byte : goal.invariant-loop-byte
invariant-loop-byte l = (summed l.low l.high (drop l.byte-index l.v) ≡ checksum l.v) × (l.low < 65521) × (l.high < 65521)
