use Rattle.std.proofs.Common.{◌≡◌, length}
use Rattle.vectors.specs.Scan.{from_digit}
use Rattle.vectors.proofs.numbers.from_digit.Given as goal

abbrev pub invariant-loop-byte : goal.invariant-loop-byte
invariant-loop-byte l = from_digit l.rest ≡ from_digit l.text

abbrev pub decreases-loop-byte : goal.decreases-loop-byte
decreases-loop-byte l = length l.rest
