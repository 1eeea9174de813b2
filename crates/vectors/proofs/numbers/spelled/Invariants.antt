use Rattle.std.proofs.Common.{◌≡◌, length}
use Rattle.vectors.specs.Scan.{past_digits, spelled, held}
use Rattle.vectors.proofs.numbers.spelled.Given as goal

abbrev pub invariant-loop-byte : goal.invariant-loop-byte
invariant-loop-byte l = (held (spelled l.value l.rest) ≡ held (spelled 0 l.text)) × (past_digits l.rest ≡ past_digits l.text)

abbrev pub decreases-loop-byte : goal.decreases-loop-byte
decreases-loop-byte l = length l.rest
