use Rattle.std.proofs.Common.{ℕ, sym}
use Rattle.std.proofs.Math.ListN.{length-replicate}
use Rattle.vectors.proofs.input.blank.Goals as goal

-- The level and the type are written, so that antt compares the lengths by their arguments and does not count.
pub returns : goal.returns
returns c = sym (length-replicate {0} {A = ℕ} 1048576 0)
