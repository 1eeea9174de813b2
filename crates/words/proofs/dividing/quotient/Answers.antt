use mathlib.Core.Path.{sym, ap}
use Prim.Native.Nat.{ℕ, ◌/◌}
use native.Mathlib.Omega.{arith}
use Rattle.words.proofs.Powers.{bit_below, is-power}
use Rattle.words.proofs.dividing.quotient.Goals as goal

pub overflow_cast-result : goal.overflow_cast-result
overflow_cast-result c =
    omega (arith, bit_below 64 _ c.ranges.power.fits c.requires)

pub overflow_shr-result : goal.overflow_shr-result
overflow_shr-result c =
    bit_below 64 _ c.ranges.power.fits c.requires

pub returns : goal.returns
returns c =
    ap (λ (n : ℕ). c.args.x / n) (sym (is-power _ c.ranges.power.fits c.requires))
