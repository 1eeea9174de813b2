use native.Mathlib.Omega.{arith}
use native.Mathlib.Nat.{mod-lt}
use Rattle.words.proofs.Multiples.{taken-most, taken-rest}
use Rattle.words.proofs.Powers.{one-positive}
use Rattle.words.proofs.dividing.remainder.Goals as goal

pub overflow_mul-result : goal.overflow_mul-result
overflow_mul-result c =
    record { fits = omega (arith, taken-most c.args.power c.args.x (one-positive _ c.requires) c.quotient.ensures, c.ranges.x.fits) }

pub overflow_sub-result : goal.overflow_sub-result
overflow_sub-result c =
    taken-most _ _ (one-positive _ c.requires) c.quotient.ensures

pub returns : goal.returns
returns c =
    let pos = one-positive _ c.requires in
    let e = taken-rest c.args.power c.args.x pos c.quotient.ensures in
    (e, rw e (mod-lt c.args.x pos))
