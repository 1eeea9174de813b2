use native.Mathlib.Omega.{arith}
use Rattle.directories.proofs.Reaching.{part-lent}
use Rattle.directories.proofs.finding.part_at.Goals as goal

pub overflow_add-result : goal.overflow_add-result
overflow_add-result c =
    omega (arith, c.from-at.ensures, c.from-long.ensures, c.requires.1, c.ranges)

pub slice_bounds-result-end : goal.slice_bounds-result-end
slice_bounds-result-end c =
    omega (arith, c.from-at.ensures, c.from-long.ensures, c.requires.1)

pub returns : goal.returns
returns c =
    part-lent c.args.path.now c.from-at.result c.from-long.result c.from-at.ensures c.from-long.ensures
