use Rattle.std.proofs.Common.{arith}
use Rattle.vectors.proofs.Sums.{sum-start, sum-turn, sum-end}
use Rattle.vectors.proofs.sum.checksum.Goals as goal

pub loop-byte-init : goal.loop-byte-init
loop-byte-init c = (sum-start c.args.v.now, omega arith, omega arith)

pub loop-byte-preserved : goal.loop-byte-preserved
loop-byte-preserved c =
    (rw c.from.ensures (sum-turn c.args.v.now c.loop-byte.low c.loop-byte.high c.loop-byte.byte-index c.loop-byte.invariant.0 c.loop-byte-test.true), omega arith, omega arith)

pub returns : goal.returns
returns c =
    sum-end c.args.v.now c.loop-byte.low c.loop-byte.high c.loop-byte.byte-index c.loop-byte.invariant.0 (omega arith)
