use Rattle.std.proofs.Common.{◌%◌, length, arith, rules}
use Rattle.vectors.proofs.Seeds.{fill-turn, fill_end}
use Rattle.vectors.proofs.seed.fill.Goals as goal

pub loop-byte-preserved : goal.loop-byte-preserved
loop-byte-preserved c =
    (omega arith, fill-turn c.loop-byte.buffer c.loop-byte.byte-index c.loop-byte.value (length c.args.buffer.now) (c.args.seed % 251) (search rules) (omega arith) c.loop-byte.invariant.1)

pub returns : goal.returns
returns c =
    fill_end c.loop-byte.buffer c.loop-byte.byte-index c.loop-byte.value (length c.args.buffer.now) (c.args.seed % 251) (search rules) (omega arith) (omega arith) c.loop-byte.invariant.1
