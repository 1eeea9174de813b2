use native.Mathlib.Omega.{arith}
use lib.Count.{count_trailing_zeros, trailing_le}
use Rattle.volume.specs.Volume.{form}
use Rattle.lentilraft.specs.Report.{line, format_key, chunk_size_key, chunk_shift_key, size_lines}
use Rattle.lentilraft.proofs.Lines.{three-first}
use Rattle.lentilraft.proofs.text.put_sizes.Goals as goal

pub overflow_cast-span : goal.overflow_cast-span
overflow_cast-span c =
    record { fits = omega (arith, trailing_le 64 c.args.span) }

pub returns : goal.returns
unfolding size_lines
returns c =
    let x = c.put_line-a in
    let y = c.put_line-b in
    let z = c.put_line in
    three-first c.args.out.now 93 (line format_key form) (line chunk_size_key c.args.span) (line chunk_shift_key (count_trailing_zeros 64 c.args.span)) x.result y.result z.result
    (omega (arith, x.ensures.0)) y.ensures.0 z.ensures.0 (omega arith) (omega arith) x.ensures.2 y.ensures.2 z.ensures.2
