use Prim.Native.Nat.{◌+◌}
use native.Mathlib.Omega.{arith}
use Rattle.lentilraft.specs.Report.{line, nodes_key, entries_key, chunks_key, row_lines}
use Rattle.lentilraft.proofs.Lines.{three}
use Rattle.lentilraft.proofs.text.put_rows.Goals as goal

pub returns : goal.returns
unfolding row_lines
returns c =
    let x = c.put_line-a in
    let y = c.put_line-b in
    let z = c.put_line in
    three c.args.out.now c.args.at (c.args.at + 84) (line nodes_key c.args.nodes) (line entries_key c.args.entries) (line chunks_key c.args.chunks) x.result y.result z.result
    x.ensures.0 y.ensures.0 z.ensures.0 (omega arith) (omega arith) x.ensures.2 y.ensures.2 z.ensures.2
