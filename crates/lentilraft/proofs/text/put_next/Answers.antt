use Prim.Native.Nat.{◌+◌}
use native.Mathlib.Omega.{arith}
use Rattle.lentilraft.specs.Report.{line, free_key, next_ptr_key, next_node_key, next_lines}
use Rattle.lentilraft.proofs.Lines.{three}
use Rattle.lentilraft.proofs.text.put_next.Goals as goal

pub returns : goal.returns
unfolding next_lines
returns c =
    let x = c.put_line-a in
    let y = c.put_line-b in
    let z = c.put_line in
    three c.args.out.now c.args.at (c.args.at + 87) (line free_key c.args.free) (line next_ptr_key c.args.pointer) (line next_node_key c.args.node) x.result y.result z.result
    x.ensures.0 y.ensures.0 z.ensures.0 (omega arith) (omega arith) x.ensures.2 y.ensures.2 z.ensures.2
