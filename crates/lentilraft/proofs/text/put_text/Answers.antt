use native.Mathlib.Omega.{arith}
use Rattle.lentilraft.proofs.Lines.{text-put}
use Rattle.lentilraft.proofs.text.put_text.Goals as goal

pub returns : goal.returns
returns c =
    let x = c.put_sizes-rows in
    let y = c.put_rows-next in
    let z = c.put_next in
    text-put c.args.tables.now c.args.out.now x.result y.result z.result
    c.chunk_size.ensures.0 c.nodes_used.ensures.0 c.entries_used.ensures.0 c.chunks_used.ensures.0 c.free_count.ensures.0 c.max_ptr.ensures c.next_node.ensures
    x.ensures.0 y.ensures.0 z.ensures.0 (omega arith) c.requires x.ensures.2 y.ensures.2 z.ensures.2
