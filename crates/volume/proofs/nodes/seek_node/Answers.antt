use Prim.Native.Nat.{◌+◌, ◌*◌}
use borrow.Author.Rules.{rules}
use Rattle.words.proofs.Search.{seek-lead}
use Rattle.volume.specs.Rows.{read_node, node_row}
use Rattle.volume.specs.Search.{node_under}
use Rattle.volume.proofs.RowFields.{node-is-under}
use Rattle.volume.proofs.nodes.seek_node.Goals as goal

pub returns : goal.returns
returns c =
    let a = c.args in
    seek-lead (node_under a.node) read_node node_row a.volume.now a.base a.used c.requires.1 c.seek.ensures.split
    (λ k t h e. node-is-under a.volume.now (a.base + node_row * k) a.node (search rules))
