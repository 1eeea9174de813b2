use Rattle.volume.proofs.RowFields.{node-written}
use Rattle.volume.proofs.nodes.write_node.Goals as goal

pub returns : goal.returns
returns c =
    node-written c.args.volume.now c.args.at c.args.row c.from-byte.ensures.0 c.limit_flag-flag.ensures.0 c.limit_word.ensures c.put.ensures c.put-2.ensures c.put-3.ensures c.clear.ensures c.put_words.ensures c.requires
