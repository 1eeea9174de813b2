use Rattle.volume.proofs.RowFields.{node-read}
use Rattle.volume.proofs.nodes.read_node.Goals as goal

pub returns : goal.returns
returns c =
    node-read c.args.volume.now c.args.at c.get-byte.ensures.value c.get-flag.ensures.value c.try_from.ensures c.unwrap_or-kind.ensures c.get.ensures.value c.limit_of-limit.ensures c.get-2.ensures.value c.get-3.ensures.value c.get-4.ensures.value
