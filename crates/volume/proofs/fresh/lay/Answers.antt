use Rattle.volume.proofs.FreshLaid.{fresh-written}
use Rattle.volume.proofs.fresh.lay.Goals as goal

pub returns : goal.returns
returns c =
    fresh-written c.args.nodes c.args.entries c.args.chunks c.args.span c.args.volume.now c.args.at c.requires.0 c.requires.1 c.root.ensures c.clear.ensures c.put_words.ensures c.write_node.ensures
