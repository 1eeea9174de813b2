use Rattle.volume.proofs.RowFields.{chunk-is-under}
use Rattle.volume.proofs.chunks.chunk_under.Goals as goal

pub returns : goal.returns
returns c =
    chunk-is-under c.args.volume.now c.args.at c.args.node c.args.index c.get.ensures.value c.get-2.ensures.value c.pair_before.ensures
