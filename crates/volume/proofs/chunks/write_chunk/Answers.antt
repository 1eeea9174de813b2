use Rattle.volume.proofs.RowFields.{chunk-written}
use Rattle.volume.proofs.chunks.write_chunk.Goals as goal

pub returns : goal.returns
returns c =
    chunk-written c.args.volume.now c.args.at c.args.row c.put_words.ensures
