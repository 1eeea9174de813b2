use Rattle.volume.proofs.RowFields.{chunk_read}
use Rattle.volume.proofs.chunks.read_chunk.Goals as goal

pub returns : goal.returns
returns c =
    chunk_read c.args.volume.now c.args.at c.get.ensures.value c.get-2.ensures.value c.get-3.ensures.value
