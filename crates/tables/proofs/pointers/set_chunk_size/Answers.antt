use Rattle.tables.proofs.LentAllocator.{lent-formed, resized}
use Rattle.tables.proofs.pointers.set_chunk_size.Goals as goal

pub set_chunk_size-requires : goal.set_chunk_size-requires
set_chunk_size-requires c =
    lent-formed c.args.volume.now c.args.layout c.requires

pub returns : goal.returns
returns c =
    resized c.args.volume.now c.args.layout c.requires c.args.span c.set_chunk_size.ensures
