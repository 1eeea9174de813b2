use Rattle.files.proofs.KeepSteps.{kept-asked, kept-stays, kept-moves}
use Rattle.files.proofs.chunks.keep_chunk.Goals as goal

pub put_piece-requires : goal.put_piece-requires
put_piece-requires c =
    (c.requires.0.ready, rw c.chunk_row-row.ensures c.requires.2, c.requires.3, c.requires.4)

pub returns-then-gap-eq0 : goal.returns-then-gap-eq0
returns-then-gap-eq0 c =
    kept-stays c.requires.0 c.requires.1 c.args.from c.args.bytes.now c.requires.2 c.requires.3 c.chunk_row-row.ensures c.put_piece.ensures c.if-gap-eq0.true

pub change_chunk-requires : goal.change_chunk-requires
change_chunk-requires c =
    kept-asked c.requires.0 c.requires.1 c.args.from c.args.bytes.now c.requires.2 c.requires.3 c.chunk_row-row.ensures c.put_piece.ensures

pub returns : goal.returns
returns c =
    kept-moves c.requires.0 c.requires.1 c.args.from c.args.bytes.now c.requires.2 c.requires.3 c.chunk_row-row.ensures c.put_piece.ensures c.change_chunk.ensures
