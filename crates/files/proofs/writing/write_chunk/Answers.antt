use native.Mathlib.Omega.{arith}
use Rattle.store.proofs.WriteChunkSteps.{piece-ends}
use Rattle.files.specs.Gap.{closed}
use Rattle.files.proofs.ChunkSteps.{keep-asked, chunk_kept, take-asked, chunk-taken}
use Rattle.files.proofs.writing.write_chunk.Goals as goal

pub piece_of-piece-requires : goal.piece_of-piece-requires
piece_of-piece-requires c =
    (rw c.requires.gapped.5.0 c.requires.touched.0, rw c.requires.gapped.5.0 c.requires.touched.1, c.requires.touched.2, c.requires.gapped.5.1, c.requires.gapped.5.2)

pub slice_bounds-part-end : goal.slice_bounds-part-end
slice_bounds-part-end c =
    omega (arith, piece-ends (closed c.args.place c.args.gap c.args.volume.now).store c.requires.gapped.1 c.args.node c.args.offset c.args.bytes.now c.args.index c.args.place c.requires.gapped.2 (record { before = c.requires.touched.0; behind = c.requires.touched.1 }) c.requires.gapped.5 c.piece_of-piece.ensures)

pub keep_chunk-requires : goal.keep_chunk-requires
keep_chunk-requires c =
    let k = keep-asked c.requires.gapped.0 c.requires.gapped.1 c.args.node c.args.offset c.args.bytes.now c.args.index c.requires.gapped.2 (record { before = c.requires.touched.0; behind = c.requires.touched.1 }) c.requires.gapped.5 c.piece_of-piece.ensures c.is_row.ensures c.if-is_row.true in (k.0, k.1, k.2, k.3, c.requires.gapped.5)

pub returns-then-is_row : goal.returns-then-is_row
returns-then-is_row c =
    chunk_kept c.requires.gapped.0 c.requires.gapped.1 c.args.node c.args.offset c.args.bytes.now c.args.index c.requires.gapped.2 (record { before = c.requires.touched.0; behind = c.requires.touched.1 }) c.requires.gapped.5 c.piece_of-piece.ensures c.is_row.ensures c.if-is_row.true c.keep_chunk.ensures

pub take_chunk-requires : goal.take_chunk-requires
take_chunk-requires c =
    take-asked c.requires.gapped.0 c.requires.gapped.1 c.args.node c.args.offset c.args.bytes.now c.args.index c.requires.gapped.2 (record { before = c.requires.touched.0; behind = c.requires.touched.1 }) c.requires.gapped.5 c.piece_of-piece.ensures c.is_row.ensures c.if-is_row.false c.requires.gapped.3 c.requires.gapped.4

pub returns : goal.returns
returns c =
    chunk-taken c.requires.gapped.0 c.requires.gapped.1 c.args.node c.args.offset c.args.bytes.now c.args.index c.requires.gapped.2 (record { before = c.requires.touched.0; behind = c.requires.touched.1 }) c.requires.gapped.5 c.piece_of-piece.ensures c.is_row.ensures c.if-is_row.false c.requires.gapped.3 c.take_chunk.ensures
