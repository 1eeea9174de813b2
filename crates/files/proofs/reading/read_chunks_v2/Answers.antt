use native.Mathlib.Omega.{arith}
use Rattle.files.proofs.ReadPieces.{read-start, piece-asked, piece-some, read-turn, read-end}
use Rattle.files.proofs.reading.read_chunks_v2.Goals as goal

pub first_chunk-place-requires : goal.first_chunk-place-requires
first_chunk-place-requires c =
    c.requires.1.stored.order

pub loop-done-init : goal.loop-done-init
loop-done-init c =
    read-start c.args.tables.now.store c.args.node c.args.offset c.args.buffer.now c.requires.0.0 c.first_chunk-place.ensures.0

pub piece_size-n-requires : goal.piece_size-n-requires
piece_size-n-requires c =
    c.requires.0.1

pub read_piece-place-requires : goal.read_piece-place-requires
read_piece-place-requires c =
    record { ready = (c.requires.0, c.requires.1); placed = piece-asked c.args.tables.now.store c.args.node c.args.offset c.args.buffer.now c.loop-done.invariant c.loop-done-test.true c.requires.0 c.piece_size-n.ensures }

pub loop-done-smaller : goal.loop-done-smaller
loop-done-smaller c =
    omega (arith, piece-some c.args.tables.now.store c.args.node c.args.offset c.args.buffer.now c.loop-done.invariant c.loop-done-test.true c.requires.0 c.piece_size-n.ensures, c.piece_size-n.ensures, c.loop-done.invariant)

pub loop-done-preserved : goal.loop-done-preserved
loop-done-preserved c =
    read-turn c.args.tables.now.store c.args.node c.args.offset c.args.buffer.now c.loop-done.invariant c.loop-done-test.true c.requires.0 c.piece_size-n.ensures c.read_piece-place.ensures

pub returns : goal.returns
returns c =
    read-end c.args.tables.now.store c.args.node c.args.offset c.args.buffer.now c.loop-done.invariant c.loop-done-test.false
