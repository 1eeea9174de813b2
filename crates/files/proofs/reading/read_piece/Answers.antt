use mathlib.Core.Bool.{not}
use mathlib.Core.Path.{ap, sym, ◌∙◌}
use lib.ListN.{length}
use native.Mathlib.Omega.{arith}
use Rattle.words.proofs.Written.{over-all, length-lent}
use Rattle.tables.proofs.ReadyVolume.{fits-of}
use Rattle.files.proofs.ReadPieces.{hole-read, row_ends, row_read, row-there}
use Rattle.files.proofs.reading.read_piece.Goals as goal

pub returns-then-not-is_row : goal.returns-then-not-is_row
returns-then-not-is_row c =
    hole-read c.args.tables.now.store c.requires.ready.1 c.args.node c.args.offset c.args.place c.requires.placed.0 c.requires.ready.0 c.is_row.ensures (ap not c.if-not-is_row.true) c.args.out.now c.requires.placed.1 (c.fill.ensures.after (λ y e. e))

pub chunk_row-chunk-requires : goal.chunk_row-chunk-requires
chunk_row-chunk-requires c =
    (row-there c.args.tables.now.store c.requires.ready.1 c.args.node c.args.offset c.args.place c.requires.placed.0 c.requires.ready.0 c.is_row.ensures (ap not c.if-not-is_row.false))

pub overflow_add-from : goal.overflow_add-from
overflow_add-from c =
    omega (arith, ap length c.area-area.ensures, row_ends c.args.tables.now.store c.requires.ready.1 c.args.node c.args.offset c.args.place c.requires.placed.0 c.requires.ready.0 c.is_row.ensures (ap not c.if-not-is_row.false) c.chunk_row-chunk.ensures c.args.out.now c.requires.placed.1)

pub overflow_add-from-2 : goal.overflow_add-from-2
overflow_add-from-2 c =
    omega (arith, ap length c.area-area.ensures, row_ends c.args.tables.now.store c.requires.ready.1 c.args.node c.args.offset c.args.place c.requires.placed.0 c.requires.ready.0 c.is_row.ensures (ap not c.if-not-is_row.false) c.chunk_row-chunk.ensures c.args.out.now c.requires.placed.1)

pub slice_bounds-copy-end : goal.slice_bounds-copy-end
slice_bounds-copy-end c =
    omega (arith, ap length c.area-area.ensures, row_ends c.args.tables.now.store c.requires.ready.1 c.args.node c.args.offset c.args.place c.requires.placed.0 c.requires.ready.0 c.is_row.ensures (ap not c.if-not-is_row.false) c.chunk_row-chunk.ensures c.args.out.now c.requires.placed.1)

pub overflow_add-result : goal.overflow_add-result
overflow_add-result c =
    omega (arith, row-there c.args.tables.now.store c.requires.ready.1 c.args.node c.args.offset c.args.place c.requires.placed.0 c.requires.ready.0 c.is_row.ensures (ap not c.if-not-is_row.false), (fits-of c.tables.invariant c.tables.view_is).store)

pub returns : goal.returns
returns c =
    row_read c.args.tables.now.store c.requires.ready.1 c.args.node c.args.offset c.args.place c.requires.placed.0 c.requires.ready.0 c.is_row.ensures (ap not c.if-not-is_row.false) c.chunk_row-chunk.ensures c.args.out.now c.requires.placed.1 c.area-area.ensures (c.copy.ensures ∙ over-all _ _ (sym (length-lent c.area-area.result.now _ (length c.args.out.now) (omega (arith, ap length c.area-area.ensures, row_ends c.args.tables.now.store c.requires.ready.1 c.args.node c.args.offset c.args.place c.requires.placed.0 c.requires.ready.0 c.is_row.ensures (ap not c.if-not-is_row.false) c.chunk_row-chunk.ensures c.args.out.now c.requires.placed.1)))))
