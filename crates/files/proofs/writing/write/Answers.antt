use native.Mathlib.Omega.{arith}
use Rattle.volume.specs.Volume.{shown}
use Rattle.types.proofs.Results.{exit-is}
use Rattle.files.proofs.FileRows.{span_of}
use Rattle.files.proofs.WriteSteps.{write-refused, size-asked, write-none, write-above, end-most, holes-asked, room-asked, write-cramped, chunks-asked, write_done}
use Rattle.files.proofs.writing.write.Goals as goal

pub returns-in_err-file : goal.returns-in_err-file
returns-in_err-file c =
    rw (exit-is _ c.from_residual.ensures.1) (write-refused c.args.node c.args.offset c.args.bytes.now c.args.volume.now c.args.layout c.requires.0 c.requires.1 c.in_err-file.ensures)

pub returns-then-count-eq0 : goal.returns-then-count-eq0
returns-then-count-eq0 c =
    write-none c.args.node c.args.offset c.args.bytes.now c.args.volume.now c.args.layout c.requires.0 c.requires.1 c.in_ok-file.ensures c.if-count-eq0.true

pub returns-then-exceeds : goal.returns-then-exceeds
returns-then-exceeds c =
    write-above c.args.node c.args.offset c.args.bytes.now c.args.volume.now c.args.layout c.requires.0 c.requires.1 c.in_ok-file.ensures c.if-count-eq0.false c.file_limit.ensures c.exceeds.ensures c.if-exceeds.true

pub first_chunk-first-requires : goal.first_chunk-first-requires
first_chunk-first-requires c =
    c.requires.1.stored.order

pub count_holes-holes-requires : goal.count_holes-holes-requires
count_holes-holes-requires c =
    holes-asked c.args.node c.args.offset c.args.bytes.now c.args.volume.now c.args.layout c.requires.0 c.requires.1 c.in_ok-file.ensures c.if-count-eq0.false c.file_limit.ensures c.exceeds.ensures c.if-exceeds.false (span_of (shown c.args.volume.now).store c.chunk_size-span.ensures) c.first_chunk-first.ensures.0

pub is_cramped-requires : goal.is_cramped-requires
is_cramped-requires c =
    room-asked c.args.node c.args.offset c.args.bytes.now c.args.volume.now c.args.layout c.requires.0 c.requires.1 c.in_ok-file.ensures c.if-count-eq0.false c.file_limit.ensures c.exceeds.ensures c.if-exceeds.false (span_of (shown c.args.volume.now).store c.chunk_size-span.ensures)

pub returns-then-is_cramped : goal.returns-then-is_cramped
returns-then-is_cramped c =
    write-cramped c.args.node c.args.offset c.args.bytes.now c.args.volume.now c.args.layout c.requires.0 c.requires.1 c.in_ok-file.ensures c.if-count-eq0.false c.file_limit.ensures c.exceeds.ensures c.if-exceeds.false c.count_holes-holes.ensures c.is_cramped.ensures c.if-is_cramped.true

pub write_chunks_v2-requires : goal.write_chunks_v2-requires
write_chunks_v2-requires c =
    chunks-asked c.args.node c.args.offset c.args.bytes.now c.args.volume.now c.args.layout c.requires.0 c.requires.1 c.in_ok-file.ensures c.if-count-eq0.false c.file_limit.ensures c.exceeds.ensures c.if-exceeds.false c.count_holes-holes.ensures c.is_cramped.ensures c.if-is_cramped.false (span_of (shown c.args.volume.now).store c.chunk_size-span.ensures) c.first_chunk-first.ensures.0

pub overflow_add-end : goal.overflow_add-end
overflow_add-end c =
    omega (arith, end-most c.args.node c.args.offset c.args.bytes.now c.args.volume.now c.args.layout c.requires.0 c.requires.1 c.in_ok-file.ensures c.if-count-eq0.false c.file_limit.ensures c.exceeds.ensures c.if-exceeds.false)

pub change_node-requires : goal.change_node-requires
change_node-requires c =
    size-asked c.args.node c.args.offset c.args.bytes.now c.args.volume.now c.args.layout c.requires.0 c.requires.1 c.in_ok-file.ensures c.if-count-eq0.false c.file_limit.ensures c.exceeds.ensures c.if-exceeds.false c.count_holes-holes.ensures c.is_cramped.ensures c.if-is_cramped.false c.write_chunks_v2.ensures

pub returns : goal.returns
returns c =
    write_done c.args.node c.args.offset c.args.bytes.now c.args.volume.now c.args.layout c.requires.0 c.requires.1 c.in_ok-file.ensures c.if-count-eq0.false c.file_limit.ensures c.exceeds.ensures c.if-exceeds.false c.count_holes-holes.ensures c.is_cramped.ensures c.if-is_cramped.false c.write_chunks_v2.ensures c.max-size.ensures c.change_node.ensures
