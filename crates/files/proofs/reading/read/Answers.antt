use native.Mathlib.Omega.{arith}
use Rattle.tables.proofs.ReadyVolume.{fits-of}
use Rattle.store.proofs.Workable.{stored-workable}
use Rattle.types.proofs.Results.{exit-is}
use Rattle.files.proofs.FileRows.{span_of}
use Rattle.files.proofs.ReadGives.{read-refused, read-ends, file-read}
use Rattle.files.proofs.reading.read.Goals as goal

pub returns-in_err-file : goal.returns-in_err-file
returns-in_err-file c =
    rw (exit-is _ c.from_residual.ensures.1) (read-refused c.args.node c.args.offset c.args.tables.now c.args.buffer.now c.requires.named.node_order c.in_err-file.ensures)

pub read_chunks_v2-requires : goal.read_chunks_v2-requires
read_chunks_v2-requires c =
    (span_of c.args.tables.now.store c.chunk_size-span.ensures, stored-workable c.args.tables.now.store (fits-of c.tables.invariant c.tables.view_is).store c.requires.stored, read-ends c.args.node c.args.offset c.args.tables.now c.args.buffer.now c.in_ok-file.ensures c.read_count-count.ensures c.requires (fits-of c.tables.invariant c.tables.view_is) (omega arith))

pub returns : goal.returns
returns c =
    file-read c.args.node c.args.offset c.args.tables.now c.args.buffer.now c.in_ok-file.ensures c.read_count-count.ensures c.read_chunks_v2.ensures
