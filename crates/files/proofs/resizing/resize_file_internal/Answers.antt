use Rattle.volume.specs.Volume.{shown}
use Rattle.store.proofs.Workable.{stored-workable}
use Rattle.files.proofs.FileRows.{span_of}
use Rattle.files.proofs.ResizeSteps.{zero-asked, shrink-done}
use Rattle.files.proofs.resizing.resize_file_internal.Goals as goal

pub first_chunk-tail-requires : goal.first_chunk-tail-requires
first_chunk-tail-requires c =
    c.requires.1.stored.order

pub first_cut-first-requires : goal.first_cut-first-requires
first_cut-first-requires c =
    (stored-workable (shown c.args.volume.now).store c.requires.0.formed.fits.store c.requires.1.stored, c.first_chunk-tail.ensures.0, (span_of (shown c.args.volume.now).store c.chunk_size-span.ensures))

pub cut_rows-requires : goal.cut_rows-requires
cut_rows-requires c =
    (c.requires.0, (stored-workable (shown c.args.volume.now).store c.requires.0.formed.fits.store c.requires.1.stored), c.first_cut-first.ensures.1)

pub zero_tail-requires : goal.zero_tail-requires
zero_tail-requires c =
    zero-asked c.args.volume.now c.args.layout c.requires.0 c.requires.1 c.args.node c.args.end (span_of (shown c.args.volume.now).store c.chunk_size-span.ensures) c.first_chunk-tail.ensures.0 (c.cut_rows.ensures _ c.first_cut-first.ensures.0)

pub returns : goal.returns
returns c =
    shrink-done c.args.volume.now c.args.layout c.requires.0 c.requires.1 c.args.node c.args.end (span_of (shown c.args.volume.now).store c.chunk_size-span.ensures) c.first_chunk-tail.ensures.0 (c.cut_rows.ensures _ c.first_cut-first.ensures.0) c.zero_tail.ensures
