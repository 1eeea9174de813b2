use mathlib.Core.Path.{refl}
use Rattle.tables.proofs.ReadyVolume.{rooms, count-chunks}
use native.Mathlib.Omega.{arith}
use Rattle.files.proofs.WriteLoop.{gap-asked, opened-closed, write-start, chunk-asked, chunk-touched, write-turn, write-end}
use Rattle.files.proofs.writing.write_chunks_v2.Goals as goal

pub chunks_touched-count-requires : goal.chunks_touched-count-requires
chunks_touched-count-requires c =
    (c.requires.2, c.requires.3, c.requires.7.1)

pub open_chunks-requires : goal.open_chunks-requires
open_chunks-requires c =
    gap-asked c.args.volume.now c.args.layout c.requires.0 c.requires.7 c.args.node c.args.offset c.args.bytes.now c.requires.1 c.requires.2 refl c.chunks_touched-count.ensures.0 c.requires.6 c.requires.4 c.requires.5

pub loop-i-init : goal.loop-i-init
loop-i-init c =
    write-start c.args.volume.now c.args.layout c.requires.0 c.requires.7 c.args.node c.args.offset c.args.bytes.now c.requires.1 c.requires.2 refl c.chunks_touched-count.ensures.0 c.requires.6 c.requires.4 c.requires.5 c.open_chunks.ensures

pub overflow_add-first : goal.overflow_add-first
overflow_add-first c =
    omega (arith, c.chunks_touched-count.ensures)

pub overflow_add-place : goal.overflow_add-place
overflow_add-place c =
    omega (arith, c.loop-i.invariant.gapped.inside, rooms c.loop-i.volume c.args.layout c.loop-i.invariant.gapped.ready, count-chunks c.loop-i.volume)

pub write_chunk-gap-requires : goal.write_chunk-gap-requires
write_chunk-gap-requires c =
    record { gapped = chunk-asked c.loop-i.invariant (omega arith); touched = chunk-touched c.loop-i.invariant (omega arith) c.requires.3 }

pub loop-i-preserved : goal.loop-i-preserved
loop-i-preserved c =
    write-turn c.loop-i.invariant (omega arith) c.write_chunk-gap.ensures

pub returns : goal.returns
returns c =
    write-end c.loop-i.invariant (omega arith) (opened-closed c.args.volume.now c.args.layout c.requires.0 c.requires.7 c.args.node c.args.offset c.args.bytes.now c.requires.1 c.requires.2 refl c.chunks_touched-count.ensures.0 c.requires.6 c.requires.4 c.requires.5 c.open_chunks.ensures)
