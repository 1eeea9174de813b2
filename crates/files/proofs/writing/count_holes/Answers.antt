use borrow.Author.Rules.{rules}
use Rattle.words.proofs.Search.{lead-le}
use Rattle.volume.specs.Search.{chunk_under}
use Prim.Native.Nat.{◌+◌, ◌/◌}
use native.Mathlib.Omega.{arith}
use Rattle.store.proofs.Holes.{rows-most, holes-counted}
use Rattle.store.proofs.RoomSteps.{holes-are}
use Rattle.files.proofs.writing.count_holes.Goals as goal

pub count_leading-rows-requires-clause-inside : goal.count_leading-rows-requires-clause-inside
count_leading-rows-requires-clause-inside c =
    omega (arith, c.requires.3, lead-le (chunk_under c.args.node (c.args.offset / c.args.span)) c.args.tables.now.store.chunks)

pub overflow_sub-result : goal.overflow_sub-result
overflow_sub-result c =
    rows-most c.args.node c.args.tables.now.store.chunks c.requires.0.stored.order c.chunks_touched-touched.result (c.args.offset / c.args.span) c.requires.3 (c.count_leading-rows.ensures (chunk_under c.args.node (c.args.offset / c.args.span + c.chunks_touched-touched.result)) (λ row b k. search rules))

pub returns : goal.returns
returns c =
    holes-are c.args.tables.now.store c.args.node c.args.offset c.args.count c.requires.4.0 c.chunks_touched-touched.ensures.0 (holes-counted c.args.node c.args.tables.now.store.chunks c.requires.0.stored.order c.chunks_touched-touched.result (c.args.offset / c.args.span) c.requires.3 (c.count_leading-rows.ensures (chunk_under c.args.node (c.args.offset / c.args.span + c.chunks_touched-touched.result)) (λ row b k. search rules)))
