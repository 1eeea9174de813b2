use borrow.Author.Rules.{rules}
use native.Mathlib.Omega.{arith}
use Prim.Native.Nat.{◌-◌}
use Rattle.allocator.proofs.Sizes.{accepted-bounds}
use Rattle.tables.proofs.ReadyVolume.{fits-of}
use Rattle.store.proofs.RoomSteps.{room-is, room_small}
use Rattle.files.proofs.chunks.count_room.Goals as goal

pub overflow_add-chunks : goal.overflow_add-chunks
overflow_add-chunks c =
    record { fits = room_small (c.area_size.result - c.max_ptr.result) c.args.span c.free_count.result (search rules) (omega (arith, c.requires.0.0, accepted-bounds c.args.tables.now.store.allocator.chunk_size (fits-of c.tables.invariant c.tables.view_is).store.size)) c.free_count.ensures.1 }

pub returns : goal.returns
returns c =
    room-is c.args.tables.now.store c.chunk_room.ensures.0 c.chunks_used.ensures.0 c.area_size.ensures c.max_ptr.ensures c.free_count.ensures.0 c.requires.0.0 c.min.ensures
