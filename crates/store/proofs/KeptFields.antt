-- What a write leaves of a volume: all but the chunk rows, the free count, the next pointer and the chunk area. And that it still fits.
-- Assumes nothing.
use mathlib.Core.Path.{◌≡◌, refl, ap, ◌∙◌}
use mathlib.Core.List.{List}
use mathlib.Core.Option.{Option, none, some}
use Prim.Native.Nat.{ℕ, zero, suc, ◌*◌, ◌^◌, ◌≤◌, ◌<◌}
use native.Mathlib.Nat.{mul-le-mul}
use native.Mathlib.Omega.{arith}
use lib.ListN.{length}
use Rattle.words.specs.Tables.{Each, lead, insert_at}
use Rattle.words.proofs.Order.{each-insert}
use Rattle.allocator.specs.Allocator.{allocate, words_of}
use Rattle.allocator.proofs.Sizes.{accepted-bounds}
use Rattle.allocator.proofs.Laid.{WordsFit}
use Rattle.allocator.proofs.Allocated.{Rest, allocate-rest, allocate-count}
use Rattle.volume.specs.declared.ChunkRow.{ChunkRow}
use Rattle.volume.specs.Search.{chunk_under}
use Rattle.volume.specs.Volume.{Store, with_allocator, with_chunks}
use Rattle.tables.specs.OneRow.{chunk}
use Rattle.volume.specs.Framed.{ChunkFits, StoreFits}
use Rattle.volume.proofs.Framed.{fits-allocator, fits-chunks, fits-bytes}
use Rattle.store.specs.Room.{room}
use Rattle.store.specs.Taken.{taken, ensured}
use Rattle.store.specs.Written.{put, put_for, write_chunk, write_chunks, written}
use Rattle.store.specs.Workable.{Workable}
use Rattle.store.proofs.Taken.{ensured-cases, new_row, given_below, taken-long, taken-stored}

pub record Kept (v w : Store) : Type 0 where
  pub chunk_room : w.chunk_room ≡ v.chunk_room
  pub rest : Rest v.allocator w.allocator

kept_same : (v : Store) → Kept v v
kept_same v = record { chunk_room = refl; rest = record { mark = refl; size = refl; unread = refl; words = refl } }

pub kept-twice : {u v w : Store} → Kept u v → Kept v w → Kept u w
kept-twice a b = record {
  chunk_room = b.chunk_room ∙ a.chunk_room;
  rest = record { mark = b.rest.mark ∙ a.rest.mark; size = b.rest.size ∙ a.rest.size; unread = b.rest.unread ∙ a.rest.unread; words = b.rest.words ∙ a.rest.words };
}

pub kept-taken : (n k : ℕ) (v : Store) → Kept v (taken n k v)
unfolding taken
kept-taken n k v = record { chunk_room = refl; rest = allocate-rest v.allocator }

module _ (n offset : ℕ) (bs : List ℕ) where
  pub kept_put : (k : ℕ) (v : Store) → Kept v (put n offset bs k v)
  unfolding put put_for
  kept_put k v = go (chunk n k v.chunks)
    where
      go : (o : Option ChunkRow) → Kept v (put_for o offset bs k v)
      go none = kept_same v
      go (some c) = record { chunk_room = refl; rest = record { mark = refl; size = refl; unread = refl; words = refl } }

  pub kept-write_chunk : (k : ℕ) (v : Store) → Kept v (write_chunk n offset bs k v)
  unfolding write_chunk
  kept-write_chunk k v = kept-twice (ensured-cases n k v (Kept v) (λ e. kept-taken n k v) (λ c e. kept_same v)) (kept_put k (ensured n k v))

  pub kept-write_chunks : (c k : ℕ) (v : Store) → Kept v (write_chunks n offset bs c k v)
  unfolding write_chunks
  kept-write_chunks zero k v = kept_same v
  kept-write_chunks (suc c) k v = kept-twice (kept-write_chunk k v) (kept-write_chunks c (suc k) (write_chunk n offset bs k v))

  pub kept-written : (v : Store) → Kept v (written n offset bs v)
  unfolding written
  kept-written v = kept-write_chunks _ _ v

-- ---- a chunk taken fits

module _ (v : Store) (f : StoreFits v) (st : Workable v) (n k : ℕ) (node : n < 2 ^ 64) (index : k < 2 ^ 64) (some-room : 1 ≤ room v) (gap : chunk n k v.chunks ≡ none) where
  next_small : (allocate v.allocator).after.next_ptr < 2 ^ 64
  unfolding taken
  next_small =
      let m = mul-le-mul f.chunk_room.1 (accepted-bounds v.allocator.chunk_size f.size).1 in
      let e : (allocate v.allocator).after.next_ptr ≤ v.chunk_room * v.allocator.chunk_size = rw (allocate-rest v.allocator).size at (taken-stored v st some-room n k gap).stored.enough in
      omega arith

  after-fits : WordsFit (allocate v.allocator).after
  unfolding words_of Each
  after-fits =
      let r = allocate-rest v.allocator in
      let s = f.small in
      record {
        twelve = ap length r.unread ∙ f.twelve;
        small = (rw r.mark s.0, (rw r.size s.1.0, (omega (arith, allocate-count v.allocator, s.1.1.0), (next_small, rw (r.unread, r.words) s.1.1.1.1))));
      }

  pub fits-taken : StoreFits (taken n k v)
  unfolding taken
  fits-taken =
      let r = allocate-rest v.allocator in
      let s = taken-stored v st some-room n k gap in
      let a = fits-allocator v f (allocate v.allocator).after (r.mark ∙ f.mark) after-fits (ap length r.words ∙ f.words) (rw r.size f.size) s.frees in
      let row : ChunkFits (new_row n k v) = record { node = node; index = index; pointer = omega (arith, given_below v st some-room, next_small) } in
      let cs = insert_at (lead (chunk_under n k) v.chunks) (new_row n k v) v.chunks in
      let c = fits-chunks (with_allocator (allocate v.allocator).after v) a cs s.rows (each-insert ChunkFits (lead (chunk_under n k) v.chunks) (new_row n k v) v.chunks row f.chunk_rows) in
      fits-bytes (with_chunks cs (with_allocator (allocate v.allocator).after v)) c (taken n k v).bytes (taken-long v st some-room n k)
