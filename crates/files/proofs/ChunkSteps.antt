-- What falls into one chunk, written into a volume with a gap for new rows: into the chunk whose row is behind the gap, or into a chunk taken.
-- Assumes nothing.
use mathlib.Core.Path.{◌≡◌, sym, ap, ◌∙◌}
use mathlib.Core.Bool.{Bool, true, false}
use mathlib.Core.List.{List}
use mathlib.Core.Option.{none}
use Prim.Native.Nat.{ℕ, ◌+◌, ◌-◌, ◌≤◌, ◌<◌}
use native.Mathlib.Omega.{arith}
use lib.Dec.{ltb}
use lib.ListN.{length, take, drop}
use Rattle.words.specs.Bytes.{over}
use Rattle.words.specs.Rules.{both}
use Rattle.words.specs.Tables.{lead}
use Rattle.allocator.specs.Allocator.{allocate}
use Rattle.volume.specs.declared.ChunkRow.{ChunkRow}
use Rattle.volume.specs.declared.Layout.{Layout}
use Rattle.volume.specs.Search.{chunk_under}
use Rattle.volume.specs.Volume.{Store, shown, with_bytes, on_store, with_store}
use Rattle.tables.specs.Tables.{chunk_at}
use Rattle.tables.specs.OneRow.{is_chunk, chunk}
use Rattle.tables.proofs.ChunkCursor.{row-yes}
use Rattle.store.specs.Room.{room, hole}
use Rattle.store.specs.Taken.{taken}
use Rattle.store.specs.Workable.{Workable}
use Rattle.store.specs.Written.{write_chunk}
use Rattle.store.proofs.Put.{Touched}
use Rattle.store.proofs.WriteChunkSteps.{PieceLies, piece-room, no-hole, its-inside, piece-written, row-missing, room-there, chunk-written}
use Rattle.files.specs.FileRows.{IsSpan}
use Rattle.files.specs.Gap.{closed, Gapped}
use Rattle.files.proofs.Gap.{length_without, row-behind, test-behind}

module _ {l : List ℕ} {y : Layout} {p g : ℕ} (q : Gapped l y p g) (st : Workable (closed p g l).store) (n offset : ℕ) (bs : List ℕ) (k : ℕ) (at : p ≡ lead (chunk_under n k) (closed p g l).store.chunks)
    (t : Touched (shown l).store.allocator.chunk_size offset (length bs) k) {s from start count : ℕ} (size : IsSpan (shown l).store s) (cut : PieceLies s offset (length bs) k from start count) where
  abbrev w : Store
  w = (closed p g l).store

  abbrev cs : List ChunkRow
  cs = (shown l).store.chunks

  abbrev lent : List ℕ
  lent = take (start + count - start) (drop start bs)

  module _ {b : Bool} (test : b ≡ both (ltb (p + g) (length cs)) (is_chunk n k (chunk_at cs (p + g)))) where
    hit : b ≡ both (ltb p (length w.chunks)) (is_chunk n k (chunk_at w.chunks p))
    hit = test ∙ test-behind p g cs q.inside n k

    -- there is a row
    module _ (e : b ≡ true) where
      its-row : chunk_at cs (p + g) ≡ chunk_at w.chunks p
      its-row = sym (row-behind p g cs q.inside)

      -- what `keep_chunk` asks
      pub keep-asked : Gapped l y p g × (p + g < length cs) × ((chunk_at cs (p + g)).pointer + (shown l).store.allocator.chunk_size ≤ length (shown l).store.bytes) × (from + length lent ≤ (shown l).store.allocator.chunk_size)
      keep-asked = (
        q,
        omega (arith, (row-yes n k w.chunks st.stored.order at (sym hit ∙ e)).0, length_without p g cs q.inside, q.inside),
        its-inside w st n offset bs k p at t size cut hit e its-row,
        piece-room w st n offset bs k p at t size cut,
      )

      pub chunk_kept : {m : List ℕ} → Gapped m y (p + 1) g × (closed (p + 1) g m ≡ on_store (with_bytes (over (shown l).store.bytes ((chunk_at cs (p + g)).pointer + from) lent)) (closed p g l))
          → (g ≡ g - hole (chunk n k w.chunks)) × Gapped m y (p + 1) g × (closed (p + 1) g m ≡ on_store (write_chunk n offset bs k) (closed p g l))
      chunk_kept h = (omega (arith, no-hole w st n offset bs k p at t size cut hit e its-row), h.0, h.1 ∙ ap (λ (x : Store). with_store x (shown l)) (piece-written w st n offset bs k p at t size cut hit e its-row))

    -- there is none
    module _ (e : b ≡ false) (enough : hole (chunk n k w.chunks) ≤ room w) where
      its-hole : chunk n k w.chunks ≡ none
      its-hole = row-missing w st n offset bs k p at t size cut hit e

      -- what `take_chunk` asks
      pub take-asked : hole (chunk n k w.chunks) ≤ g → Gapped l y p g × Workable w × (1 ≤ g) × (p ≡ lead (chunk_under n k) w.chunks) × (chunk n k w.chunks ≡ none) × (1 ≤ room w) × (from + length lent ≤ (shown l).store.allocator.chunk_size) × IsSpan (shown l).store s
      take-asked left = (q, st, rw its-hole at left, at, its-hole, room-there w st n offset bs k p at t size cut hit e enough, piece-room w st n offset bs k p at t size cut, size)

      pub chunk-taken : {m : List ℕ} {r : ℕ} → (r ≡ g - 1) × Gapped m y (p + 1) r × (closed (p + 1) r m ≡ on_store (with_bytes (over (taken n k w).bytes ((allocate (shown l).store.allocator).pointer + from) lent)) (on_store (taken n k) (closed p g l)))
          → (r ≡ g - hole (chunk n k w.chunks)) × Gapped m y (p + 1) r × (closed (p + 1) r m ≡ on_store (write_chunk n offset bs k) (closed p g l))
      chunk-taken h = (rw its-hole h.0, h.1, h.2 ∙ ap (λ (x : Store). with_store x (shown l)) (chunk-written w st n offset bs k p at t size cut hit e enough))
