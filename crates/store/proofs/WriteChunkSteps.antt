-- What falls into one chunk, written: into the chunk that is there, or into a chunk taken.
-- Assumes nothing.
use mathlib.Core.Path.{◌≡◌, refl, sym, ap, ◌∙◌}
use mathlib.Core.Bool.{Bool, true, false}
use mathlib.Core.List.{List}
use mathlib.Core.Option.{none, some}
use Prim.Native.Nat.{ℕ, ◌+◌, ◌-◌, ◌*◌, ◌≤◌, ◌<◌}
use native.Mathlib.Omega.{arith}
use lib.Dec.{ltb}
use lib.ListN.{length, take, drop}
use Rattle.words.specs.Bytes.{part, over}
use Rattle.words.specs.Rules.{both}
use Rattle.words.specs.Tables.{lead}
use Rattle.words.proofs.Written.{length-lent}
use Rattle.allocator.specs.Allocator.{allocate}
use Rattle.volume.specs.declared.ChunkRow.{ChunkRow}
use Rattle.volume.specs.Search.{chunk_under}
use Rattle.volume.specs.Volume.{Store, with_bytes}
use Rattle.tables.specs.Tables.{chunk_at}
use Rattle.tables.specs.OneRow.{is_chunk, chunk}
use Rattle.store.specs.Room.{room, hole}
use Rattle.store.specs.Taken.{taken, ensured, ensured_for}
use Rattle.store.specs.Written.{low_of, high_of, piece_of, put, write_chunk}
use Rattle.store.specs.Workable.{Workable}
use Rattle.tables.proofs.ChunkCursor.{row-yes, row-no}
use Rattle.store.proofs.KeptFields.{kept-taken}
use Rattle.store.proofs.Put.{Touched, put_is}
use Rattle.tables.proofs.StoredRows.{Inside}
use Rattle.store.proofs.ChunkPlaces.{row-inside-found}
use Rattle.store.proofs.Taken.{new_row, taken_here, taken-stored}

-- the part of the bytes that is lent, as a part
lent-piece : (s offset : ℕ) (bs : List ℕ) (k : ℕ) {start count : ℕ} → start ≡ low_of s offset k - offset → count ≡ high_of s offset (length bs) k - low_of s offset k → take (start + count - start) (drop start bs) ≡ piece_of s offset bs k
lent-piece s offset bs k {start} {count} e f =
    let w : start + count - start ≡ count = omega arith in
    rw (w, e, f) (unfold part in refl)

-- the piece put into its chunk
module _ (v : Store) (st : Workable v) (n offset : ℕ) (bs : List ℕ) (k : ℕ) (t : Touched v.allocator.chunk_size offset (length bs) k) {from : ℕ} {piece : List ℕ}
    (at : from ≡ low_of v.allocator.chunk_size offset k - k * v.allocator.chunk_size) (e : piece ≡ piece_of v.allocator.chunk_size offset bs k) where
  -- there is a row
  pub put-here : (c : ChunkRow) → chunk n k v.chunks ≡ some c → with_bytes (over v.bytes (c.pointer + from) piece) v ≡ put n offset bs k v
  put-here c found = rw (put_is v st n offset bs k t c found, at, e)

  write-here : (c : ChunkRow) → chunk n k v.chunks ≡ some c → with_bytes (over v.bytes (c.pointer + from) piece) v ≡ write_chunk n offset bs k v
  unfolding write_chunk ensured ensured_for
  write-here c found = rw found (put-here c found)

  -- there is none
  write-taken : 1 ≤ room v → chunk n k v.chunks ≡ none → with_bytes (over (taken n k v).bytes ((allocate v.allocator).pointer + from) piece) (taken n k v) ≡ write_chunk n offset bs k v
  unfolding write_chunk ensured ensured_for
  write-taken one gone =
      let z = (kept-taken n k v).rest.size in
      let u : Touched (taken n k v).allocator.chunk_size offset (length bs) k = rw z t in
      rw (gone, put_is (taken n k v) (taken-stored v st one n k gone) n offset bs k u (new_row n k v) (taken_here v st one n k gone), z, at, e)

-- where the piece lies
abbrev pub PieceLies : ℕ → ℕ → ℕ → ℕ → ℕ → ℕ → ℕ → Type 0
PieceLies s offset len k from start count = (from ≡ low_of s offset k - k * s) × (start ≡ low_of s offset k - offset) × (count ≡ high_of s offset len k - low_of s offset k)

module _ (v : Store) (st : Workable v) (n offset : ℕ) (bs : List ℕ) (k row : ℕ) (at : row ≡ lead (chunk_under n k) v.chunks) (t : Touched v.allocator.chunk_size offset (length bs) k) {s from start count : ℕ}
    (size : (s ≡ v.allocator.chunk_size) × (0 < s) × (s ≤ 65536)) (cut : PieceLies s offset (length bs) k from start count) where
  abbrev S : ℕ
  S = v.allocator.chunk_size

  cut-there : PieceLies S offset (length bs) k from start count
  cut-there = rw size.0 at cut

  pub piece-ends : start + count ≤ length bs
  piece-ends = omega (arith, cut-there, t.before, t.behind)

  abbrev lent : List ℕ
  lent = take (start + count - start) (drop start bs)

  pub piece-room : from + length lent ≤ S
  piece-room = rw (length-lent bs start count piece-ends) (omega (arith, cut-there, t.before, t.behind))

  module _ {b : Bool} (hit : b ≡ both (ltb row (length v.chunks)) (is_chunk n k (chunk_at v.chunks row))) where
    -- there is a row
    module _ (e : b ≡ true) {c : ChunkRow} (q : c ≡ chunk_at v.chunks row) where
      found : chunk n k v.chunks ≡ some c
      found = (row-yes n k v.chunks st.stored.order at (sym hit ∙ e)).1.0 ∙ ap some (sym q)

      pub no-hole : hole (chunk n k v.chunks) ≡ 0
      no-hole = ap hole found

      pub its-inside : Inside v c
      its-inside = row-inside-found v st n k c found

      pub piece-written : with_bytes (over v.bytes (c.pointer + from) lent) v ≡ write_chunk n offset bs k v
      piece-written = write-here v st n offset bs k t cut-there.0 (lent-piece S offset bs k cut-there.1 cut-there.2) c found

    -- there is none
    module _ (e : b ≡ false) where
      pub row-missing : chunk n k v.chunks ≡ none
      row-missing = (row-no n k v.chunks st.stored.order at (sym hit ∙ e)).0

      module _ (enough : hole (chunk n k v.chunks) ≤ room v) where
        pub room-there : 1 ≤ room v
        room-there = rw row-missing at enough

        pub chunk-written : with_bytes (over (taken n k v).bytes ((allocate v.allocator).pointer + from) lent) (taken n k v) ≡ write_chunk n offset bs k v
        chunk-written = write-taken v st n offset bs k t cut-there.0 (lent-piece S offset bs k cut-there.1 cut-there.2) room-there row-missing
