-- The steps of a cut: where the rows that it frees begin, and zeros from the new end on.
-- Assumes nothing.
use mathlib.Core.Path.{◌≡◌, sym, ap, ◌∙◌}
use mathlib.Core.Bool.{Bool, true, false}
use mathlib.Core.List.{List}
use mathlib.Core.Option.{none, some}
use Prim.Native.Nat.{ℕ, ◌+◌, ◌-◌, ◌*◌, ◌/◌, ◌%◌, ◌≤◌, ◌<◌}
use native.Mathlib.Nat.{mod-lt}
use native.Mathlib.Omega.{arith}
use lib.Dec.{ltb}
use lib.ListN.{length}
use Rattle.words.specs.Bytes.{over, zeros}
use Rattle.words.specs.Rules.{both}
use Rattle.words.specs.Tables.{lead}
use Rattle.words.proofs.Parts.{length-zeros}
use Rattle.words.proofs.Multiples.{parts}
use Rattle.words.proofs.Written.{part-all}
use Rattle.words.proofs.Search.{lead-le}
use Rattle.volume.specs.declared.ChunkRow.{ChunkRow}
use Rattle.volume.proofs.Rounding.{up-even, up-odd}
use Rattle.volume.specs.Search.{chunk_under}
use Rattle.volume.specs.Volume.{Store, with_bytes}
use Rattle.volume.specs.Sound.{round_up}
use Rattle.tables.specs.Tables.{chunk_at}
use Rattle.tables.specs.OneRow.{is_chunk, chunk}
use Rattle.store.specs.Written.{low_of, high_of, piece_of, put, put_for}
use Rattle.store.specs.Cut.{tail_zeroed}
use Rattle.store.specs.Workable.{Workable}
use Rattle.tables.proofs.ChunkCursor.{row-yes, row-no}
use Rattle.tables.proofs.StoredRows.{Inside}
use Rattle.store.proofs.ChunkPlaces.{row-inside-found}
use Rattle.store.proofs.Shrunk.{tail-touched}
use Rattle.store.proofs.WriteChunkSteps.{put-here}

-- ---- the last chunk zeroed

module _ (n z : ℕ) (v : Store) where
  abbrev S : ℕ
  S = v.allocator.chunk_size

  abbrev tail : List ℕ
  tail = zeros (S - z % S)

  -- a hole has no byte to zero
  zeroed-hole : chunk n (z / S) v.chunks ≡ none → v ≡ tail_zeroed n z v
  unfolding tail_zeroed put put_for
  zeroed-hole gone = rw gone

  module _ (st : Workable v) where
    -- the zeros are the whole piece, from byte z % S of the chunk on
    tail-place : z % S ≡ low_of S z (z / S) - z / S * S
    tail-place = let q = parts st.size z in omega arith

    tail-piece : tail ≡ piece_of S z tail (z / S)
    tail-piece =
        let m = length-zeros (S - z % S) in
        let q = parts st.size z in
        let h = mod-lt z st.size in
        sym (part-all tail (low_of S z (z / S) - z) (high_of S z (length tail) (z / S) - low_of S z (z / S)) (omega arith) (omega arith))

    zeroed-row : (d : ChunkRow) → chunk n (z / S) v.chunks ≡ some d → with_bytes (over v.bytes (d.pointer + z % S) tail) v ≡ tail_zeroed n z v
    unfolding tail_zeroed
    zeroed-row d found = put-here v st n z tail (z / S) (tail-touched n z v st) tail-place tail-piece d found

-- ---- as code finds it: where the row of the last chunk is, or would be

module _ (n z : ℕ) (v : Store) (st : Workable v) {s : ℕ} (size : s ≡ v.allocator.chunk_size) {p : ℕ} (place : p ≡ lead (chunk_under n (z / s)) v.chunks) where
  -- the place of the first row that a cut frees, by the index of that row
  cut_at : (k q : ℕ) → round_up v.allocator.chunk_size z ≡ k → q ≡ lead (chunk_under n k) v.chunks → (q ≡ lead (chunk_under n (round_up v.allocator.chunk_size z)) v.chunks) × (q ≤ length v.chunks)
  cut_at k q u e = (rw u e, omega (arith, e, lead-le (chunk_under n k) v.chunks))

  -- it is there, where the new end lies between chunks
  pub cut-even : z % s ≡ 0 → (p ≡ lead (chunk_under n (round_up v.allocator.chunk_size z)) v.chunks) × (p ≤ length v.chunks)
  cut-even e = cut_at (z / s) p (rw size (up-even v.allocator.chunk_size z st.size (rw (← size) e))) place

  next_up : (z % s ≡ 0 → ⊥) → round_up v.allocator.chunk_size z ≡ z / s + 1
  next_up odd = rw size (up-odd v.allocator.chunk_size z st.size (rw (← size) odd))

  module _ {b : Bool} (test : b ≡ both (ltb p (length v.chunks)) (is_chunk n (z / s) (chunk_at v.chunks p))) where
    module _ (e : b ≡ true) where
      its-row : (p < length v.chunks) × ((chunk n (z / s) v.chunks ≡ some (chunk_at v.chunks p)) × (p + 1 ≡ lead (chunk_under n (z / s + 1)) v.chunks))
      its-row = row-yes n (z / s) v.chunks st.stored.order place (sym test ∙ e)

      pub tail-below : p < length v.chunks
      tail-below = its-row.0

      -- the first row that a cut frees comes behind it
      pub cut-behind : (z % s ≡ 0 → ⊥) → (p + 1 ≡ lead (chunk_under n (round_up v.allocator.chunk_size z)) v.chunks) × (p + 1 ≤ length v.chunks)
      cut-behind odd = cut_at (z / s + 1) (p + 1) (next_up odd) its-row.1.1

      module _ {d : ChunkRow} (q : d ≡ chunk_at v.chunks p) where
        found : chunk n (z / v.allocator.chunk_size) v.chunks ≡ some d
        found = rw (← size) (its-row.1.0 ∙ ap some (sym q))

        pub tail-inside : Inside v d × (z % s ≤ v.allocator.chunk_size)
        tail-inside =
            let h : z % s < v.allocator.chunk_size = rw size (mod-lt z st.size) in
            (row-inside-found v st n (z / v.allocator.chunk_size) d found, omega arith)

        pub tail-cleared : with_bytes (over v.bytes (d.pointer + z % s) (zeros (v.allocator.chunk_size - z % s))) v ≡ tail_zeroed n z v
        tail-cleared = rw size (zeroed-row n z v st d found)

    module _ (e : b ≡ false) where
      its-hole : (chunk n (z / s) v.chunks ≡ none) × (p ≡ lead (chunk_under n (z / s + 1)) v.chunks)
      its-hole = row-no n (z / s) v.chunks st.stored.order place (sym test ∙ e)

      -- the first row that a cut frees is where its row would be
      pub cut-there : (z % s ≡ 0 → ⊥) → (p ≡ lead (chunk_under n (round_up v.allocator.chunk_size z)) v.chunks) × (p ≤ length v.chunks)
      cut-there odd = cut_at (z / s + 1) p (next_up odd) its-hole.1

      pub tail-left : v ≡ tail_zeroed n z v
      tail-left = zeroed-hole n z v (rw (← size) its-hole.0)
