-- Bytes put into a chunk that is there, whose row stands behind the gap: the row goes to the gap's first place.
-- Assumes nothing.
use mathlib.Core.Path.{◌≡◌, refl, ◌∙◌}
use mathlib.Core.List.{List, []}
use Prim.Native.Nat.{ℕ, ◌+◌, ◌≤◌, ◌<◌}
use native.Mathlib.Omega.{arith}
use lib.ListN.{length, set, length-set}
use Rattle.words.specs.Bytes.{over}
use Rattle.words.proofs.Order.{each_at, each_set}
use Rattle.words.proofs.Parts.{length_over}
use Rattle.volume.specs.declared.ChunkRow.{ChunkRow}
use Rattle.volume.specs.declared.Layout.{Layout}
use Rattle.volume.specs.Framed.{ChunkFits, StoreFits}
use Rattle.volume.specs.Rows.{read_chunk}
use Rattle.volume.specs.Volume.{Volume, shown, laid, with_chunks, with_bytes, on_store}
use Rattle.volume.proofs.Framed.{fits-chunks, fits-bytes}
use Rattle.tables.specs.Tables.{Ready, chunk_at}
use Rattle.tables.proofs.ReadyVolume.{store_step}
use Rattle.files.specs.Gap.{closed, Gapped}
use Rattle.files.proofs.Gap.{without-none, without-kept}

module _ {l : List ℕ} {y : Layout} {p g : ℕ} (q : Gapped l y p g) (there : p + g < length (shown l).store.chunks) (at : ℕ) (bs : List ℕ)
    (inside : (chunk_at (shown l).store.chunks (p + g)).pointer + (shown l).store.allocator.chunk_size ≤ length (shown l).store.bytes) (short : at + length bs ≤ (shown l).store.allocator.chunk_size) where
  abbrev v : Volume
  v = shown l

  abbrev row : ChunkRow
  row = chunk_at v.store.chunks (p + g)

  -- the volume with the bytes, with the row at its new place, and without the gap
  abbrev v₁ : Volume
  v₁ = on_store (with_bytes (over v.store.bytes (row.pointer + at) bs)) v

  abbrev v₂ : Volume
  v₂ = on_store (with_chunks (set v.store.chunks p row)) v₁

  abbrev Done : List ℕ → Type 0
  Done m = Gapped m y (p + 1) g × (closed (p + 1) g m ≡ on_store (with_bytes (over v.store.bytes (row.pointer + at) bs)) (closed p g l))

  -- what `put_piece` asks
  pub put-asked : {c : ChunkRow} → c ≡ row → Ready l y × (c.pointer + at + length bs ≤ length v.store.bytes)
  put-asked e = (q.ready, rw e (omega arith))

  fits₁ : StoreFits v₁.store
  fits₁ = fits-bytes v.store q.ready.formed.fits.store v₁.store.bytes (length_over v.store.bytes (row.pointer + at) bs (omega arith))

  fits₂ : StoreFits v₂.store
  fits₂ =
      let f = q.ready.formed.fits.store in
      fits-chunks v₁.store fits₁ v₂.store.chunks (rw (length-set v.store.chunks p row) f.chunks)
      (each_set ChunkFits v.store.chunks p row f.chunk_rows (each_at ChunkFits v.store.chunks (p + g) (read_chunk []) f.chunk_rows there))

  module _ {c : ChunkRow} (e : c ≡ row) {m : List ℕ} (em : m ≡ laid (on_store (with_bytes (over v.store.bytes (c.pointer + at) bs)) v)) where
    step₁ : (shown m ≡ v₁) × Ready m y
    step₁ = store_step q.ready v₁.store fits₁ refl (em ∙ rw e)

    -- what `change_chunk` asks
    pub kept-asked : Ready m y × (p < length (shown m).store.chunks)
    kept-asked = (step₁.1, rw step₁.0 (omega arith))

    -- without a gap the row is in its place
    pub kept-stays : g ≡ 0 → Done m
    kept-stays z = (record { ready = step₁.1; inside = rw step₁.0 (omega arith) }, rw (step₁.0, z, without-none (p + 1), without-none p))

    pub kept-moves : {o : List ℕ} → o ≡ laid (on_store (with_chunks (set (shown m).store.chunks p c)) (shown m)) → Done o
    kept-moves {o} eo =
        let x = store_step q.ready v₂.store fits₂ refl (eo ∙ rw (step₁.0, e)) in
        (record { ready = x.1; inside = rw (x.0, length-set v.store.chunks p row) (omega arith) }, rw (x.0, without-kept p g v.store.chunks there))
