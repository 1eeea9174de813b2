-- The loop that writes chunk after chunk into a volume with a gap for the rows of the new ones.
-- Assumes nothing.
use mathlib.Core.Path.{◌≡◌, refl, sym, ap, ◌∙◌, subst}
use mathlib.Core.List.{List, [], ◌++◌}
use Prim.Native.Nat.{ℕ, zero, suc, ◌+◌, ◌-◌, ◌*◌, ◌/◌, ◌≤◌, ◌<◌}
use native.Mathlib.Nat.{add-zero, sub-zero}
use native.Mathlib.Omega.{arith}
use lib.ListN.{length, take, drop, replicate, length-replicate}
use Rattle.words.specs.Bytes.{num, part, little_endian}
use Rattle.words.specs.Tables.{Each, lead}
use Rattle.words.proofs.Order.{each_append, each_take, each-drop}
use Rattle.words.proofs.Search.{lead-le}
use Rattle.words.proofs.Tables.{length_inserted}
use Rattle.volume.specs.declared.ChunkRow.{ChunkRow}
use Rattle.volume.specs.declared.Layout.{Layout}
use Rattle.volume.specs.Framed.{ChunkFits, StoreFits}
use Rattle.volume.specs.Rows.{read_chunk}
use Rattle.volume.specs.Search.{chunk_under}
use Rattle.volume.specs.Volume.{Volume, shown, laid, with_chunks, on_store}
use Rattle.volume.proofs.Framed.{fits-chunks}
use Rattle.tables.specs.Tables.{Ready}
use Rattle.tables.specs.OneRow.{chunk}
use Rattle.tables.proofs.ReadyVolume.{store_step}
use Rattle.store.specs.Room.{room, hole, missing, num_of, holes}
use Rattle.store.specs.Written.{write_chunk, write_chunks, written}
use Rattle.store.specs.Workable.{Workable}
use Rattle.files.specs.FileRows.{IsSpan}
use Rattle.files.specs.Gap.{closed, Gapped}
use Rattle.store.proofs.KeptFields.{kept-write_chunk}
use Rattle.store.proofs.Put.{Touched}
use Rattle.store.proofs.Written.{written-writable}
use Rattle.store.proofs.WriteChunks.{Writable, first-touched, first-enough, first-writes, next-missing, next-writable}
use Rattle.files.proofs.Gap.{without-none, without-opened}

-- ---- rows of zeros

blank-fits : ChunkFits (read_chunk [])
unfolding read_chunk num part little_endian
blank-fits = record { node = omega arith; index = omega arith; pointer = omega arith }

blanks-fit : (n : ℕ) → Each ChunkFits (replicate n (read_chunk []))
unfolding Each
blanks-fit zero = tt
blanks-fit (suc n) = (blank-fits, blanks-fit n)

-- ---- the loop

write_chunks-first : (n offset : ℕ) (bs : List ℕ) (c k : ℕ) (v : Volume) → on_store (write_chunks n offset bs (suc c) k) v ≡ on_store (write_chunks n offset bs c (suc k)) (on_store (write_chunk n offset bs k) v)
unfolding write_chunks
write_chunks-first n offset bs c k v = refl

-- what is left to write when i of so many chunks are written and the volume is u but for the gap
pub record LeftToWrite (v : Volume) (n offset : ℕ) (bs : List ℕ) (first count row i gap : ℕ) (u : Volume) : Type 0 where
  pub rest : Writable n offset bs (count - i) (first + i) u.store
  pub next : row + i ≡ lead (chunk_under n (first + i)) u.store.chunks
  pub holes_left : gap ≡ missing n (count - i) (first + i) u.store.chunks
  pub all : on_store (write_chunks n offset bs (count - i) (first + i)) u ≡ on_store (written n offset bs) v

pub record WroteTo (v : Volume) (y : Layout) (s n offset : ℕ) (bs : List ℕ) (first count row : ℕ) (l : List ℕ) (i gap : ℕ) : Type 0 where
  pub gapped : Gapped l y (row + i) gap
  pub span : IsSpan (shown l).store s
  pub left : LeftToWrite v n offset bs first count row i gap (closed (row + i) gap l)

-- ---- its start: the gap opened

module _ (l₀ : List ℕ) (y : Layout) (r : Ready l₀ y) {s : ℕ} (size : IsSpan (shown l₀).store s) (n offset : ℕ) (bs : List ℕ) (st : Workable (shown l₀).store) (some_bytes : 0 < length bs) {first count row gap : ℕ} (ef : first ≡ offset / s)
    (ec : count ≡ num_of s offset (length bs)) (er : row ≡ lead (chunk_under n (offset / s)) (shown l₀).store.chunks) (eg : gap ≡ holes n offset (length bs) (shown l₀).store) (enough : gap ≤ room (shown l₀).store) where
  abbrev v : Volume
  v = shown l₀

  abbrev cs : List ChunkRow
  cs = v.store.chunks

  row_inside : row ≤ length cs
  row_inside = rw er (lead-le (chunk_under n (offset / s)) cs)

  rows_fit : length cs + gap ≤ v.store.chunk_room
  unfolding room
  rows_fit = omega (arith, enough, st.rows)

  -- what `open_chunks` asks
  pub gap-asked : Ready l₀ y × (row ≤ length cs) × (length cs + gap ≤ v.store.chunk_room)
  gap-asked = (r, row_inside, rows_fit)

  first-left : LeftToWrite v n offset bs first count row 0 gap v
  first-left =
      let w = written-writable v.store st n offset bs some_bytes (rw eg at enough) in
      let f : first ≡ offset / v.store.allocator.chunk_size = ef ∙ rw size.0 in
      let c : count ≡ num_of v.store.allocator.chunk_size offset (length bs) = ec ∙ rw size.0 in
      record {
        rest = rw (sub-zero, add-zero, f, c) w;
        next = rw (add-zero row, add-zero first, ef) er;
        holes_left = rw (sub-zero, add-zero, f, c) (unfold holes in eg);
        all = rw (sub-zero, add-zero, f, c) (unfold written in refl);
      }

  abbrev opened : List ChunkRow
  opened = take row cs ++ (replicate gap (read_chunk []) ++ drop row cs)

  length-opened : length opened ≡ length cs + gap
  length-opened = length_inserted row (replicate gap (read_chunk [])) cs row_inside ∙ rw length-replicate

  opened-fits : StoreFits (with_chunks opened v.store)
  opened-fits =
      let f = r.formed.fits.store in
      fits-chunks v.store f opened (rw length-opened rows_fit)
      (each_append ChunkFits (take row cs) (replicate gap (read_chunk []) ++ drop row cs) (each_take ChunkFits row cs f.chunk_rows) (each_append ChunkFits (replicate gap (read_chunk [])) (drop row cs) (blanks-fit gap) (each-drop ChunkFits row cs f.chunk_rows)))

  module _ {m : List ℕ} (e : m ≡ laid (on_store (with_chunks opened) v)) where
    after : (shown m ≡ on_store (with_chunks opened) v) × Ready m y
    after = store_step r (with_chunks opened v.store) opened-fits refl e

    pub opened-closed : closed row gap m ≡ v
    opened-closed = rw (after.0, without-opened row gap (read_chunk []) cs row_inside)

    pub write-start : WroteTo (closed row gap m) y s n offset bs first count row m 0 gap
    write-start =
        let here : LeftToWrite (closed row gap m) n offset bs first count row 0 gap (closed row gap m) = subst (λ (u : Volume). LeftToWrite u n offset bs first count row 0 gap u) (sym opened-closed) first-left in
        record {
          gapped = record { ready = after.1; inside = rw (after.0, length-opened) (omega (arith, row_inside)) };
          span = rw after.0 size;
          left = rw (add-zero row) here;
        }

-- ---- its turns, and its end

module _ {v : Volume} {y : Layout} {s n offset : ℕ} {bs : List ℕ} {first count row i gap : ℕ} {l : List ℕ} (inv : WroteTo v y s n offset bs first count row l i gap) where
  abbrev u : Volume
  u = closed (row + i) gap l

  module _ (more : i < count) where
    again : Writable n offset bs (suc (count - (i + 1))) (first + i) u.store
    again = let e : count - i ≡ suc (count - (i + 1)) = omega arith in rw e at inv.left.rest

    touched : Touched u.store.allocator.chunk_size offset (length bs) (first + i)
    touched = first-touched n offset bs (count - (i + 1)) (first + i) u.store again

    holes-first : gap ≡ hole (chunk n (first + i) u.store.chunks) + missing n (count - (i + 1)) (suc (first + i)) u.store.chunks
    unfolding missing
    holes-first = let e : count - i ≡ suc (count - (i + 1)) = omega arith in rw e at inv.left.holes_left

    -- what `write_chunk` asks
    pub chunk-asked : Gapped l y (row + i) gap × Workable u.store × (row + i ≡ lead (chunk_under n (first + i)) u.store.chunks) × (hole (chunk n (first + i) u.store.chunks) ≤ room u.store) × (hole (chunk n (first + i) u.store.chunks) ≤ gap) × IsSpan (shown l).store s
    chunk-asked = (inv.gapped, inv.left.rest.stored, inv.left.next, first-enough n offset bs (count - (i + 1)) (first + i) u.store again, omega (arith, holes-first), inv.span)

    pub chunk-touched : offset + length bs ≤ 1099511627776
        → (offset < (first + i) * (shown l).store.allocator.chunk_size + (shown l).store.allocator.chunk_size) × ((first + i) * (shown l).store.allocator.chunk_size < offset + length bs) × (offset + length bs ≤ 1099511627776)
    chunk-touched end = (touched.before, touched.behind, end)

    next-left : (g : ℕ) → g ≡ gap - hole (chunk n (first + i) u.store.chunks) → LeftToWrite v n offset bs first count row (i + 1) g (on_store (write_chunk n offset bs (first + i)) u)
    next-left g eg =
        let k = first + i in
        let x = first-writes n offset bs (count - (i + 1)) k u.store again in
        let b : first + (i + 1) ≡ suc k = omega arith in
        let d : k + 1 ≡ first + (i + 1) = omega arith in
        let c : count - i ≡ suc (count - (i + 1)) = omega arith in
        let a : on_store (write_chunks n offset bs (suc (count - (i + 1))) k) u ≡ on_store (written n offset bs) v = rw c at inv.left.all in
        record {
          rest = rw b (next-writable n offset bs (count - (i + 1)) k u.store again);
          next = rw (← d) (omega (arith, inv.left.next, x.place));
          holes_left = rw b (omega (arith, holes-first, next-missing (count - (i + 1)) x));
          all = rw b (sym (write_chunks-first n offset bs (count - (i + 1)) k u) ∙ a);
        }

    pub write-turn : {m : List ℕ} {g : ℕ} → (g ≡ gap - hole (chunk n (first + i) u.store.chunks)) × Gapped m y (row + i + 1) g × (closed (row + i + 1) g m ≡ on_store (write_chunk n offset bs (first + i)) u) → WroteTo v y s n offset bs first count row m (i + 1) g
    write-turn {m} {g} e =
        let z : (shown m).store.allocator.chunk_size ≡ (shown l).store.allocator.chunk_size = ap (λ (w : Volume). w.store.allocator.chunk_size) e.2 ∙ (kept-write_chunk n offset bs (first + i) u.store).rest.size in
        let d : row + i + 1 ≡ row + (i + 1) = omega arith in
        record {
          gapped = rw d at e.1;
          span = rw z inv.span;
          left = subst (LeftToWrite v n offset bs first count row (i + 1) g) (sym (rw d at e.2)) (next-left g e.0);
        }

  pub write-end : count ≤ i → {v₀ : Volume} → v ≡ v₀ → l ≡ laid (on_store (written n offset bs) v₀)
  unfolding write_chunks missing
  write-end h e₀ =
      let e : count - i ≡ 0 = omega arith in
      let z : gap ≡ 0 = rw e at inv.left.holes_left in
      let a : u ≡ on_store (written n offset bs) v = rw e at inv.left.all in
      let b : shown l ≡ u = rw (z, without-none) in
      sym inv.gapped.ready.formed.same ∙ ap laid (b ∙ a) ∙ rw e₀
