-- A read, piece by piece: what lies in one chunk, from its row or as zeros, and the loop over the chunks.
-- Assumes nothing.
use mathlib.Core.Path.{◌≡◌, refl, sym, ap, ◌∙◌}
use mathlib.Core.Bool.{Bool, true, false, not}
use mathlib.Core.List.{List, ◌++◌}
use mathlib.Core.Option.{some}
use Prim.Native.Nat.{ℕ, ◌+◌, ◌-◌, ◌/◌, ◌%◌, min, ◌≤◌, ◌<◌}
use native.Mathlib.Nat.{mod-lt, add-zero}
use native.Mathlib.Omega.{arith}
use lib.Dec.{ltb}
use lib.ListN.{length, take, drop, replicate}
use Rattle.words.specs.Bytes.{part, over, zeros}
use Rattle.words.specs.Rules.{both}
use Rattle.words.specs.Tables.{lead}
use Rattle.words.proofs.Parts.{length_over, over-nil, two, lent_at}
use Rattle.words.proofs.Multiples.{next-chunk}
use Rattle.words.proofs.Rules.{call-no, call-yes}
use Rattle.words.proofs.Written.{over-all, length-lent}
use Rattle.volume.specs.declared.ChunkRow.{ChunkRow}
use Rattle.volume.specs.Volume.{Store}
use Rattle.volume.specs.Search.{chunk_under}
use Rattle.tables.specs.Tables.{chunk_at}
use Rattle.tables.specs.OneRow.{is_chunk, chunk}
use Rattle.store.specs.Content.{bytes_from}
use Rattle.store.proofs.Content.{length_from, from-none, from-add, from_row, from-hole}
use Rattle.tables.proofs.ChunkCursor.{row-yes, row-no}
use Rattle.store.specs.Workable.{Workable}
use Rattle.tables.proofs.StoredRows.{row_inside}
use Rattle.files.specs.FileRows.{IsSpan}

module _ (v : Store) (st : Workable v) (n j p : ℕ) (e : p ≡ lead (chunk_under n (j / v.allocator.chunk_size)) v.chunks) {s : ℕ}
    (size : IsSpan v s) {b : Bool} (hit : b ≡ both (ltb p (length v.chunks)) (is_chunk n (j / s) (chunk_at v.chunks p))) where
  abbrev S : ℕ
  S = v.allocator.chunk_size

  abbrev cs : List ChunkRow
  cs = v.chunks

  pos : 0 < S
  pos = omega (arith, size.0, size.1)

  hit-there : b ≡ both (ltb p (length cs)) (is_chunk n (j / S) (chunk_at cs p))
  hit-there = rw size.0 at hit

  -- no row: zeros, and the place stays
  pub hole-read : not b ≡ true → (out : List ℕ) → length out ≤ S - j % S → {m : List ℕ} → m ≡ replicate (length out) 0
      → (m ≡ bytes_from v n j (length out)) × (p ≡ lead (chunk_under n (j / S + 1)) cs)
  hole-read miss out short em =
      let h = row-no n (j / S) cs st.stored.order e (call-no hit-there miss) in
      (em ∙ unfold zeros in sym (from-hole v n j (length out) pos short h.0), h.1)

  module _ (found : not b ≡ false) where
    its-row : (p < length cs) × ((chunk n (j / S) cs ≡ some (chunk_at cs p)) × (p + 1 ≡ lead (chunk_under n (j / S + 1)) cs))
    its-row = row-yes n (j / S) cs st.stored.order e (call-yes hit-there found)

    pub row-there : p < length cs
    row-there = its-row.0

    module _ {c : ChunkRow} (row : c ≡ chunk_at cs p) (out : List ℕ) (short : length out ≤ S - j % S) where
      there : c.pointer + j % S + length out ≤ length v.bytes
      there = rw row (omega (arith, row_inside v st.stored st.size p row-there, mod-lt j pos))

      -- where the bytes end in the chunk area
      pub row_ends : c.pointer + j % s + length out ≤ length v.bytes
      row_ends = rw size.0 there

      pub row_read : {o m : List ℕ} → o ≡ v.bytes → m ≡ take (c.pointer + j % s + length out - (c.pointer + j % s)) (drop (c.pointer + j % s) o)
          → (m ≡ bytes_from v n j (length out)) × (p + 1 ≡ lead (chunk_under n (j / S + 1)) cs)
      unfolding part
      row_read {o} {m} area em =
          let w : c.pointer + j % s + length out - (c.pointer + j % s) ≡ length out = omega arith in
          let q : m ≡ part v.bytes (c.pointer + j % S) (length out) = em ∙ rw (w, size.0, area) refl in
          (q ∙ sym (from_row v n j (length out) pos short c (its-row.1.0 ∙ ap some (sym row)) there), its-row.1.1)

-- ---- piece after piece

-- what stands in the buffer, and which row comes next, when so many bytes are done
abbrev pub ReadTo : Store → ℕ → ℕ → List ℕ → List ℕ → ℕ → ℕ → Type 0
ReadTo v n off b₀ b row done =
    (done ≤ length b₀) × (b ≡ over b₀ 0 (bytes_from v n off done)) × (length b ≡ length b₀) × (done < length b₀ → row ≡ lead (chunk_under n ((off + done) / v.allocator.chunk_size)) v.chunks)

module _ (v : Store) (n off : ℕ) (b₀ : List ℕ) where
  pub read-start : {row s : ℕ} → s ≡ v.allocator.chunk_size → row ≡ lead (chunk_under n (off / s)) v.chunks → ReadTo v n off b₀ b₀ row 0
  read-start e h = (omega arith, sym (ap (over b₀ 0) (from-none v n off) ∙ over-nil b₀ 0), refl, λ z. h ∙ rw (e, add-zero))

  module _ {b : List ℕ} {row done s k : ℕ} (inv : ReadTo v n off b₀ b row done) (more : done < length b) (size : (s ≡ v.allocator.chunk_size) × (0 < s) × (s ≤ 65536))
      (piece : (k ≡ min (length b - done) (s - (off + done) % s)) × (k ≤ length b - done)) where
    its-piece : k ≡ min (length b - done) (v.allocator.chunk_size - (off + done) % v.allocator.chunk_size)
    its-piece = rw size.0 at piece.0

    room : done + k ≤ length b
    room = omega (arith, piece.1)

    pos-size : 0 < v.allocator.chunk_size
    pos-size = omega (arith, size.0, size.1)

    -- what `read_chunk` asks
    pub piece-asked : (row ≡ lead (chunk_under n ((off + done) / v.allocator.chunk_size)) v.chunks) × (length (take (done + k - done) (drop done b)) ≤ v.allocator.chunk_size - (off + done) % v.allocator.chunk_size)
    piece-asked = (inv.3 (omega (arith, inv.2)), rw (length-lent b done k room) (omega (arith, its-piece)))

    pub piece-some : 0 < k
    piece-some = omega (arith, its-piece, mod-lt (off + done) pos-size)

    pub read-turn : {ys : List ℕ} {next : ℕ} → (ys ≡ bytes_from v n (off + done) (length (take (done + k - done) (drop done b)))) × (next ≡ lead (chunk_under n ((off + done) / v.allocator.chunk_size + 1)) v.chunks)
        → ReadTo v n off b₀ (take done b ++ (ys ++ drop (done + k - done) (drop done b))) next (done + k)
    read-turn {ys} {next} h =
        let f = length_from v n off done in
        let g = length_from v n (off + done) k in
        let y : ys ≡ bytes_from v n (off + done) k = h.0 ∙ ap (bytes_from v n (off + done)) (length-lent b done k room) in
        let o = lent_at b done k ys (bytes_from v n (off + done) k) y g in
        let t = two b₀ 0 (bytes_from v n off done) (bytes_from v n (off + done) k) done inv.1 o (omega arith) (omega (arith, inv.2, room)) ∙ ap (over b₀ 0) (sym (from-add v n off done k)) in
        (omega (arith, inv.2, room), t, ap length t ∙ length_over b₀ 0 (bytes_from v n off (done + k)) (omega (arith, length_from v n off (done + k), inv.2, room)), λ z. h.1 ∙ next_row (omega (arith, inv.2)))
      where
        next_row : k < length b - done → lead (chunk_under n ((off + done) / v.allocator.chunk_size + 1)) v.chunks ≡ lead (chunk_under n ((off + (done + k)) / v.allocator.chunk_size)) v.chunks
        next_row z =
            let q = next-chunk v.allocator.chunk_size (off + done) k (length b - done) pos-size its-piece z in
            let a : off + done + k ≡ off + (done + k) = omega arith in
            rw (← q, a)

  pub read-end : {b : List ℕ} {row done : ℕ} → ReadTo v n off b₀ b row done → length b ≤ done → b ≡ bytes_from v n off (length b₀)
  read-end {b} {row} {done} inv h =
      let e : done ≡ length b₀ = omega (arith, inv.0, inv.2) in
      rw e at inv.1 ∙ over-all b₀ (bytes_from v n off (length b₀)) (sym (length_from v n off (length b₀)))
