-- Bytes of the chunk area written: as a part of the volume that is lent, and what the write makes of the volume; a chunk written in part; a chunk filled.
-- Assumes nothing.
use mathlib.Core.Path.{◌≡◌, refl, sym, ap, ◌∙◌}
use mathlib.Core.List.{List, ◌++◌, append_assoc, append-nil}
use Prim.Native.Nat.{ℕ, ◌+◌, ◌-◌, ◌≤◌}
use native.Mathlib.Omega.{arith}
use lib.ListN.{length, take, drop, replicate, length-append, length-drop, drop_of_length-le}
use lib.Seq.{drop-drop, take_all, take_at, drop_at, length-take-le}
use borrow.Rule.Slice.PartMut.{put_mid}
use Rattle.words.specs.Bytes.{part, over, zeros, word}
use Rattle.words.proofs.Parts.{length-zeros, zeros-add, length_part, length_over, over-mid, lent_at}
use Rattle.words.proofs.Written.{part-written}
use Rattle.volume.specs.declared.Layout.{Layout}
use Rattle.volume.specs.Header.{at_node_room, at_entry_room, at_chunk_room}
use Rattle.volume.specs.Volume.{shown, laid, at_bytes, with_bytes, on_store}
use Rattle.volume.proofs.Laid.{spaced}
use Rattle.volume.proofs.AreaWrites.{onto, write_bytes}
use Rattle.tables.specs.Tables.{Ready}
use Rattle.tables.proofs.ReadyVolume.{rooms, area-long}

-- ---- n bytes of the area, from byte p on

module _ (l : List ℕ) (y : Layout) (r : Ready l y) (p n : ℕ) (inside : p + n ≤ length (shown l).store.bytes) where
  -- they end in the volume
  pub bytes-end : y.area + p + n ≤ length l
  bytes-end = omega (arith, area-long l y r, rooms l y r)

  bytes-at : y.area ≡ at_bytes (shown l).names.node_room (shown l).names.entry_room (shown l).store.chunk_room
  bytes-at = ap (λ z. z.area) r.layout

  -- written
  pub bytes-put : (at end : ℕ) → at ≡ y.area + p → end ≡ at + n → (bs : List ℕ) → length bs ≡ n → {ys : List ℕ} → ys ≡ bs → put_mid at (end - at) l ys ≡ laid (on_store (with_bytes (over (shown l).store.bytes p bs)) (shown l))
  bytes-put at end a b bs k {ys} e =
      let w : at ≡ at_bytes (shown l).names.node_room (shown l).names.entry_room (shown l).store.chunk_room + p = omega (arith, bytes-at) in
      rw b (lent_at l at n ys bs e k) ∙ onto (laid (shown l)) at bs (sym r.formed.same) refl (write_bytes (shown l) (spaced (shown l) r.formed.fits) p at bs (omega arith) w)

  -- zeros written
  pub zeros-put : (at end : ℕ) → at ≡ y.area + p → end ≡ at + n → {ys : List ℕ} → ys ≡ replicate (length (take (end - at) (drop at l))) 0 → put_mid at (end - at) l ys ≡ laid (on_store (with_bytes (over (shown l).store.bytes p (zeros n))) (shown l))
  unfolding zeros
  zeros-put at end a b {ys} e =
      let k : length (take (end - at) (drop at l)) ≡ n = length-take-le (end - at) (drop at l) (omega (arith, length-drop at l, bytes-end)) ∙ omega arith in
      bytes-put at end a b (zeros n) (length-zeros n) (e ∙ ap (λ (i : ℕ). replicate i 0) k)

-- ---- a chunk of the area, from byte p on

-- a part of the area is a part of the volume
area-part : (l : List ℕ) (y : Layout) → Ready l y → (at n : ℕ) → part l (y.area + at) n ≡ part (shown l).store.bytes at n
unfolding part shown
area-part l y r at n = rw ((rooms l y r).area, drop-drop at (at_bytes (word l at_node_room) (word l at_entry_room) (word l at_chunk_room)) l)

-- and so it is when it is lent
area-lent : (l : List ℕ) (y : Layout) → Ready l y → (at n : ℕ) → take (y.area + at + n - (y.area + at)) (drop (y.area + at) l) ≡ part (shown l).store.bytes at n
area-lent l y r at n =
    let w : y.area + at + n - (y.area + at) ≡ n = omega arith in
    rw w (unfold part in area-part l y r at n)

module _ (l : List ℕ) (y : Layout) (r : Ready l y) (p : ℕ) {s : ℕ} (size : s ≡ (shown l).store.allocator.chunk_size) (inside : p + (shown l).store.allocator.chunk_size ≤ length (shown l).store.bytes) where
  -- bytes written at a place of it
  pub piece-put : (place : ℕ) (bs : List ℕ) → place + length bs ≤ (shown l).store.allocator.chunk_size → {ys : List ℕ} → ys ≡ over (take (y.area + p + s - (y.area + p)) (drop (y.area + p) l)) place bs
      → take (y.area + p) l ++ (ys ++ drop (y.area + p + s - (y.area + p)) (drop (y.area + p) l)) ≡ laid (on_store (with_bytes (over (shown l).store.bytes (p + place) bs)) (shown l))
  piece-put place bs h e =
      let q = part (shown l).store.bytes p s in
      let w : p + s ≤ length (shown l).store.bytes = omega (arith, size) in
      let n : length q ≡ s = length_part (shown l).store.bytes p s w in
      let m : length (over q place bs) ≡ s = length_over q place bs (omega (arith, size)) ∙ n in
      bytes-put l y r p s w (y.area + p) (y.area + p + s) refl refl (over q place bs) m (e ∙ ap (λ (x : List ℕ). over x place bs) (area-lent l y r p s))
      ∙ ap (λ (x : List ℕ). laid (on_store (with_bytes x) (shown l))) (part-written (shown l).store.bytes p s place bs w (omega (arith, size)))

  -- zeros from a place of it to its end
  pub rest-cleared : (place : ℕ) → place ≤ (shown l).store.allocator.chunk_size → {ys : List ℕ} → ys ≡ over (take (y.area + p + s - (y.area + p)) (drop (y.area + p) l)) place (zeros (s - place))
      → take (y.area + p) l ++ (ys ++ drop (y.area + p + s - (y.area + p)) (drop (y.area + p) l)) ≡ laid (on_store (with_bytes (over (shown l).store.bytes (p + place) (zeros ((shown l).store.allocator.chunk_size - place)))) (shown l))
  rest-cleared place h e =
      piece-put place (zeros ((shown l).store.allocator.chunk_size - place)) (omega (arith, length-zeros ((shown l).store.allocator.chunk_size - place)))
      (e ∙ ap (λ (x : ℕ). over (take (y.area + p + s - (y.area + p)) (drop (y.area + p) l)) place (zeros (x - place))) size)

-- ---- a chunk filled

-- zeros written over all that stands behind p
zeroed-behind : (x p r : List ℕ) (n : ℕ) → x ≡ p ++ r → n ≡ length p → {c : List ℕ} → c ≡ replicate (length (take (length x - n) (drop n x))) 0 → put_mid n (length x - n) x c ≡ p ++ zeros (length r)
unfolding zeros
zeroed-behind x p r n e h {c} z =
    let d : drop n x ≡ r = rw e (drop_at p r n (sym h)) in
    let t : take n x ≡ p = rw e (take_at p r n (sym h)) in
    let m : length x - n ≡ length r = omega (arith, ap length e, length-append p r) in
    let w : c ≡ replicate (length r) 0 = z ∙ rw (m, d, take_all (length r) r (omega arith)) in
    rw (t, w, d, m, drop_of_length-le r {i = length r} (omega arith), append-nil)

-- zeros, bytes and zeros, one behind the other
pub filled : (l bs : List ℕ) (place : ℕ) → place + length bs ≤ length l → {a b c : List ℕ} → a ≡ replicate (length (take place l)) 0 → b ≡ bs → (x : List ℕ) → x ≡ put_mid place (place + length bs - place) (a ++ drop place l) b
    → c ≡ replicate (length (take (length x - (place + length bs)) (drop (place + length bs) x))) 0 → put_mid (place + length bs) (length x - (place + length bs)) x c ≡ over (zeros (length l)) place bs
filled l bs place h {a} {b} {c} ea eb x ex ec =
    zeroed-behind x (zeros place ++ bs) rest (place + length bs) written (omega (arith, length-append (zeros place) bs, n)) ec
    ∙ append_assoc (zeros place) bs (zeros (length rest)) ∙ sym around
  where
    rest : List ℕ
    rest = drop (length bs) (drop place l)

    n : length (zeros place) ≡ place
    n = length-zeros place

    written : x ≡ (zeros place ++ bs) ++ rest
    written =
        let w : a ≡ zeros place = ea ∙ rw (length-take-le place l (omega arith)) (unfold zeros in refl) in
        let k : place + length bs - place ≡ length bs = omega arith in
        ex ∙ rw (k, w, eb, take_at (zeros place) (drop place l) place n, drop_at (zeros place) (drop place l) place n, append_assoc)

    whole : zeros (length l) ≡ zeros place ++ (zeros (length bs) ++ zeros (length rest))
    whole =
        let e : length l ≡ place + (length bs + length rest) = omega (arith, length-drop (length bs) (drop place l), length-drop place l) in
        rw (zeros-add, zeros-add, e)

    around : over (zeros (length l)) place bs ≡ zeros place ++ (bs ++ zeros (length rest))
    around = rw whole (over-mid (zeros place) (zeros (length bs)) (zeros (length rest)) bs place n (length-zeros (length bs)))
