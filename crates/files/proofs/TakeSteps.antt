-- A chunk taken and filled, step by step: the pointer, the row at the gap's first place, the bytes of the chunk as the part of the volume that is lent.
-- Assumes nothing.
use mathlib.Core.Path.{◌≡◌, refl, sym, ap, ◌∙◌}
use mathlib.Core.List.{List, ◌++◌}
use mathlib.Core.Option.{none}
use Prim.Native.Nat.{ℕ, ◌+◌, ◌-◌, ◌^◌, ◌≤◌, ◌<◌}
use native.Mathlib.Nat.{mul-le-mul}
use native.Mathlib.Omega.{arith}
use lib.ListN.{length, take, drop, set, length-set}
use Rattle.words.specs.Bytes.{over, zeros}
use Rattle.words.specs.Tables.{Each, lead, insert_at}
use Rattle.words.proofs.Middle.{each-mid}
use Rattle.words.proofs.Order.{each_set}
use Rattle.words.proofs.Parts.{length-zeros, length_over}
use Rattle.words.proofs.Written.{over-within, length-lent}
use Rattle.allocator.specs.Allocator.{allocate}
use Rattle.allocator.proofs.Sizes.{accepted-bounds}
use Rattle.volume.specs.declared.ChunkRow.{ChunkRow}
use Rattle.volume.specs.declared.Layout.{Layout}
use Rattle.volume.specs.Search.{chunk_under}
use Rattle.volume.specs.Volume.{Store, Volume, shown, laid, with_allocator, with_chunks, with_bytes, on_store}
use Rattle.volume.specs.Framed.{ChunkFits, StoreFits, Fits}
use Rattle.volume.proofs.Framed.{fits-chunks, fits-bytes}
use Rattle.tables.specs.Tables.{Ready}
use Rattle.tables.specs.OneRow.{chunk}
use Rattle.tables.proofs.ReadyVolume.{shown-as, ready-as}
use Rattle.store.specs.Room.{room}
use Rattle.store.specs.Taken.{taken}
use Rattle.store.specs.Workable.{Workable}
use Rattle.store.proofs.KeptFields.{fits-taken}
use Rattle.store.proofs.Taken.{new_row, given_inside, taken-long}
use Rattle.files.specs.Gap.{closed, Gapped}
use Rattle.files.proofs.Gap.{length_without, each-without, without-new}
use Rattle.files.proofs.LentChunk.{bytes-end, bytes-put}

module _ {l : List ℕ} {y : Layout} {p g : ℕ} (q : Gapped l y p g) (st : Workable (closed p g l).store) where
  abbrev v : Volume
  v = shown l

  abbrev w : Store
  w = (closed p g l).store

  abbrev S : ℕ
  S = v.store.allocator.chunk_size

  abbrev given : ℕ
  given = (allocate v.store.allocator).pointer

  f : Fits v
  f = q.ready.formed.fits

  -- what `allocate` asks: the next new pointer is no great number
  pub pointer-fits : v.store.allocator.next_ptr + S < 18446744073709551616
  pointer-fits =
      let b = accepted-bounds S f.store.size in
      let m = mul-le-mul f.store.chunk_room.1 b.1 in
      omega (arith, st.stored.enough)

  module _ (some-rows : 1 ≤ g) (n k : ℕ) (node : n < 2 ^ 64) (index : k < 2 ^ 64) (place : p ≡ lead (chunk_under n k) w.chunks) (hole : chunk n k w.chunks ≡ none) (some-room : 1 ≤ room w) where
    -- with a pointer, with a row besides, and with the chunk's bytes
    abbrev v₁ : Volume
    v₁ = on_store (with_allocator (allocate v.store.allocator).after) v

    abbrev v₂ : ℕ → Volume
    v₂ c = on_store (with_chunks (set v.store.chunks p (record { node = n; index = k; pointer = c }))) v₁

    abbrev v₃ : ℕ → List ℕ → Volume
    v₃ c bs = on_store (with_bytes (over v.store.bytes c bs)) (v₂ c)

    fits-closed : StoreFits w
    fits-closed = fits-chunks v.store f.store w.chunks (omega (arith, length_without p g v.store.chunks q.inside, f.store.chunks)) (each-without p g v.store.chunks ChunkFits f.store.chunk_rows)

    all-fits : StoreFits (taken n k w)
    all-fits = fits-taken w fits-closed st n k node index some-room hole

    -- other rows, and other bytes as long
    others-fit : (cs : List ChunkRow) (bs : List ℕ) → length cs ≤ v.store.chunk_room → Each ChunkFits cs → length bs ≡ length v.store.bytes → Fits (on_store (with_bytes bs) (on_store (with_chunks cs) v₁))
    unfolding taken
    others-fit cs bs a b d = record { names = f.names; store = fits-bytes (with_chunks cs (taken n k w)) (fits-chunks (taken n k w) all-fits cs a b) bs (d ∙ sym (taken-long w st some-room n k)) }

    row_fits : ChunkFits (new_row n k w)
    unfolding taken insert_at
    row_fits = each-mid ChunkFits (new_row n k w) (take (lead (chunk_under n k) w.chunks) w.chunks) (drop (lead (chunk_under n k) w.chunks) w.chunks) all-fits.chunk_rows

    module _ {c : ℕ} {m : List ℕ} (got : (c ≡ given) × (m ≡ laid v₁)) where
      fits₁ : Fits v₁
      fits₁ = others-fit v.store.chunks v.store.bytes f.store.chunks f.store.chunk_rows refl

      -- what `change_chunk` asks
      pub row-asked : Ready m y × (p < length (shown m).store.chunks)
      row-asked = (ready-as v₁ fits₁ got.1 q.ready.layout, rw (shown-as v₁ fits₁ got.1) (omega (arith, q.inside)))

      module _ {o : List ℕ} (in_place : o ≡ laid (on_store (with_chunks (set (shown m).store.chunks p (record { node = n; index = k; pointer = c }))) (shown m))) {s : ℕ} (size : (s ≡ S) × (0 < s) × (s ≤ 65536)) where
        fits₃ : (bs : List ℕ) → length bs ≡ length v.store.bytes → Fits (on_store (with_bytes bs) (v₂ c))
        fits₃ bs e =
            rw got.0
            (others-fit (set v.store.chunks p (new_row n k w)) bs (rw (length-set v.store.chunks p (new_row n k w)) f.store.chunks) (each_set ChunkFits v.store.chunks p (new_row n k w) f.store.chunk_rows row_fits) e)

        fits₂ : Fits (v₂ c)
        fits₂ = fits₃ v.store.bytes refl

        laid₂ : o ≡ laid (v₂ c)
        laid₂ = in_place ∙ rw (shown-as v₁ fits₁ got.1)

        ready₂ : Ready o y
        ready₂ = ready-as (v₂ c) fits₂ laid₂ q.ready.layout

        shown₂ : shown o ≡ v₂ c
        shown₂ = shown-as (v₂ c) fits₂ laid₂

        inside₂ : c + s ≤ length (shown o).store.bytes
        inside₂ = rw (shown₂, size.0, got.0) (given_inside w st some-room)

        -- the chunk ends in the volume
        pub taken-ends : y.area + c + s ≤ length o
        taken-ends = bytes-end o y ready₂ c s inside₂

        -- it is as long as the part that is lent
        pub taken-lent : length (take (y.area + c + s - (y.area + c)) (drop (y.area + c) o)) ≡ S
        taken-lent = length-lent o (y.area + c) s taken-ends ∙ size.0

        -- filled
        pub taken-filled : (at : ℕ) (bs : List ℕ) → at + length bs ≤ S → {ys r : List ℕ} {x : ℕ} → ys ≡ over (zeros (length (take (y.area + c + s - (y.area + c)) (drop (y.area + c) o)))) at bs
            → r ≡ take (y.area + c) o ++ (ys ++ drop (y.area + c + s - (y.area + c)) (drop (y.area + c) o))
            → x ≡ g - 1 → (x ≡ g - 1) × Gapped r y (p + 1) x × (closed (p + 1) x r ≡ on_store (with_bytes (over (taken n k w).bytes (given + at) bs)) (on_store (taken n k) (closed p g l)))
        unfolding taken
        taken-filled at bs h {ys} {r} e er ex =
            let filled : ys ≡ over (zeros S) at bs = e ∙ ap (λ (i : ℕ). over (zeros i) at bs) taken-lent in
            let z = length-zeros S in
            let i = given_inside w st some-room in
            let t : length (over (zeros S) at bs) ≡ S = length_over (zeros S) at bs (omega arith) ∙ z in
            let b = sym (over-within v.store.bytes given (zeros S) at bs (omega arith) (omega arith)) in
            let d : r ≡ laid (v₃ c (over (zeros S) at bs)) = er ∙ bytes-put o y ready₂ c s inside₂ _ _ refl refl (over (zeros S) at bs) (t ∙ sym size.0) filled ∙ rw shown₂ in
            let fits : Fits (v₃ c (over (zeros S) at bs)) = fits₃ (over v.store.bytes c (over (zeros S) at bs)) (length_over v.store.bytes c (over (zeros S) at bs) (omega (arith, got.0))) in
            let sh = shown-as (v₃ c (over (zeros S) at bs)) fits d in
            rw ex (
              refl,
              record { ready = ready-as (v₃ c (over (zeros S) at bs)) fits d q.ready.layout; inside = rw (sh, length-set v.store.chunks p (record { node = n; index = k; pointer = c })) (omega (arith, q.inside)) },
              rw (sh, without-new p g v.store.chunks (record { node = n; index = k; pointer = c }) some-rows q.inside, got.0)
                  (ap (λ (j : ℕ). on_store (with_bytes (over v.store.bytes given (over (zeros S) at bs))) (on_store (with_chunks (insert_at j (new_row n k w) w.chunks)) v₁)) place
                  ∙ ap (λ (x : List ℕ). on_store (with_bytes x) (on_store (with_chunks (insert_at (lead (chunk_under n k) w.chunks) (new_row n k w) w.chunks)) v₁)) b),
            )
