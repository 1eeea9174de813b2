-- What a write does: its refusals, which leave the volume as it was, its chunks written, and the size that it sets.
-- Assumes nothing.
use Rattle.std.specs.Prelude.{Ok, Err}
use mathlib.Core.Path.{◌≡◌, refl, sym, ◌∙◌}
use mathlib.Core.Bool.{Bool, true, false}
use mathlib.Core.List.{List}
use Prim.Native.Nat.{ℕ, ◌+◌, ◌/◌, max, ◌≤◌, ◌<◌}
use native.Mathlib.Omega.{arith}
use lib.Dec.{ltb}
use lib.ListN.{length, set}
use borrow.Author.Tests.{eq-eqb, ne_eqb, ltb-false}
use Rattle.words.specs.Tables.{lead}
use Rattle.words.proofs.Rules.{pick_true, pick-false}
use Rattle.types.specs.Nodes.{file_limit}
use Rattle.types.specs.declared.Error.{Error}
use Rattle.types.specs.declared.Error.TheVariants.{FileTooLarge, NoChunkRoom}
use Rattle.types.proofs.Nodes.{limit-most}
use Rattle.volume.specs.declared.Layout.{Layout}
use Rattle.volume.specs.Search.{chunk_under}
use Rattle.volume.specs.Framed.{NodeFits}
use Rattle.volume.specs.Volume.{Volume, shown, laid, with_nodes, on_names, on_store}
use Rattle.volume.specs.Sound.{Good}
use Rattle.volume.specs.Steps.{Step, stays, becomes, with_node}
use Rattle.tables.specs.Tables.{Ready, node_at}
use Rattle.tables.specs.OneRow.{sized}
use Rattle.files.specs.declared.files.RowAt.{RowAt}
use Rattle.files.specs.FileRows.{IsSpan, file_found}
use Rattle.tables.proofs.ReadyVolume.{store_step}
use Rattle.store.specs.Room.{room, holes}
use Rattle.store.specs.Workable.{Workable}
use Rattle.store.specs.Written.{written}
use Rattle.files.specs.Write.{write_file, write}
use Rattle.store.proofs.Workable.{stored-workable}
use Rattle.files.proofs.FileRows.{IsFile, file-found, file-goes-on, file-refused}
use Rattle.tables.proofs.NodeRows.{node-each}
use Rattle.tables.proofs.ChangedRow.{row-set}
use Rattle.store.proofs.KeptFields.{kept-written}
use Rattle.files.proofs.LimitSteps.{Meets, meets}
use Rattle.store.proofs.Written.{fits-written}

module _ (n offset : ℕ) (bs : List ℕ) (l : List ℕ) (y : Layout) (ready : Ready l y) (g : Good (shown l)) where
  abbrev v : Volume
  v = shown l

  w : laid v ≡ l
  w = ready.formed.same

  st : Workable v.store
  st = stored-workable v.store ready.formed.fits.store g.stored

  abbrev refuse : Error → Step
  refuse e = stays e v

  -- 2, 3
  pub write-refused : {e : Error} → Err e ≡ file_found n v.names.nodes → Meets (Err e) l (write n offset bs v)
  unfolding write
  write-refused {e} h = meets (refuse e) _ (sym w) (file-refused refuse (write_file offset bs v) n v.names g.named.node_order refl h)

  module _ {f : RowAt} (h : Ok f ≡ file_found n v.names.nodes) where
    its : IsFile n v.names f
    its = file-found n v.names refl h

    row_fits : NodeFits f.row
    row_fits = node-each n v.names f.row its.row NodeFits ready.formed.fits.names.node_rows

    onward : write_file offset bs v f.row ≡ write n offset bs v
    unfolding write
    onward = file-goes-on n v.names refl h refuse (write_file offset bs v)

    -- no bytes
    pub write-none : length bs ≡ 0 → Meets (Ok 0) l (write n offset bs v)
    unfolding write_file
    write-none e = meets (becomes 0 v) _ (sym w) (pick_true _ _ _ _ (eq-eqb _ _ e) refl ∙ onward)

    module _ (bytes : length bs ≡ 0 → ⊥) {x : ℕ} (p : x ≡ file_limit f.row.limit) {c : Bool} (o : c ≡ ltb x (offset + length bs)) where
      above : c ≡ ltb (file_limit f.row.limit) (offset + length bs)
      above = rw p at o

      -- 5
      pub write-above : c ≡ true → Meets (Err FileTooLarge) l (write n offset bs v)
      unfolding write_file
      write-above e = meets (refuse FileTooLarge) _ (sym w) (pick-false _ _ _ _ (ne_eqb _ _ bytes) (pick_true _ _ _ _ (sym above ∙ e) refl) ∙ onward)

      module _ (s : c ≡ false) where
        some_bytes : 0 < length bs
        some_bytes = omega arith

        pub end-most : offset + length bs ≤ 1099511627776
        end-most = omega (arith, ltb-false (file_limit f.row.limit) (offset + length bs) (sym above ∙ s), limit-most f.row.limit row_fits.limit)

        -- what `count_holes` asks, of the place found for the first index
        pub holes-asked : {size first : ℕ} → IsSpan v.store size → first ≡ lead (chunk_under n (offset / size)) v.store.chunks
            → Workable v.store × (0 < length bs) × (offset + length bs ≤ 1099511627776) × (first ≡ lead (chunk_under n (offset / size)) v.store.chunks) × IsSpan v.store size
        holes-asked es ef = (st, some_bytes, end-most, ef, es)

        -- what `is_cramped` asks
        pub room-asked : {size : ℕ} → IsSpan v.store size → Workable v.store × IsSpan v.store size
        room-asked es = (st, es)

        module _ {b : ℕ} (eb : b ≡ holes n offset (length bs) v.store) {a : Bool} (m : a ≡ ltb (room v.store) b) where
          cramped-row : ltb (room v.store) (holes f.row.node offset (length bs) v.store) ≡ a
          cramped-row = rw (its.number, ← eb) (sym m)

          -- 6
          pub write-cramped : a ≡ true → Meets (Err NoChunkRoom) l (write n offset bs v)
          unfolding write_file
          write-cramped e =
              meets (refuse NoChunkRoom) _ (sym w)
              (pick-false _ _ _ _ (ne_eqb _ _ bytes) (pick-false _ _ _ _ (sym above ∙ s) (pick_true _ _ _ _ (cramped-row ∙ e) refl)) ∙ onward)

          module _ (z : a ≡ false) where
            enough : b ≤ room v.store
            enough = omega (arith, ltb-false (room v.store) b (sym m ∙ z))

            -- what `write_chunks_v2` asks
            pub chunks-asked : {size first : ℕ} → IsSpan v.store size → first ≡ lead (chunk_under n (offset / size)) v.store.chunks
                → Ready l y × Workable v.store × (0 < length bs) × (offset + length bs ≤ 1099511627776) × (b ≡ holes n offset (length bs) v.store) × (b ≤ room v.store) × (first ≡ lead (chunk_under n (offset / size)) v.store.chunks) × IsSpan v.store size
            chunks-asked es ef = (ready, st, some_bytes, end-most, eb, enough, ef, es)

            -- behind it
            module _ {j : List ℕ} (e : j ≡ laid (on_store (written n offset bs) v)) where
              after : (shown j ≡ on_store (written n offset bs) v) × Ready j y
              after =
                  store_step ready (written n offset bs v.store) (fits-written v.store st n offset bs some_bytes (omega (arith, enough, eb)) ready.formed.fits.store (rw its.number at row_fits.node) (omega (arith, end-most)))
                  (kept-written n offset bs v.store).chunk_room e

              -- what `change_node` asks
              pub size-asked : Ready j y × (f.place < length (shown j).names.nodes)
              size-asked = (after.1, rw after.0 its.place)

              pub write_done : {size : ℕ} → size ≡ max f.row.size (offset + length bs) → {o : List ℕ} → o ≡ laid (on_names (with_nodes (set (shown j).names.nodes f.place (sized size f.row))) (shown j)) → Meets (Ok (length bs)) o (write n offset bs v)
              unfolding write_file
              write_done {size} es {o} eo =
                  let m₁ = max f.row.size (offset + length bs) in
                  let row : sized size f.row ≡ sized m₁ (node_at v.names.nodes f.place) = rw (es, its.here) in
                  let x : o ≡ laid (on_names (with_node n (sized m₁)) (on_store (written n offset bs) v)) = row-set n (sized m₁) v.names.nodes f.place g.named.node_order its.found row (on_store (written n offset bs) v) refl j after.0 eo in
                  meets (becomes (length bs) (on_names (with_node n (sized m₁)) (on_store (written n offset bs) v))) _ x
                  (rw (← its.number) (pick-false _ _ _ _ (ne_eqb _ _ bytes) (pick-false _ _ _ _ (sym above ∙ s) (pick-false _ _ _ _ (cramped-row ∙ z) refl))) ∙ onward)
