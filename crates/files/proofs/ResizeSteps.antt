-- A resize: the cut and the zeros behind it, its refusals, which leave the volume as it was, and the size that it sets.
-- Assumes nothing.
use Rattle.std.specs.Prelude.{Ok, Err}
use mathlib.Core.Path.{◌≡◌, refl, sym, ap, ◌∙◌}
use mathlib.Core.List.{List}
use Prim.Native.Nat.{ℕ, ◌/◌, ◌≤◌, ◌<◌}
use lib.ListN.{length, set}
use borrow.Author.Tests.{lt-ltb, le-ltb}
use Rattle.words.specs.Tables.{lead}
use Rattle.words.proofs.Rules.{pick_true, pick-false}
use Rattle.types.specs.Nodes.{file_limit}
use Rattle.types.specs.declared.Error.{Error}
use Rattle.types.specs.declared.Error.TheVariants.{FileTooLarge}
use Rattle.volume.specs.declared.Layout.{Layout}
use Rattle.volume.specs.Search.{chunk_under}
use Rattle.volume.proofs.Rounding.{div-up}
use Rattle.store.proofs.CutRows.{cut-lead}
use Rattle.volume.specs.Volume.{shown, laid, with_nodes, on_names, on_store}
use Rattle.volume.specs.Sound.{round_up, Good}
use Rattle.volume.specs.Steps.{Step, stays, becomes, with_node}
use Rattle.tables.specs.Tables.{Ready, node_at}
use Rattle.tables.specs.OneRow.{sized}
use Rattle.files.specs.declared.files.RowAt.{RowAt}
use Rattle.files.specs.FileRows.{IsSpan, file_found}
use Rattle.tables.proofs.ReadyVolume.{store_step}
use Rattle.store.specs.Cut.{cut_from, tail_zeroed, shrunk}
use Rattle.files.specs.Resize.{resize_file, resize}
use Rattle.store.specs.Workable.{Workable}
use Rattle.store.proofs.Workable.{stored-workable}
use Rattle.files.proofs.FileRows.{IsFile, file-found, file-goes-on, file-refused}
use Rattle.tables.proofs.ChangedRow.{row-set}
use Rattle.files.proofs.LimitSteps.{Meets, meets}
use Rattle.store.proofs.Cut.{cut-size, cut-stored}
use Rattle.files.proofs.FreeSteps.{cut_step}
use Rattle.store.proofs.Shrunk.{shrunk-fits, shrunk-room}

-- ---- the cut, then the zeros

module _ (l : List ℕ) (y : Layout) (r : Ready l y) (g : Good (shown l)) (n z : ℕ) where
  st : Workable (shown l).store
  st = stored-workable (shown l).store r.formed.fits.store g.stored

  abbrev up : ℕ
  up = round_up (shown l).store.allocator.chunk_size z

  module _ {s tail : ℕ} (size : IsSpan (shown l).store s) (place : tail ≡ lead (chunk_under n (z / s)) (shown l).store.chunks) {m : List ℕ} (cut : m ≡ laid (on_store (cut_from n up) (shown l))) where
    after : (shown m ≡ on_store (cut_from n up) (shown l)) × Ready m y
    after = cut_step l y r st n up cut

    -- what `zero_tail` asks: the place of the tail is as it was
    pub zero-asked : Ready m y × Workable (shown m).store × (tail ≡ lead (chunk_under n (z / s)) (shown m).store.chunks) × IsSpan (shown m).store s
    zero-asked =
        let low : z / s ≤ up = rw size.0 (div-up (shown l).store.allocator.chunk_size z st.size) in (
          after.1,
          rw after.0 (cut-stored n up (shown l).store st),
          rw after.0 (place ∙ sym (cut-lead n up (z / s) low (shown l).store g.stored.order)),
          rw (after.0, cut-size n up (shown l).store) size,
        )

    pub shrink-done : {o : List ℕ} → o ≡ laid (on_store (tail_zeroed n z) (shown m)) → o ≡ laid (on_store (shrunk n z) (shown l))
    unfolding shrunk
    shrink-done h = h ∙ ap (λ v. laid (on_store (tail_zeroed n z) v)) after.0

  -- ---- behind it

  shrunk-step : {m : List ℕ} → m ≡ laid (on_store (shrunk n z) (shown l)) → (shown m ≡ on_store (shrunk n z) (shown l)) × Ready m y
  shrunk-step e = store_step r (shrunk n z (shown l).store) (shrunk-fits n z (shown l).store st r.formed.fits.store) (shrunk-room n z (shown l).store) e

-- ---- the ends of the call

module _ (n z : ℕ) (l : List ℕ) (y : Layout) (ready : Ready l y) (g : Good (shown l)) where
  w : laid (shown l) ≡ l
  w = ready.formed.same

  abbrev refuse : Error → Step
  refuse e = stays e (shown l)

  pub resize-refused : {e : Error} → Err e ≡ file_found n (shown l).names.nodes → Meets (Err e) l (resize n z (shown l))
  unfolding resize
  resize-refused {e} h = meets (refuse e) _ (sym w) (file-refused refuse (resize_file z (shown l)) n (shown l).names g.named.node_order refl h)

  module _ {f : RowAt} (h : Ok f ≡ file_found n (shown l).names.nodes) where
    its : IsFile n (shown l).names f
    its = file-found n (shown l).names refl h

    onward : resize_file z (shown l) f.row ≡ resize n z (shown l)
    unfolding resize
    onward = file-goes-on n (shown l).names refl h refuse (resize_file z (shown l))

    pub row-place : Ready l y × (f.place < length (shown l).names.nodes)
    row-place = (ready, its.place)

    -- the row with the new size
    new_row : sized z f.row ≡ sized z (node_at (shown l).names.nodes f.place)
    new_row = ap (sized z) its.here

    module _ {x : ℕ} (p : x ≡ file_limit f.row.limit) where
      pub resize-above : x < z → Meets (Err FileTooLarge) l (resize n z (shown l))
      unfolding resize_file
      resize-above e = meets (refuse FileTooLarge) _ (sym w) (pick_true _ _ _ _ (rw (← p) (lt-ltb _ _ e)) refl ∙ onward)

      module _ (s : z ≤ x) where
        pub resize-grown : f.row.size ≤ z → {o : List ℕ} → o ≡ laid (on_names (with_nodes (set (shown l).names.nodes f.place (sized z f.row))) (shown l)) → Meets (Ok 0) o (resize n z (shown l))
        unfolding resize_file
        resize-grown e q =
            meets (becomes 0 (on_names (with_node f.row.node (sized z)) (shown l))) _ (rw its.number (row-set n (sized z) (shown l).names.nodes f.place g.named.node_order its.found new_row (shown l) refl l refl q))
            (pick-false _ _ _ _ (rw (← p) (le-ltb _ _ s)) (pick-false _ _ _ _ (le-ltb _ _ e) refl) ∙ onward)

        module _ (e : z < f.row.size) {m : List ℕ} (less : m ≡ laid (on_store (shrunk n z) (shown l))) where
          behind : (shown m ≡ on_store (shrunk n z) (shown l)) × Ready m y
          behind = shrunk-step l y ready g n z less

          -- what `change_node` asks
          pub size-asked : Ready m y × (f.place < length (shown m).names.nodes)
          size-asked = (behind.1, rw behind.0 its.place)

          pub resize-shrunk : {o : List ℕ} → o ≡ laid (on_names (with_nodes (set (shown m).names.nodes f.place (sized z f.row))) (shown m)) → Meets (Ok 0) o (resize n z (shown l))
          unfolding resize_file
          resize-shrunk a =
              meets (becomes 0 (on_names (with_node f.row.node (sized z)) (on_store (shrunk f.row.node z) (shown l)))) _ (rw its.number (row-set n (sized z) (shown l).names.nodes f.place g.named.node_order its.found new_row (on_store (shrunk n z) (shown l)) refl m behind.0 a))
              (pick-false _ _ _ _ (rw (← p) (le-ltb _ _ s)) (pick_true _ _ _ _ (lt-ltb _ _ e) refl) ∙ onward)
