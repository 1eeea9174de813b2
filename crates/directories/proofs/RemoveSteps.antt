-- A remove as code takes it: its refusals, which leave the volume as it was, and the two steps that take a node's chunks and its row out.
-- Assumes nothing.
use Rattle.std.specs.Prelude.{Some, None, Ok, Err}
use mathlib.Core.Path.{◌≡◌, refl, sym, ap, ◌∙◌}
use mathlib.Core.Bool.{true, false, not}
use mathlib.Core.List.{List, []}
use mathlib.Core.Option.{some}
use Prim.Native.Nat.{ℕ, ◌≤◌, ◌<◌}
use native.Mathlib.Omega.{arith}
use lib.Dec.{eqb}
use lib.ListN.{length}
use borrow.Author.Tests.{eq-eqb, ne_eqb, eqb-true, lt-ltb, le-ltb}
use Rattle.words.specs.Tables.{lead, only, remove_at, Asc}
use Rattle.words.proofs.Rules.{pick_true, pick-false}
use Rattle.words.proofs.Order.{asc-map}
use Rattle.types.specs.declared.Error.TheVariants.{NoSuchEntry, Busy}
use Rattle.types.specs.declared.NodeRecord.{NodeRecord}
use Rattle.volume.specs.declared.Layout.{Layout}
use Rattle.volume.specs.Rows.{read_node}
use Rattle.volume.specs.Volume.{shown, laid, with_nodes, on_names, on_store}
use Rattle.volume.specs.Search.{chunk_under}
use Rattle.volume.specs.Sound.{node, node_before, Good}
use Rattle.volume.specs.Steps.{stays, becomes}
use Rattle.tables.specs.Tables.{Ready, node_at, found_node, Found}
use Rattle.tables.proofs.TableSearch.{node-found, node-absent}
use Rattle.tables.proofs.NodeRows.{number_is}
use Rattle.store.specs.Cut.{cut_from}
use Rattle.store.specs.Workable.{Workable}
use Rattle.store.proofs.Workable.{stored-workable}
use Rattle.files.proofs.LimitSteps.{Meets, meets}
use Rattle.files.proofs.FreeSteps.{cut_step}
use Rattle.names.specs.Removing.{without_node, removed, remove_row, remove}
use Rattle.words.proofs.Middle.{alone_at}

-- the rows without a node, where a search found its row
row-gone : (n p : ℕ) (rs : List NodeRecord) → Asc node_before rs → Some p ≡ found_node n rs → only (λ r. not (eqb r.node n)) rs ≡ remove_at p rs
row-gone n p rs order at =
    let f = node-found n rs p at in
    alone_at (λ r. eqb r.node n) (read_node []) rs p f.0 (eq-eqb (node_at rs p).node n (number_is n rs (node_at rs p) f.1))
    (asc-map node_before (λ x y. eqb x.node n ≡ true → eqb y.node n ≡ false) (λ x y h e. ne_eqb y.node n (λ q. omega (arith, eqb-true x.node n e))) rs order)

module _ (n : ℕ) (l : List ℕ) (y : Layout) (ready : Ready l y) (g : Good (shown l)) where
  st : Workable (shown l).store
  st = stored-workable (shown l).store ready.formed.fits.store g.stored

  -- what `cut_rows` asks
  pub chunks-asked : {first : ℕ} → first ≤ length (shown l).store.chunks → Ready l y × Workable (shown l).store × (first ≤ length (shown l).store.chunks)
  chunks-asked b = (ready, st, b)

  pub remove-missing : {r : Found} → r ≡ None → r ≡ found_node n (shown l).names.nodes → Meets (Err NoSuchEntry) l (remove n (shown l))
  unfolding remove remove_row node
  remove-missing k h = meets (stays NoSuchEntry (shown l)) _ (sym ready.formed.same) (rw (node-absent n (shown l).names.nodes g.named.node_order (sym k ∙ h)) refl)

  module _ {p : ℕ} {r : Found} (k : r ≡ Some p) (h : r ≡ found_node n (shown l).names.nodes) where
    here : (p < length (shown l).names.nodes) × (node n (shown l).names ≡ some (node_at (shown l).names.nodes p))
    unfolding node
    here = node-found n (shown l).names.nodes p (sym k ∙ h)

    -- what `node_row` asks
    pub row-asked : p < length (shown l).names.nodes
    row-asked = here.0

    module _ {d : NodeRecord} (q : d ≡ node_at (shown l).names.nodes p) where
      onward : remove_row n (shown l) (some d) ≡ remove n (shown l)
      unfolding remove
      onward = ap (remove_row n (shown l)) (ap (λ (s : NodeRecord). some s) q ∙ sym here.1)

      pub remove-busy : 0 < d.links → Meets (Err Busy) l (remove n (shown l))
      unfolding remove_row
      remove-busy b = meets (stays Busy (shown l)) _ (sym ready.formed.same) (pick_true _ _ _ _ (lt-ltb 0 d.links b) refl ∙ onward)

      module _ (bare : d.links ≤ 0) {first : ℕ} (at : first ≡ lead (chunk_under n 0) (shown l).store.chunks) where
        module _ {m : List ℕ} (cut : (index : ℕ) → first ≡ lead (chunk_under n index) (shown l).store.chunks → m ≡ laid (on_store (cut_from n index) (shown l))) where
          after : (shown m ≡ on_store (cut_from n 0) (shown l)) × Ready m y
          after = cut_step l y ready st n 0 (cut 0 at)

          -- what `remove_node` asks
          pub out-asked : Ready m y × (p < length (shown m).names.nodes)
          out-asked = (after.1, rw after.0 here.0)

          pub remove-done : {o : List ℕ} → o ≡ laid (on_names (with_nodes (remove_at p (shown m).names.nodes)) (shown m)) → Meets (Ok 0) o (remove n (shown l))
          unfolding remove_row without_node
          remove-done e =
              meets (becomes 0 (removed n (shown l))) _
              (e ∙ ap (λ v. laid (on_names (with_nodes (remove_at p v.names.nodes)) v)) after.0
              ∙ ap (λ rs. laid (on_names (with_nodes rs) (on_store (cut_from n 0) (shown l)))) (sym (row-gone n p (shown l).names.nodes g.named.node_order (sym k ∙ h))))
              (pick-false _ _ _ _ (le-ltb 0 d.links bare) refl ∙ onward)
