-- What link does, step by step: its refusals, which leave the bytes as they were, and what its stores leave.
-- Assumes nothing.
use Rattle.std.specs.Prelude.{Some, Ok, Err}
use mathlib.Core.Path.{◌≡◌, refl, sym, ap, ◌∙◌}
use mathlib.Core.Bool.{Bool, true}
use mathlib.Core.List.{List}
use mathlib.Core.Option.{some}
use Prim.Native.Nat.{ℕ, ◌+◌, ◌^◌, ◌<◌}
use native.Mathlib.Omega.{arith}
use lib.Dec.{eqb, leb}
use lib.ListN.{length, set}
use borrow.Author.Tests.{leb-false}
use Rattle.words.proofs.Counting.{bit-most}
use Rattle.types.specs.declared.Error.{Error}
use Rattle.types.specs.declared.NodeRecord.{NodeRecord}
use Rattle.types.proofs.Nodes.{no-directory}
use Rattle.paths.specs.Path.{name_allowed}
use Rattle.volume.specs.declared.Layout.{Layout}
use Rattle.volume.specs.Volume.{Names, Volume, shown, laid, with_nodes, on_names}
use Rattle.volume.specs.Framed.{NodeFits}
use Rattle.volume.specs.Sound.{node, NodeGood, Good}
use Rattle.volume.specs.Steps.{NamesStep, remain, turn, changed}
use Rattle.volume.specs.Files.{on_file}
use Rattle.tables.specs.Tables.{Ready, node_at, found_node}
use Rattle.tables.proofs.ChangedRow.{length-changed, order-kept, row-set}
use Rattle.tables.proofs.NodeRows.{node-each}
use Rattle.files.specs.declared.files.RowAt.{RowAt}
use Rattle.tables.proofs.ChangedPlaces.{other_place, found-changed}
use Rattle.files.proofs.FileRows.{IsFile, file-found, file-goes-on, file-refused}
use Rattle.names.specs.Entering.{with_entry, linked_to, where_new, link}
use Rattle.names.proofs.Grown.{naming-most}
use Rattle.directories.specs.declared.entering.Spot.{Spot}
use Rattle.directories.specs.Spots.{parent_found, IsParent, new_spot, spot_found}
use Rattle.directories.proofs.ParentRows.{parent-found, parent-goes-on, parent-refused}
use Rattle.directories.proofs.NewSpots.{IsSpot, spot-found, spot-goes-on, spot-refused, spot-enters}
use Rattle.directories.proofs.EntrySteps.{entry_more, adding-asked, entered-shown, entered-ready}
use Rattle.directories.proofs.NameMeets.{NameMeets, name_meets, name-refused}
use Rattle.tables.specs.OneRow.{linked}
use Rattle.files.specs.FileRows.{file_found}
use Rattle.names.specs.Enterable.{Enterable}

-- a file's row with a link more
abbrev link_more : NodeRecord → NodeRecord
link_more r = linked (r.links + 1) r

module _ (l : List ℕ) (y : Layout) (ready : Ready l y) (good : Good (shown l)) (p : ℕ) (name : List ℕ) (t : ℕ) where
  abbrev v : Volume
  v = shown l

  abbrev a : Names
  a = v.names

  -- a call from its spot on, and from its target on
  abbrev from_spot : NamesStep
  from_spot = turn 0 (linked_to p name t a)

  abbrev from_target : NodeRecord → NamesStep
  from_target r = where_new p name (leb a.entry_room (length a.entries)) a from_spot

  abbrev refuse : Error → NamesStep
  refuse e = remain e a

  -- ---- the refusals

  pub link-homeless : {e : Error} → Err e ≡ parent_found p name a.nodes → NameMeets (Err e) l (link p name t) v
  unfolding link
  link-homeless {e} h = name-refused l ready.formed (link p name t) e (parent-refused p name a good.named.node_order refuse (on_file t a refuse from_target) h)

  module _ {d : RowAt} (h : Ok d ≡ parent_found p name a.nodes) where
    its : IsParent p a d × (name_allowed name ≡ true)
    its = parent-found p name a good.named.node_order h

    past-parent : {s : NamesStep} → s ≡ on_file t a refuse from_target → s ≡ link p name t a
    unfolding link
    past-parent e = e ∙ parent-goes-on p name a good.named.node_order refuse (on_file t a refuse from_target) its.0 its.1

    pub link-targetless : {e : Error} → Err e ≡ file_found t a.nodes → NameMeets (Err e) l (link p name t) v
    link-targetless {e} ht = name-refused l ready.formed (link p name t) e (past-parent (file-refused refuse from_target t a good.named.node_order refl ht))

    module _ {f : RowAt} (ht : Ok f ≡ file_found t a.nodes) {full : Bool} (used : full ≡ leb a.entry_room (length a.entries)) where
      target : IsFile t a f
      target = file-found t a refl ht

      target_small : t < 2 ^ 64
      target_small = rw (← target.number) (node-each t a f.row target.row NodeFits ready.formed.fits.names.node_rows).node

      past-target : {s : NamesStep} → s ≡ where_new p name full a from_spot → s ≡ link p name t a
      past-target e = past-parent (e ∙ ap (λ u. where_new p name u a from_spot) used ∙ file-goes-on t a refl ht refuse from_target)

      pub link-crowded : {e : Error} → Err e ≡ spot_found p name full a.entries → NameMeets (Err e) l (link p name t) v
      link-crowded {e} hs = name-refused l ready.formed (link p name t) e (past-target (spot-refused p name full a from_spot hs))

      module _ {s : Spot} (hs : Ok s ≡ spot_found p name full a.entries) where
        here : IsSpot p name full a s
        here = spot-found p name full a hs

        enterable : Enterable p name a
        enterable = spot-enters p name full a here its.1 (leb-false _ _ (sym used ∙ here.free))

        -- what `add_entry` asks
        pub link-enters : Ready l y × Good v × IsParent d.row.node a d × Enterable d.row.node name a × (s ≡ new_spot d.row.node a.entries)
        link-enters = adding-asked l y ready good p name t target_small its.0 enterable here.spot

        -- a file has few links
        pub link-counts : f.row.links + 1 < 2 ^ 64
        link-counts =
            let g = node-each t a f.row target.row (NodeGood a.entries) good.named.nodes in
            omega (arith, g.links, naming-most f.row.node a.entries, bit-most (eqb f.row.node 0), ready.formed.fits.names.entries, ready.formed.fits.names.entry_room)

        -- the parent is not the target
        apart : f.row.node ≡ p → ⊥
        apart e =
            let same : some f.row ≡ some d.row = sym target.row ∙ ap (λ (n : ℕ). node n a) (sym target.number ∙ e) ∙ its.0.linked.row in
            let r : f.row ≡ d.row = cc in
            no-directory f.row.kind target.file (ap (λ x. x.kind) r ∙ its.0.linked.kind)

        -- the rows with an entry more, and the volume with it
        abbrev rows : List NodeRecord
        rows = changed p entry_more a.nodes

        abbrev v₁ : Volume
        v₁ = on_names (with_entry p name t) v

        target-place : Some f.place ≡ found_node t rows
        target-place = target.found ∙ sym (found-changed p entry_more (λ x. refl) t a.nodes)

        target_row : f.row ≡ node_at rows f.place
        target_row = target.here ∙ sym (other_place p entry_more a.nodes f.place target.place (rw (← target.here) apart))

        module _ {m : List ℕ} (e : m ≡ laid (on_names (with_entry d.row.node name t) v)) where
          shown₁ : shown m ≡ v₁
          shown₁ = entered-shown l y ready good p name t target_small its.0 enterable e

          -- what `change_node` asks
          pub link-changes : Ready m y × (f.place < length (shown m).names.nodes)
          unfolding with_entry
          link-changes = (entered-ready l y ready good p name t target_small its.0 enterable e, rw (shown₁, length-changed p entry_more a.nodes) target.place)

          pub link-done : {row : NodeRecord} → row ≡ link_more f.row → {o : List ℕ} → o ≡ laid (on_names (with_nodes (set (shown m).names.nodes f.place row)) (shown m)) → NameMeets (Ok 0) o (link p name t) v
          unfolding linked_to with_entry
          link-done new {o} g =
              let whole : o ≡ laid (record { names = linked_to p name t a; store = v.store }) = row-set t link_more rows f.place (order-kept p entry_more (λ x. refl) a.nodes good.named.node_order) target-place (new ∙ ap link_more target_row) v₁ refl m shown₁ g in
              name_meets v (link p name t) from_spot whole (past-target (spot-goes-on p name full a from_spot here))
