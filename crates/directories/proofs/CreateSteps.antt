-- What create does, step by step: its refusals, which leave the bytes as they were, and what its stores leave.
-- Assumes nothing.
use Rattle.std.specs.Prelude.{Some, None, Ok, Err}
use mathlib.Core.Path.{◌≡◌, refl, sym, ap, ◌∙◌}
use mathlib.Core.Bool.{Bool, true}
use mathlib.Core.List.{List, [], ◌∷◌, ◌++◌}
use Prim.Native.Nat.{ℕ, ◌+◌, ◌^◌, ◌<◌}
use native.Mathlib.Omega.{arith}
use lib.ListN.{length}
use Rattle.types.specs.declared.Error.{Error}
use Rattle.types.specs.declared.Error.TheVariants.{InvalidArgument}
use Rattle.types.specs.declared.FileType.{FileType}
use Rattle.types.specs.declared.NodeRecord.{NodeRecord}
use Rattle.paths.specs.Path.{name_allowed}
use Rattle.volume.specs.declared.Layout.{Layout}
use Rattle.types.specs.Kinds.{kind_of}
use Rattle.volume.specs.Volume.{Names, Volume, shown, laid, with_next_node, with_nodes, on_names}
use Rattle.volume.specs.Framed.{NamesFits, Fits}
use Rattle.volume.specs.Sound.{Good}
use Rattle.volume.specs.Steps.{NamesStep, remain, turn}
use Rattle.volume.proofs.Framed.{fits_next}
use Rattle.tables.specs.Tables.{Ready}
use Rattle.tables.proofs.ChangedRow.{length-changed}
use Rattle.tables.proofs.ReadyVolume.{shown-as, ready-as}
use Rattle.files.specs.declared.files.RowAt.{RowAt}
use Rattle.names.specs.Entering.{most_node, with_entry, new_node, created, no_row_room, on_kind, where_new, create}
use Rattle.names.proofs.Created.{created-kept, room-left}
use Rattle.directories.specs.declared.entering.Spot.{Spot}
use Rattle.directories.specs.Spots.{parent_found, IsParent, new_spot, spot_found}
use Rattle.directories.proofs.ParentRows.{parent-found, parent-goes-on, parent-refused}
use Rattle.directories.proofs.NewSpots.{IsSpot, spot-found, spot-goes-on, spot-refused, spot-enters}
use Rattle.directories.proofs.EntrySteps.{entry_more, adding-asked, entered-shown, entered-ready}
use Rattle.directories.proofs.NameMeets.{NameMeets, name_meets, name-refused}
use Rattle.names.specs.Enterable.{Enterable}

module _ (l : List ℕ) (y : Layout) (ready : Ready l y) (good : Good (shown l)) (p : ℕ) (name : List ℕ) (byte : ℕ) where
  abbrev v : Volume
  v = shown l

  abbrev a : Names
  a = v.names

  -- a call from its parent on, from its kind on, and from its spot on
  abbrev from_spot : FileType → NamesStep
  from_spot kind = turn a.next_node (created p name kind a)

  abbrev from_kind : FileType → NamesStep
  from_kind kind = where_new p name (no_row_room a) a (from_spot kind)

  abbrev from_parent : NamesStep
  from_parent = on_kind (remain InvalidArgument a) from_kind (kind_of byte)

  -- ---- the refusals

  pub create-homeless : {e : Error} → Err e ≡ parent_found p name a.nodes → NameMeets (Err e) l (create p name byte) v
  unfolding create
  create-homeless {e} h = name-refused l ready.formed (create p name byte) e (parent-refused p name a good.named.node_order (λ x. remain x a) from_parent h)

  module _ {d : RowAt} (h : Ok d ≡ parent_found p name a.nodes) where
    its : IsParent p a d × (name_allowed name ≡ true)
    its = parent-found p name a good.named.node_order h

    past-parent : {s : NamesStep} → s ≡ from_parent → s ≡ create p name byte a
    unfolding create
    past-parent e = e ∙ parent-goes-on p name a good.named.node_order (λ x. remain x a) from_parent its.0 its.1

    pub create-kindless : None ≡ kind_of byte → NameMeets (Err InvalidArgument) l (create p name byte) v
    unfolding on_kind
    create-kindless e = name-refused l ready.formed (create p name byte) InvalidArgument (past-parent (rw (← e) refl))

    module _ {kind : FileType} (known : Some kind ≡ kind_of byte) {full : Bool} (used : full ≡ no_row_room a) where
      past-kind : {s : NamesStep} → s ≡ where_new p name full a (from_spot kind) → s ≡ create p name byte a
      unfolding on_kind
      past-kind {s} e = past-parent (e ∙ ap (λ f. where_new p name f a (from_spot kind)) used ∙ ap (on_kind (remain InvalidArgument a) from_kind) known)

      pub create-crowded : {e : Error} → Err e ≡ spot_found p name full a.entries → NameMeets (Err e) l (create p name byte) v
      create-crowded {e} hs = name-refused l ready.formed (create p name byte) e (past-kind (spot-refused p name full a (from_spot kind) hs))

      module _ {s : Spot} (hs : Ok s ≡ spot_found p name full a.entries) where
        here : IsSpot p name full a s
        here = spot-found p name full a hs

        left : (length a.nodes < a.node_room) × (length a.entries < a.entry_room) × (a.next_node ≡ most_node → ⊥)
        left = room-left a (sym used ∙ here.free)

        enterable : Enterable p name a
        enterable = spot-enters p name full a here its.1 left.1

        -- what `add_entry` asks
        pub create-enters : Ready l y × Good v × IsParent d.row.node a d × Enterable d.row.node name a × (s ≡ new_spot d.row.node a.entries)
        create-enters = adding-asked l y ready good p name a.next_node ready.formed.fits.names.next_node its.0 enterable here.spot

        -- the volume with the entry, with the node's row besides, and with the next node
        abbrev v₁ : Volume
        v₁ = on_names (with_entry p name a.next_node) v

        abbrev v₂ : Volume
        v₂ = on_names (with_nodes ((with_entry p name a.next_node a).nodes ++ (new_node a.next_node kind ∷ []))) v₁

        fits₃ : NamesFits (created p name kind a)
        fits₃ = (created-kept p name kind a d.row its.0.linked good.named ready.formed.fits.names left.0 left.2 enterable).0

        fits₂ : Fits v₂
        unfolding created with_entry
        fits₂ = record { names = fits_next (created p name kind a) fits₃ a.next_node ready.formed.fits.names.next_node; store = ready.formed.fits.store }

        -- the node's number is not the last
        pub create-counts : {n : ℕ} → n ≡ a.next_node → n + 1 < 2 ^ 64
        create-counts e = omega (arith, left.2, ready.formed.fits.names.next_node)

        module _ {n : ℕ} (next : n ≡ a.next_node) {m : List ℕ} (e : m ≡ laid (on_names (with_entry d.row.node name n) v)) where
          laid₁ : m ≡ laid (on_names (with_entry d.row.node name a.next_node) v)
          laid₁ = e ∙ ap (λ (k : ℕ). laid (on_names (with_entry d.row.node name k) v)) next

          shown₁ : shown m ≡ v₁
          shown₁ = entered-shown l y ready good p name a.next_node ready.formed.fits.names.next_node its.0 enterable laid₁

          -- what `append_node` asks
          pub create-appends : Ready m y × (length (shown m).names.nodes < (shown m).names.node_room)
          unfolding with_entry
          create-appends = (entered-ready l y ready good p name a.next_node ready.formed.fits.names.next_node its.0 enterable laid₁, rw (shown₁, length-changed p entry_more a.nodes) left.0)

          module _ {row : NodeRecord} (new : row ≡ new_node n kind) {o : List ℕ} (f : o ≡ laid (on_names (with_nodes ((shown m).names.nodes ++ (row ∷ []))) (shown m))) where
            laid₂ : o ≡ laid v₂
            laid₂ = f ∙ rw (shown₁, new, next)

            -- what `set_next_node` asks
            pub create-moves : Ready o y
            unfolding with_entry
            create-moves = ready-as v₂ fits₂ laid₂ ready.layout

            pub create-done : {z : List ℕ} → z ≡ laid (on_names (with_next_node (n + 1)) (shown o)) → NameMeets (Ok n) z (create p name byte) v
            unfolding created
            create-done {z} g =
                let whole : z ≡ laid (record { names = created p name kind a; store = v.store }) = g ∙ rw (shown-as v₂ fits₂ laid₂, next) in
                rw next (name_meets v (create p name byte) (from_spot kind) whole (past-kind (spot-goes-on p name full a (from_spot kind) here)))
