-- An entry more, step by step: its row put in among the entries, and its directory's size raised. Each leaves a volume that fits.
-- Assumes nothing.
use mathlib.Core.Path.{◌≡◌, refl, sym, ap, ◌∙◌, subst}
use mathlib.Core.List.{List}
use Prim.Native.Nat.{ℕ, ◌+◌, ◌^◌, ◌≤◌, ◌<◌}
use native.Mathlib.Omega.{arith}
use lib.ListN.{length, set}
use Rattle.words.specs.Tables.{insert_at}
use Rattle.words.proofs.Rules.{says-true}
use Rattle.words.proofs.Search.{lead-le}
use Rattle.types.specs.Sizes.{most_name, most_size}
use Rattle.types.specs.declared.NodeRecord.{NodeRecord}
use Rattle.paths.proofs.Names.{says-name}
use Rattle.volume.specs.declared.Layout.{Layout}
use Rattle.volume.specs.Rows.{Entry}
use Rattle.volume.specs.Search.{entry_under}
use Rattle.volume.specs.Volume.{Names, Volume, shown, laid, with_nodes, with_entries, on_names}
use Rattle.volume.specs.Framed.{NodeFits, EntryFits, NamesFits, Fits}
use Rattle.volume.specs.Sound.{node, NodeGood, Named, Good}
use Rattle.volume.specs.Steps.{changed}
use Rattle.volume.proofs.Framed.{fits-nodes, fits-entries}
use Rattle.tables.specs.Tables.{Ready}
use Rattle.tables.proofs.ChangedRow.{length-changed, row-set, each-changed}
use Rattle.tables.proofs.NodeRows.{node-each, size-most}
use Rattle.tables.proofs.ReadyVolume.{shown-as, ready-as}
use Rattle.tables.proofs.TableSearch.{node-found}
use Rattle.files.specs.declared.files.RowAt.{RowAt}
use Rattle.names.specs.Entries.{greatest}
use Rattle.names.specs.Entering.{new_entry, entered, with_entry}
use Rattle.names.proofs.Entered.{index-left, length-entered, each-entered}
use Rattle.directories.specs.declared.entering.Spot.{Spot}
use Rattle.directories.specs.Spots.{IsParent, new_spot}
use Rattle.tables.specs.OneRow.{sized}
use Rattle.names.specs.Enterable.{Enterable}

-- a directory's row with an entry more
abbrev pub entry_more : NodeRecord → NodeRecord
entry_more r = sized (r.size + 1) r

-- ---- the names with it fit

module _ (p : ℕ) (a : Names) (fits : NamesFits a) (good : Named a) {d : RowAt} (its : IsParent p a d) where
  parent-fits : NodeFits d.row
  parent-fits = node-each p a d.row its.linked.row NodeFits fits.node_rows

  pub parent-size : d.row.size ≤ most_size
  parent-size = size-most a.entries d.row (node-each p a d.row its.linked.row (NodeGood a.entries) good.nodes) parent-fits

module _ (p : ℕ) (name : List ℕ) (n : ℕ) (small : n < 2 ^ 64) (a : Names) (fits : NamesFits a) (good : Named a) {d : RowAt} (its : IsParent p a d) (w : Enterable p name a) where
  abbrev new : Entry
  new = new_entry p name n a.entries

  entry-fits : EntryFits new
  entry-fits =
      let l = says-true (says-name name) w.allowed in
      record {
        parent = rw (← its.number) (parent-fits p a fits good its).node;
        node = small;
        index = omega (arith, index-left p a.entries fits.entry_rows w.index);
        name = (l.0.some, l.1);
      }

  -- the entry alone
  fits-entry : NamesFits (with_entries (entered new a.entries) a)
  fits-entry = fits-entries a fits (entered new a.entries) (omega (arith, length-entered new a.entries, w.room)) (each-entered new a.entries EntryFits entry-fits fits.entry_rows)

  -- and the directory's size
  fits-entered : NamesFits (with_entry p name n a)
  unfolding with_entry node
  fits-entered =
      fits-nodes (with_entries (entered new a.entries) a) fits-entry (changed p entry_more a.nodes) (rw (length-changed p entry_more a.nodes) fits.nodes)
      (each-changed p entry_more NodeFits d.row a.nodes good.node_order its.linked.row (λ k. record { node = k.node; links = k.links; size = omega (arith, parent-size p a fits good its); limit = k.limit }) fits.node_rows)

-- ---- in the bytes

module _ (l : List ℕ) (y : Layout) (ready : Ready l y) (good : Good (shown l)) (p : ℕ) (name : List ℕ) (n : ℕ) (small : n < 2 ^ 64) {d : RowAt} (its : IsParent p (shown l).names d) (w : Enterable p name (shown l).names) where
  abbrev v : Volume
  v = shown l

  abbrev es : List Entry
  es = v.names.entries

  -- with the entry alone, and with the directory's size
  abbrev v₁ : Volume
  v₁ = on_names (with_entries (entered (new_entry p name n es) es)) v

  abbrev v₂ : Volume
  v₂ = on_names (with_entry p name n) v

  fits₁ : Fits v₁
  fits₁ = record { names = fits-entry p name n small v.names ready.formed.fits.names good.named its w; store = ready.formed.fits.store }

  fits₂ : Fits v₂
  fits₂ = record { names = fits-entered p name n small v.names ready.formed.fits.names good.named its w; store = ready.formed.fits.store }

  -- what `add_entry` asks
  pub adding-asked : {s : Spot} → s ≡ new_spot p es → Ready l y × Good v × IsParent d.row.node v.names d × Enterable d.row.node name v.names × (s ≡ new_spot d.row.node es)
  adding-asked {s} spot =
      let own : p ≡ d.row.node = sym its.number in
      (ready, good, subst (λ k. IsParent k v.names d) own its, subst (λ k. Enterable k name v.names) own w, subst (λ k. s ≡ new_spot k es) own spot)

  -- what the bytes with both show, and that they are ready
  module _ {m : List ℕ} (e : m ≡ laid (on_names (with_entry d.row.node name n) v)) where
    laid₂ : m ≡ laid v₂
    laid₂ = e ∙ ap (λ (k : ℕ). laid (on_names (with_entry k name n) v)) its.number

    pub entered-shown : shown m ≡ on_names (with_entry p name n) v
    entered-shown = shown-as v₂ fits₂ laid₂

    pub entered-ready : Ready m y
    unfolding with_entry
    entered-ready = ready-as v₂ fits₂ laid₂ ready.layout

  module _ {s : Spot} (spot : s ≡ new_spot p es) where
    -- what `insert_entry` asks
    pub entry-asked : Ready l y × (s.place ≤ length es) × (length es < v.names.entry_room) × (length name ≤ most_name)
    entry-asked = (ready, rw (ap (λ o. o.place) spot) (lead-le (entry_under p (greatest p es + 1)) es), w.room, (says-true (says-name name) w.allowed).1)

    module _ {m : List ℕ} (e : m ≡ laid (on_names (with_entries (insert_at s.place (record { parent = p; node = n; index = s.index; name = name }) es)) v)) where
      laid₁ : m ≡ laid v₁
      unfolding entered
      laid₁ = e ∙ ap (λ o. laid (on_names (with_entries (insert_at o.place (record { parent = p; node = n; index = o.index; name = name }) es)) v)) spot

      shown₁ : shown m ≡ v₁
      shown₁ = shown-as v₁ fits₁ laid₁

      -- what `change_node` asks
      pub size-asked : Ready m y × (d.place < length (shown m).names.nodes)
      size-asked = (ready-as v₁ fits₁ laid₁ ready.layout, rw shown₁ (node-found p v.names.nodes d.place its.found).0)

      -- both done
      pub entry-added : {r : NodeRecord} → r ≡ entry_more d.row → {o : List ℕ} → o ≡ laid (on_names (with_nodes (set (shown m).names.nodes d.place r)) (shown m)) → o ≡ laid (on_names (with_entry p name n) v)
      unfolding with_entry
      entry-added c q = row-set p entry_more v.names.nodes d.place good.named.node_order its.found (c ∙ ap entry_more its.here) v₁ refl m shown₁ q
