-- An entry taken out in three steps: its row, a link of its node, and its directory's size. From the bytes that the steps leave.
-- Assumes nothing.
use Rattle.std.specs.Prelude.{Some, None, IsSome}
use mathlib.Core.Path.{◌≡◌, refl, sym, ap, ◌∙◌, subst}
use mathlib.Core.Bool.{not}
use mathlib.Core.List.{List, []}
use mathlib.Core.Option.{some}
use Prim.Native.Nat.{ℕ, ◌-◌, ◌≤◌, ◌<◌}
use native.Mathlib.Omega.{arith}
use lib.ListN.{length, set}
use lib.Seq.{get_or-set_other}
use Rattle.words.specs.Tables.{Asc, find, remove_at}
use Rattle.words.proofs.Rules.{true-says}
use Rattle.words.proofs.Order.{each_at}
use Rattle.words.proofs.Only.{each-only, length_both}
use Rattle.words.proofs.Counting.{bit-same}
use Rattle.types.specs.declared.FileType.TheVariants.{Directory}
use Rattle.types.specs.declared.NodeRecord.{NodeRecord}
use Rattle.volume.specs.declared.Layout.{Layout}
use Rattle.volume.specs.Rows.{Entry, read_node, read_entry}
use Rattle.volume.specs.Volume.{Names, shown, laid, with_nodes, with_entries, on_names}
use Rattle.volume.specs.Framed.{NodeFits, EntryFits, NamesFits}
use Rattle.volume.specs.Sound.{node, node_before, DirectoryThere, NodeGood, Good}
use Rattle.volume.specs.Steps.{changed, with_node}
use Rattle.volume.proofs.Framed.{fits-nodes, fits-entries}
use Rattle.tables.specs.Tables.{Ready, node_at, entry_at, found_node, Found}
use Rattle.tables.proofs.TableSearch.{found_at, node-found, node-absent}
use Rattle.tables.proofs.NodeRows.{node-is, node-each}
use Rattle.tables.proofs.ReadyVolume.{names-step}
use Rattle.tables.proofs.ChangedRow.{length-changed, order-kept, changed-set, row-set, each-changed}
use Rattle.files.specs.declared.files.RowAt.{RowAt}
use Rattle.names.specs.Unlinking.{is_entry, without, unlinked}
use Rattle.words.proofs.Middle.{alone_at}
use Rattle.names.proofs.EntryKeys.{says-entry, entry-once, entry-by-key, naming-without, entries_of-without}
use Rattle.names.proofs.Unlinked.{Unlinkable, fewer_links, smaller, unlink-apart}
use Rattle.directories.specs.Verdicts.{Leaves}
use Rattle.tables.specs.OneRow.{sized, linked}

-- ---- an entry that goes

module _ (l : List ℕ) (y : Layout) (ready : Ready l y) (g : Good (shown l)) (p : ℕ) (t : RowAt) (w : Leaves (shown l).names p t) where
  abbrev a : Names
  a = (shown l).names

  abbrev e : Entry
  e = entry_at a.entries p

  there : find (is_entry e.parent e.index) a.entries ≡ some e
  there = each_at (λ f. find (is_entry f.parent f.index) a.entries ≡ some f) a.entries p (read_entry []) (entry-by-key a.entries g.named.entry_order) w.place

  target : node e.node a ≡ some t.row
  unfolding node
  target = (node-found e.node a.nodes t.place w.found).1 ∙ ap (λ (s : NodeRecord). some s) (sym w.here)

  parent-there : DirectoryThere (node e.parent a)
  parent-there = each_at (λ f. DirectoryThere (node f.parent a)) a.entries p (read_entry []) g.named.parents w.place

  -- its directory has a row
  pub parent-found : {x : ℕ} → x ≡ e.parent → (r : Found) → r ≡ found_node x a.nodes → IsSome r
  unfolding node
  parent-found q (Some i) h = refl
  parent-found q None h = absurd (subst DirectoryThere (node-absent e.parent a.nodes g.named.node_order (rw q at h)) parent-there)

  module _ {x above : ℕ} {r : Found} (q : x ≡ e.parent) (k : r ≡ Some above) (h : r ≡ found_node x a.nodes) where
    upper : Some above ≡ found_node e.parent a.nodes
    upper = rw q at (sym k ∙ h)

    -- what `node_row` asks
    pub holder-asked : above < length a.nodes
    holder-asked = (node-found e.parent a.nodes above upper).0

    module _ {d : NodeRecord} (s : d ≡ node_at a.nodes above) where
      holder : node e.parent a ≡ some d
      unfolding node
      holder = (node-found e.parent a.nodes above upper).1 ∙ ap (λ (s : NodeRecord). some s) (sym s)

      directory : d.kind ≡ Directory
      directory = subst DirectoryThere holder parent-there

      can-go : Unlinkable a e
      can-go = record { there = there; row = t.row; target = target; empty = w.empty; holder = d; parent = holder; directory = directory }

      -- its node has a link, and its directory an entry
      pub links-some : 1 ≤ t.row.links
      links-some =
          let n : t.row.node ≡ e.node = node-is e.node a t.row target in
          let k = rw n at (node-each e.node a t.row target (NodeGood a.entries) g.named.nodes).links in
          omega (arith, k, naming-without a.entries g.named.entry_order e there e.node, bit-same e.node)

      pub size-some : 1 ≤ d.size
      size-some =
          let n : d.node ≡ e.parent = node-is e.parent a d holder in
          let k = rw n at ((node-each e.parent a d holder (NodeGood a.entries) g.named.nodes).entries directory) in
          omega (arith, k, entries_of-without a.entries g.named.entry_order e there e.parent, bit-same e.parent)

      -- ---- its row

      abbrev first : Names
      first = with_entries (without e a.entries) a

      row_out : remove_at p a.entries ≡ without e a.entries
      unfolding without
      row_out = sym (alone_at (is_entry e.parent e.index) (read_entry []) a.entries p w.place (true-says (says-entry e.parent e.index e) (refl, refl)) (entry-once a.entries g.named.entry_order e.parent e.index))

      first_fits : NamesFits first
      unfolding without
      first_fits =
          let f = ready.formed.fits.names in
          fits-entries a f _ (omega (arith, f.entries, length_both (λ c. not (is_entry e.parent e.index c)) a.entries)) (each-only EntryFits _ a.entries f.entry_rows)

      module _ {m : List ℕ} (out : m ≡ laid (on_names (with_entries (remove_at p a.entries)) (shown l))) where
        out_step : (shown m ≡ on_names (λ _. first) (shown l)) × Ready m y
        out_step = names-step ready first first_fits refl refl (out ∙ ap (λ es. laid (on_names (with_entries es) (shown l))) row_out)

        -- what `change_node` asks for its node
        pub links-asked : Ready m y × (t.place < length (shown m).names.nodes)
        links-asked = (out_step.1, rw out_step.0 (node-found e.node a.nodes t.place w.found).0)

        -- ---- its node's links

        abbrev second : Names
        second = with_node e.node fewer_links first

        second_fits : NamesFits second
        second_fits =
            let f = first_fits in
            let fewer : NodeFits t.row → NodeFits (fewer_links t.row) = λ h. record { node = h.node; links = omega (arith, h.links); size = h.size; limit = h.limit } in
            fits-nodes first f _ (rw (length-changed e.node fewer_links a.nodes) f.nodes) (each-changed e.node fewer_links NodeFits t.row a.nodes g.named.node_order (unfold node in target) fewer f.node_rows)

        module _ {less : NodeRecord} (row : less ≡ linked (t.row.links - 1) t.row) {o : List ℕ} (put : o ≡ laid (on_names (with_nodes (set (shown m).names.nodes t.place less)) (shown m))) where
          put_step : (shown o ≡ on_names (λ _. second) (shown l)) × Ready o y
          put_step =
              names-step ready second second_fits refl refl
              (row-set e.node fewer_links a.nodes t.place g.named.node_order w.found (row ∙ ap fewer_links w.here) (on_names (λ _. first) (shown l)) refl m out_step.0 put)

          -- the directory's row stands where it stood, as it was
          apart : above ≡ t.place → ⊥
          apart z = unlink-apart a g.named e can-go (sym (node-is e.node a t.row target) ∙ ap (λ (s : NodeRecord). s.node) (w.here ∙ ap (λ (i : ℕ). node_at a.nodes i) (sym z) ∙ sym s) ∙ node-is e.parent a d holder)

          above_same : node_at (changed e.node fewer_links a.nodes) above ≡ d
          above_same = ap (λ rs. node_at rs above) (changed-set e.node fewer_links a.nodes t.place g.named.node_order w.found) ∙ get_or-set_other a.nodes t.place above _ (read_node []) apart ∙ sym s

          above_in : above < length (changed e.node fewer_links a.nodes)
          above_in = rw (length-changed e.node fewer_links a.nodes) holder-asked

          order : Asc node_before (changed e.node fewer_links a.nodes)
          order = order-kept e.node fewer_links (λ r. refl) a.nodes g.named.node_order

          -- what `change_node` asks for its directory
          pub size-asked : Ready o y × (above < length (shown o).names.nodes)
          size-asked = (put_step.1, rw put_step.0 above_in)

          -- ---- its directory's size

          pub entry-taken : {small : NodeRecord} → small ≡ sized (d.size - 1) d → {z : List ℕ} → z ≡ laid (on_names (with_nodes (set (shown o).names.nodes above small)) (shown o)) → z ≡ laid (on_names (unlinked e) (shown l))
          unfolding unlinked
          entry-taken j i =
              row-set e.parent smaller (changed e.node fewer_links a.nodes) above order (found_at e.parent (changed e.node fewer_links a.nodes) above order above_in (ap (λ (s : NodeRecord). s.node) above_same ∙ node-is e.parent a d holder))
              (j ∙ ap smaller (sym above_same)) (on_names (λ _. second) (shown l)) refl o put_step.0 i
