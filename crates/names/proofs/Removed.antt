-- What remove does: its refusals, which leave the volume as it was, and the row that goes with its chunks. A good volume that fits stays one.
-- Assumes nothing.
use Rattle.std.specs.Prelude.{Err}
use mathlib.Core.Path.{◌≡◌, refl, sym, ap, ◌∙◌, subst}
use mathlib.Core.Bool.{Bool, true, false, not}
use mathlib.Core.Option.{Option, none, some, none-ne-some}
use Prim.Native.Nat.{ℕ, ◌+◌, ◌<◌}
use native.Mathlib.Omega.{arith}
use lib.Dec.{eqb, ltb}
use borrow.Author.Tests.{ne_eqb, eqb-true, eqb-false}
use Rattle.words.specs.Rules.{pick, bit, Says, holds, fails}
use Rattle.words.specs.Tables.{Each}
use Rattle.words.proofs.Rules.{says-eqb, says-ltb}
use Rattle.words.proofs.Order.{each_map}
use Rattle.words.proofs.Counting.{bit-same, pass-none}
use Rattle.words.proofs.Only.{each-only, asc-only, find-only, find-gone, length_both}
use Rattle.types.specs.Nodes.{is_directory}
use Rattle.types.specs.declared.Error.{Error}
use Rattle.types.specs.declared.Error.TheVariants.{NoSuchEntry, Busy}
use Rattle.types.specs.declared.FileType.TheVariants.{Directory}
use Rattle.types.specs.declared.NodeRecord.{NodeRecord}
use Rattle.types.proofs.Nodes.{says-directory}
use Rattle.volume.specs.declared.ChunkRow.{ChunkRow}
use Rattle.volume.specs.Rows.{Entry}
use Rattle.volume.specs.Volume.{Names, Store, Volume}
use Rattle.volume.specs.Framed.{NamesFits, Fits}
use Rattle.volume.specs.Sound.{node, naming, entries_of, DirectoryThere, NodeThere, NodeGood, Named, ChunksOwned, Good}
use Rattle.volume.specs.Steps.{Step, stays, becomes}
use Rattle.volume.proofs.Framed.{fits-nodes}
use Rattle.tables.proofs.NodeRows.{node-is, node-each}
use Rattle.store.specs.Cut.{cut_from}
use Rattle.store.specs.Workable.{Workable}
use Rattle.store.proofs.Workable.{stored-workable}
use Rattle.store.proofs.OwnedContent.{Reached, owned-reached, owned-of}
use Rattle.store.proofs.Cut.{cut-size, cut-other, cut_high, byte-other, cut-stored, cut_fits}
use Rattle.names.specs.Removing.{without_node, removed, remove_row, remove}
use Rattle.words.proofs.Middle.{each-pair}
use Rattle.tables.specs.OneRow.{chunk}

-- ---- the cases of a remove

-- it is refused, or a node without links goes
pub data Removes (n : ℕ) (v : Volume) : Step → Type 0 where
  refuses : (e : Error) → Removes n v (stays e v)
  removes : (r : NodeRecord) → node n v.names ≡ some r → r.links ≡ 0 → Removes n v (becomes 0 (removed n v))

-- every remove is one of these
pub remove-cases : (n : ℕ) (v : Volume) → Removes n v (remove n v)
unfolding remove remove_row pick
remove-cases n v = go (node n v.names) refl
  where
    from_row : (r : NodeRecord) → node n v.names ≡ some r → (b : Bool) → Says (0 < r.links) b → Removes n v (pick b (stays Busy v) (becomes 0 (removed n v)))
    from_row r t true s = refuses Busy
    from_row r t false (fails s) = removes r t (omega arith)

    go : (o : Option NodeRecord) → node n v.names ≡ o → Removes n v (remove_row n v o)
    go none t = refuses NoSuchEntry
    go (some r) t = from_row r t (ltb 0 r.links) (says-ltb 0 r.links)

-- ---- the names without a row

module _ (n : ℕ) (a : Names) where
  -- its number has no row any more, and other numbers have the rows they had
  pub without-it : node n (without_node n a) ≡ none
  unfolding without_node node
  without-it = find-gone (λ r. eqb r.node n) (λ r. not (eqb r.node n)) a.nodes (λ r e. rw e)

  pub without_other : (m : ℕ) → (m ≡ n → ⊥) → node m (without_node n a) ≡ node m a
  unfolding without_node node
  without_other m h = find-only (λ r. eqb r.node m) (λ r. not (eqb r.node n)) a.nodes (λ r e. rw (ne_eqb r.node n (λ q. h (sym (eqb-true r.node m e) ∙ q))))

  -- the tables fit as before
  without-fits : NamesFits a → NamesFits (without_node n a)
  unfolding without_node
  without-fits f = fits-nodes a f _ (omega (arith, f.nodes, length_both (λ r. not (eqb r.node n)) a.nodes)) (each-only _ _ a.nodes f.node_rows)

  -- ---- the row of a node without links

  module _ (g : Named a) (r : NodeRecord) (there : node n a ≡ some r) (bare : r.links ≡ 0) where
    -- it is good, as every row
    its : NodeGood a.entries r
    its = node-each n a r there (NodeGood a.entries) g.nodes

    -- nothing counts as a link of it
    counts : 0 ≡ bit (eqb n 0) + naming n a.entries
    counts = sym bare ∙ (rw (node-is n a r there) at its.links)

    -- it is not the root
    not_root : 0 ≡ n → ⊥
    not_root q =
        let h : bit (eqb n 0) ≡ 1 = ap (λ (k : ℕ). bit (eqb k 0)) (sym q) ∙ bit-same 0 in
        omega (arith, h, counts)

    -- no entry names it
    no_target : Each (λ e. e.node ≡ n → ⊥) a.entries
    no_target = each_map (λ e. eqb e.node n ≡ false) (λ e. e.node ≡ n → ⊥) (λ e h. eqb-false e.node n h) a.entries (pass-none (λ e. eqb e.node n) a.entries (unfold naming in omega (arith, counts)))

    -- it is a directory of no entry
    no-parent : Each (λ e. e.parent ≡ n → ⊥) a.entries
    no-parent = go (is_directory r.kind) (says-directory r.kind)
      where
        none_of : r.kind ≡ Directory → entries_of n a.entries ≡ 0
        none_of k = sym (rw (node-is n a r there) at (its.entries k)) ∙ its.unlinked k bare

        go : (b : Bool) → Says (r.kind ≡ Directory) b → Each (λ e. e.parent ≡ n → ⊥) a.entries
        go true (holds k) = each_map (λ e. eqb e.parent n ≡ false) (λ e. e.parent ≡ n → ⊥) (λ e h. eqb-false e.parent n h) a.entries (pass-none (λ e. eqb e.parent n) a.entries (unfold entries_of in none_of k))
        go false (fails k) = each_map (λ e. DirectoryThere (node e.parent a)) (λ e. e.parent ≡ n → ⊥) (λ e h q. k (subst DirectoryThere (ap (λ (m : ℕ). node m a) q ∙ there) h)) a.entries g.parents

    -- so parents and targets stay
    still-each : (key : Entry → ℕ) (P : Option NodeRecord → Type 0) → Each (λ e. key e ≡ n → ⊥) a.entries → Each (λ e. P (node (key e) a)) a.entries → Each (λ e. P (node (key e) (without_node n a))) a.entries
    still-each key P h k =
        each_map (λ e. (key e ≡ n → ⊥) × P (node (key e) a)) (λ e. P (node (key e) (without_node n a))) (λ e z. rw (without_other (key e) z.0) z.1) a.entries (each-pair (λ e. key e ≡ n → ⊥) (λ e. P (node (key e) a)) a.entries h k)

    -- good names stay good
    without-named : Named (without_node n a)
    without-named =
        let root : DirectoryThere (node 0 (without_node n a)) = rw (without_other 0 not_root) g.root in
        let parents : Each (λ e. DirectoryThere (node e.parent (without_node n a))) a.entries = still-each (λ e. e.parent) DirectoryThere no-parent g.parents in
        let targets : Each (λ e. NodeThere (node e.node (without_node n a))) a.entries = still-each (λ e. e.node) NodeThere no_target g.targets in
        unfold without_node in record {
          node_order = asc-only _ _ a.nodes g.node_order;
          entry_order = g.entry_order;
          indexes = g.indexes;
          fresh = each-only _ _ a.nodes g.fresh;
          root = root;
          unnamed = g.unnamed;
          names = g.names;
          parents = parents;
          targets = targets;
          once = g.once;
          nodes = each-only _ _ a.nodes g.nodes;
        }

-- ---- and the store without its chunks

module _ (n : ℕ) (v : Volume) (st : Workable v.store) (o : ChunksOwned v.names v.store) where
  abbrev t : Store
  t = cut_from n 0 v.store

  -- a chunk that stays is of another node, and as it was
  reached : (m k : ℕ) (c : ChunkRow) → chunk m k t.chunks ≡ some c → Reached t m k (node m (without_node n v.names))
  reached m k c e = go (eqb m n) (says-eqb m n)
    where
      same : (m ≡ n → ⊥) → (x : Option NodeRecord) → Reached v.store m k x → Reached t m k x
      same h none b = b
      same h (some d) b = record { file = b.file; below = rw (cut-size n 0 v.store) b.below; zeros = λ j i. byte-other n 0 v.store m j h ∙ b.zeros j i }

      go : (b : Bool) → Says (m ≡ n) b → Reached t m k (node m (without_node n v.names))
      go true (holds q) = absurd (none-ne-some c (sym (cut_high n 0 v.store k (omega arith)) ∙ (rw q at e)))
      go false (fails q) = rw (without_other n v.names m q) (same q (node m v.names) (owned-reached v.names v.store st.size o m k c (sym (cut-other n 0 v.store m k q) ∙ e)))

  -- so what stays is owned
  removed-owned : ChunksOwned (without_node n v.names) t
  removed-owned = owned-of (without_node n v.names) t (cut-stored n 0 v.store st).size (cut-stored n 0 v.store st).stored.order reached

-- ---- any remove

-- a good volume that fits stays one
pub remove-kept : (n : ℕ) (v : Volume) → Fits v → Good v → Fits (remove n v).after × Good (remove n v).after
remove-kept n v f g = go (remove n v) (remove-cases n v)
  where
    st : Workable v.store
    st = stored-workable v.store f.store g.stored

    go : (s : Step) → Removes n v s → Fits s.after × Good s.after
    go s (refuses e) = (f, g)
    go s (removes r there bare) = (
      record { names = without-fits n v.names f.names; store = cut_fits n 0 v.store st f.store },
      record { named = without-named n v.names g.named r there bare; stored = (cut-stored n 0 v.store st).stored; owned = removed-owned n v st g.owned },
    )

-- a refusal leaves the volume as it was
pub remove-refused : (n : ℕ) (v : Volume) (e : Error) → (remove n v).answer ≡ Err e → (remove n v).after ≡ v
remove-refused n v e = go (remove n v) (remove-cases n v)
  where
    go : (s : Step) → Removes n v s → s.answer ≡ Err e → s.after ≡ v
    go s (refuses d) q = refl
    go s (removes r there bare) q = absurd cc
