-- One file's row changed: the names stay good and fit into bytes.
-- Assumes nothing.
use mathlib.Core.Path.{◌≡◌, sym, ap, ◌∙◌}
use mathlib.Core.Bool.{Bool, true, false}
use mathlib.Core.List.{List}
use mathlib.Core.Option.{Option, some}
use Prim.Native.Nat.{ℕ, ◌+◌, ◌≤◌, ◌<◌}
use native.Mathlib.Omega.{arith}
use lib.Dec.{eqb}
use Rattle.words.specs.Rules.{bit, Says, holds, fails}
use Rattle.words.proofs.Rules.{says-eqb}
use Rattle.words.proofs.Order.{each_map}
use Rattle.types.specs.Sizes.{most_size}
use Rattle.types.specs.Nodes.{limit_word, file_limit}
use Rattle.types.specs.declared.FileType.TheVariants.{Directory}
use Rattle.types.specs.declared.NodeRecord.{NodeRecord}
use Rattle.types.proofs.Nodes.{limit-most}
use Rattle.volume.specs.Rows.{Entry}
use Rattle.volume.specs.Volume.{Names}
use Rattle.volume.specs.Framed.{NodeFits, NamesFits}
use Rattle.volume.specs.Sound.{DirectoryThere, NodeThere, naming, NodeGood, Named, node}
use Rattle.volume.specs.Steps.{changed, with_node}
use Rattle.volume.proofs.Framed.{fits-nodes}
use Rattle.tables.proofs.ChangedRow.{length-changed, each-changed, numbers-kept, order-kept, find-other, find-changed}

-- ---- one row

-- a row that can stand in for the row of a file
pub record Stands (r s : NodeRecord) : Type 0 where
  pub file : r.kind ≡ Directory → ⊥
  pub node : s.node ≡ r.node
  pub kind : s.kind ≡ r.kind
  pub links : s.links ≡ r.links
  pub size : s.size ≤ file_limit s.limit

stands_good : (es : List Entry) (r s : NodeRecord) → Stands r s → NodeGood es r → NodeGood es s
stands_good es r s t g =
    let no : s.kind ≡ Directory → ⊥ = λ e. t.file (sym t.kind ∙ e) in
    record {
      named = λ e. absurd (no e);
      unlimited = λ e. absurd (no e);
      entries = λ e. absurd (no e);
      unlinked = λ e. absurd (no e);
      links = t.links ∙ g.links ∙ ap (λ (k : ℕ). bit (eqb k 0) + naming k es) (sym t.node);
      size = t.size;
    }

stands-fits : (r s : NodeRecord) → Stands r s → limit_word s.limit ≤ most_size → NodeFits r → NodeFits s
stands-fits r s t h f = record {
  node = rw t.node f.node;
  links = rw t.links f.links;
  size = omega (arith, t.size, limit-most s.limit h);
  limit = h;
}

-- ---- the names with it

module _ (n : ℕ) (f : NodeRecord → NodeRecord) (keeps : (r : NodeRecord) → (f r).node ≡ r.node) (r : NodeRecord) (a : Names) (e : node n a ≡ some r) where
  -- the row of a number: at n the changed row, elsewhere the row as it was
  pub node-here : node n (with_node n f a) ≡ some (f r)
  unfolding node
  node-here = find-changed n f keeps r a.nodes e

  pub node-other : (k : ℕ) → (k ≡ n → ⊥) → node k (with_node n f a) ≡ node k a
  unfolding node
  node-other k q = find-other n f keeps k q a.nodes

  -- what holds of it
  pub look-changed : (P : Option NodeRecord → Type 0) (k : ℕ) → (k ≡ n → P (some (f r))) → ((k ≡ n → ⊥) → P (node k a)) → P (node k (with_node n f a))
  look-changed P k here there = go (eqb k n) (says-eqb k n)
    where
      go : (b : Bool) → Says (k ≡ n) b → P (node k (with_node n f a))
      go true (holds q) = rw (q, node-here) (here q)
      go false (fails q) = rw (node-other k q) (there q)

  module _ (t : Stands r (f r)) (g : Named a) where
    pub named-changed : Named (with_node n f a)
    named-changed =
        let dir : (k : ℕ) → DirectoryThere (node k a) → DirectoryThere (node k (with_node n f a)) = λ k h. look-changed DirectoryThere k (λ q. t.kind ∙ (rw (q, e) at h)) (λ _. h) in
        record {
          node_order = order-kept n f keeps a.nodes g.node_order;
          entry_order = g.entry_order;
          indexes = g.indexes;
          fresh = numbers-kept n f keeps (λ k. k < a.next_node) a.nodes g.fresh;
          root = dir 0 g.root;
          unnamed = g.unnamed;
          names = g.names;
          parents = each_map _ _ (λ c h. dir c.parent h) a.entries g.parents;
          targets = each_map _ _ (λ c h. look-changed NodeThere c.node (λ _. tt) (λ _. h)) a.entries g.targets;
          once = g.once;
          nodes = each-changed n f (NodeGood a.entries) r a.nodes g.node_order (unfold node in e) (stands_good a.entries r (f r) t) g.nodes;
        }

    pub fits-changed : (limit_word r.limit ≤ most_size → limit_word (f r).limit ≤ most_size) → NamesFits a → NamesFits (with_node n f a)
    fits-changed h k =
        fits-nodes a k (changed n f a.nodes) (rw (length-changed n f a.nodes) k.nodes)
        (each-changed n f NodeFits r a.nodes g.node_order (unfold node in e) (λ l. stands-fits r (f r) t (h l.limit) l) k.node_rows)
