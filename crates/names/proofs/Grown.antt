-- The nodes that follow an entry more: its directory's size and its node's links rise by 1, a node may be new, and the others stay. Then
-- the names stay good and fit into bytes.
-- Assumes nothing.
use mathlib.Core.Path.{◌≡◌, refl, sym, ◌∙◌}
use mathlib.Core.Bool.{Bool, true, false}
use mathlib.Core.List.{List}
use mathlib.Core.Option.{Option, none, some, none-ne-some}
use Prim.Native.Nat.{ℕ, ◌+◌, ◌^◌, ◌≤◌, ◌<◌}
use native.Mathlib.Omega.{arith}
use lib.Dec.{eqb}
use lib.ListN.{length}
use Rattle.words.specs.Rules.{bit, Says, holds, fails}
use Rattle.words.specs.Tables.{Each, Asc}
use Rattle.words.proofs.Rules.{says-true, says-eqb}
use Rattle.words.proofs.Order.{each_map}
use Rattle.words.proofs.Counting.{bit-same, bit-apart, bit-most, times-most}
use Rattle.types.specs.Sizes.{most_rows}
use Rattle.types.specs.Nodes.{is_directory, file_limit}
use Rattle.types.specs.declared.FileType.TheVariants.{Directory}
use Rattle.types.specs.declared.NodeRecord.{NodeRecord}
use Rattle.types.proofs.Nodes.{says-directory}
use Rattle.paths.specs.Path.{name_allowed}
use Rattle.paths.proofs.Names.{says-name}
use Rattle.volume.specs.Rows.{Entry}
use Rattle.volume.specs.Volume.{Names}
use Rattle.volume.specs.Framed.{NodeFits, EntryFits, NamesFits}
use Rattle.volume.specs.Sound.{node, DirectoryThere, NodeThere, naming, entries_of, node_before, NodeGood, Named}
use Rattle.tables.proofs.NodeRows.{node-is, node-each, size-most, each-node}
use Rattle.names.specs.Entering.{new_entry, entered}
use Rattle.names.proofs.Entered.{index-left, length-entered, each-entered, naming-entered, entries-entered, once-entered, order-entered}
use Rattle.tables.specs.OneRow.{sized, linked}
use Rattle.names.specs.Enterable.{LinkedParent, Enterable}

-- ---- one row

-- s is the row r with an entry more
pub record Grows (e : Entry) (r s : NodeRecord) : Type 0 where
  pub node : s.node ≡ r.node
  pub kind : s.kind ≡ r.kind
  pub limit : s.limit ≡ r.limit
  pub links : s.links ≡ bit (eqb e.node r.node) + r.links
  pub size : s.size ≡ bit (eqb e.parent r.node) + r.size
  -- the entry names no directory that is there, and stands in a directory that is linked
  pub file : e.node ≡ r.node → r.kind ≡ Directory → ⊥
  pub parent : e.parent ≡ r.node → (r.kind ≡ Directory) × (1 ≤ r.links)

-- the parent's row, the row of a file that it names, and any other
module _ (e : Entry) (r : NodeRecord) where
  parent-grows : e.parent ≡ r.node → (e.node ≡ r.node → ⊥) → r.kind ≡ Directory → 1 ≤ r.links → Grows e r (sized (r.size + 1) r)
  parent-grows p n k l = record {
    node = refl;
    kind = refl;
    limit = refl;
    links = omega (arith, bit-apart e.node r.node n);
    size = rw p (omega (arith, bit-same r.node));
    file = λ q. absurd (n q);
    parent = λ _. (k, l);
  }

  pub target-grows : (e.parent ≡ r.node → ⊥) → e.node ≡ r.node → (r.kind ≡ Directory → ⊥) → Grows e r (linked (r.links + 1) r)
  target-grows p n k = record {
    node = refl;
    kind = refl;
    limit = refl;
    links = rw n (omega (arith, bit-same r.node));
    size = omega (arith, bit-apart e.parent r.node p);
    file = λ _. k;
    parent = λ q. absurd (p q);
  }

  other-grows : (e.parent ≡ r.node → ⊥) → (e.node ≡ r.node → ⊥) → Grows e r r
  other-grows p n = record {
    node = refl;
    kind = refl;
    limit = refl;
    links = omega (arith, bit-apart e.node r.node n);
    size = omega (arith, bit-apart e.parent r.node p);
    file = λ q. absurd (n q);
    parent = λ q. absurd (p q);
  }

-- ---- counts are small

entries-most : (m : ℕ) (es : List Entry) → entries_of m es ≤ length es
unfolding entries_of
entries-most m es = times-most (λ e. eqb e.parent m) es

pub naming-most : (m : ℕ) (es : List Entry) → naming m es ≤ length es
unfolding naming
naming-most m es = times-most (λ e. eqb e.node m) es

-- ---- what holds of the row

module _ (e : Entry) (es : List Entry) (few : length es ≤ most_rows) (r s : NodeRecord) (w : Grows e r s) (g : NodeGood es r) where
  grows-good : NodeGood (entered e es) s
  unfolding bit
  grows-good = record {
    named = λ q. let k : r.kind ≡ Directory = sym w.kind ∙ q in rw w.node (omega (arith, g.named k, naming-entered e es r.node, bit-apart e.node r.node (λ z. w.file z k)));
    unlimited = λ q. w.limit ∙ g.unlimited (sym w.kind ∙ q);
    entries = λ q. rw w.node (omega (arith, w.size, g.entries (sym w.kind ∙ q), entries-entered e es r.node));
    unlinked = λ q z. empty (sym w.kind ∙ q) z (eqb e.parent r.node) (says-eqb e.parent r.node) w.size;
    links = rw w.node (omega (arith, w.links, g.links, naming-entered e es r.node));
    size = rw w.limit (small (is_directory r.kind) (says-directory r.kind));
  }
    where
      empty : r.kind ≡ Directory → s.links ≡ 0 → (b : Bool) → Says (e.parent ≡ r.node) b → s.size ≡ bit b + r.size → s.size ≡ 0
      empty k z true (holds h) q = absurd (omega (arith, w.links, (w.parent h).1))
      empty k z false h q = let l : r.links ≡ 0 = omega (arith, w.links) in omega (arith, g.unlinked k l)

      small : (b : Bool) → Says (r.kind ≡ Directory) b → s.size ≤ file_limit r.limit
      small true (holds k) = rw (g.unlimited k) (omega (arith, w.size, g.entries k, entries-most r.node es, bit-most (eqb e.parent r.node)))
      small false (fails k) = omega (arith, w.size, g.size, bit-apart e.parent r.node (λ q. k (w.parent q).0))

  grows-fits : NodeFits r → NodeFits s
  grows-fits f = record {
    node = rw w.node f.node;
    links = omega (arith, w.links, g.links, naming-most r.node es, bit-most (eqb e.node r.node), bit-most (eqb r.node 0));
    size = omega (arith, w.size, size-most es r g f, bit-most (eqb e.parent r.node));
    limit = rw w.limit f.limit;
  }

-- ---- the names with an entry more

-- how the row of a number follows
pub data Follows (e : Entry) (es : List Entry) : Option NodeRecord → Option NodeRecord → Type 0 where
  grown : (r s : NodeRecord) → Grows e r s → Follows e es (some r) (some s)
  added : (s : NodeRecord) → NodeGood (entered e es) s → NodeFits s → Follows e es none (some s)
  absent : Follows e es none none

-- a directory stays one, a node stays there, and good rows stay good
module _ {e : Entry} {es : List Entry} where
  directory-follows : {o q : Option NodeRecord} → Follows e es o q → DirectoryThere o → DirectoryThere q
  directory-follows (grown r s w) h = w.kind ∙ h
  directory-follows (added s g f) h = absurd h
  directory-follows absent h = h

  there-follows : {o q : Option NodeRecord} → Follows e es o q → NodeThere o → NodeThere q
  there-follows (grown r s w) h = tt
  there-follows (added s g f) h = tt
  there-follows absent h = h

  row-follows : length es ≤ most_rows → {o q : Option NodeRecord} → Follows e es o q → ((r : NodeRecord) → o ≡ some r → NodeGood es r × NodeFits r) → (d : NodeRecord) → q ≡ some d → NodeGood (entered e es) d × NodeFits d
  row-follows few (grown r s w) old d h =
      let k : s ≡ d = cc in
      let g = old r refl in
      rw (← k) (grows-good e es few r s w g.0, grows-fits e es few r s w g.0 g.1)
  row-follows few (added s g f) old d h = let k : s ≡ d = cc in rw (← k) (g, f)
  row-follows few absent old d h = absurd (none-ne-some d h)

-- the parent's row, and a row of neither the parent nor the entry's node
pub parent-follows : (p : ℕ) (a : Names) (e : Entry) (r : NodeRecord) → LinkedParent p a r → e.parent ≡ p → (e.node ≡ p → ⊥) → Follows e a.entries (node p a) (some (sized (r.size + 1) r))
parent-follows p a e r t q n = rw t.row (grown r (sized (r.size + 1) r) (parent-grows e r (q ∙ sym (node-is p a r t.row)) (λ z. n (z ∙ node-is p a r t.row)) t.kind t.links))

pub other-follows : (k : ℕ) (a : Names) (e : Entry) → (k ≡ e.parent → ⊥) → (k ≡ e.node → ⊥) → Follows e a.entries (node k a) (node k a)
other-follows k a e p n = go (node k a) refl
  where
    go : (o : Option NodeRecord) → node k a ≡ o → Follows e a.entries o o
    go none h = absent
    go (some s) h = grown s s (other-grows e s (λ q. p (sym (node-is k a s h) ∙ sym q)) (λ q. n (sym (node-is k a s h) ∙ sym q)))

-- an entry of directory p that names n; the nodes after it are rs, and the next is m
module _ (p : ℕ) (name : List ℕ) (n : ℕ) (a : Names) (m : ℕ) (rs : List NodeRecord) where
  abbrev new : Entry
  new = new_entry p name n a.entries

  abbrev pub grown_names : Names
  grown_names = record { node_room = a.node_room; entry_room = a.entry_room; next_node = m; nodes = rs; entries = entered new a.entries }

  -- the rows follow the entry, and its node has one and is not the root
  pub record RowsFollow : Type 0 where
    pub rows : (k : ℕ) → Follows new a.entries (node k a) (node k grown_names)
    pub target : NodeThere (node n grown_names)
    pub unrooted : n ≡ 0 → ⊥
    pub known : n < m
    pub order : Asc node_before rs
    pub below : Each (λ r. r.node < m) rs
    pub room : length rs ≤ a.node_room
    pub next : m < 2 ^ 64

  module _ (f : NamesFits a) (g : Named a) {r : NodeRecord} (t : LinkedParent p a r) (w : Enterable p name a) (k : RowsFollow) where
    few : length a.entries ≤ most_rows
    few = omega (arith, f.entries, f.entry_room)

    each-follows : Each (λ s. NodeGood (entered new a.entries) s × NodeFits s) rs
    each-follows =
        each-node (λ s. NodeGood (entered new a.entries) s × NodeFits s) grown_names k.order
        (λ s h. row-follows few (k.rows s.node) (λ q e. (node-each s.node a q e (NodeGood a.entries) g.nodes, node-each s.node a q e NodeFits f.node_rows)) s h)

    entry-fits : EntryFits new
    entry-fits =
        let l = says-true (says-name name) w.allowed in
        record {
          parent = rw (← node-is p a r t.row) (node-each p a r t.row NodeFits f.node_rows).node;
          node = omega (arith, k.known, k.next);
          index = omega (arith, index-left p a.entries f.entry_rows w.index);
          name = (l.0.some, l.1);
        }

    -- the names stay good and fit
    pub grown-kept : NamesFits grown_names × Named grown_names
    grown-kept = (
      record {
        node_room = f.node_room;
        entry_room = f.entry_room;
        next_node = k.next;
        nodes = k.room;
        entries = omega (arith, length-entered new a.entries, w.room);
        node_rows = each_map _ _ (λ s h. h.1) rs each-follows;
        entry_rows = each-entered new a.entries EntryFits entry-fits f.entry_rows;
      },
      record {
        node_order = k.order;
        entry_order = order-entered p name n a.entries g.entry_order;
        indexes = each-entered new a.entries (λ e. 1 ≤ e.index) (omega arith) g.indexes;
        fresh = k.below;
        root = directory-follows (k.rows 0) g.root;
        unnamed = omega (arith, naming-entered new a.entries 0, bit-apart n 0 k.unrooted, g.unnamed);
        names = each-entered new a.entries (λ e. name_allowed e.name ≡ true) w.allowed g.names;
        parents = each-entered new a.entries (λ e. DirectoryThere (node e.parent grown_names)) (directory-follows (k.rows p) (rw t.row t.kind)) (each_map _ _ (λ e h. directory-follows (k.rows e.parent) h) a.entries g.parents);
        targets = each-entered new a.entries (λ e. NodeThere (node e.node grown_names)) k.target (each_map _ _ (λ e h. there-follows (k.rows e.node) h) a.entries g.targets);
        once = once-entered new a.entries w.new g.once;
        nodes = each_map _ _ (λ s h. h.0) rs each-follows;
      },
    )
