-- What create does: its refusals, which leave the names as they were, and the node and the entry that it makes.
-- Assumes nothing.
use Rattle.std.specs.Prelude.{Some, None, Err}
use mathlib.Core.Path.{◌≡◌, refl, sym, ◌∙◌}
use mathlib.Core.Bool.{Bool, true, false}
use mathlib.Core.List.{List, [], ◌∷◌, ◌++◌, append-nil}
use mathlib.Core.Option.{Option, none, some}
use Prim.Native.Nat.{ℕ, ◌+◌, ◌<◌}
use native.Mathlib.Omega.{arith}
use lib.Dec.{eqb}
use lib.ListN.{length}
use lib.Seq.{take-length, drop-length}
use borrow.Author.Tests.{eq-eqb, ne_eqb, eqb-false, leb-false}
use Rattle.words.specs.Tables.{Each, insert_at}
use Rattle.words.proofs.Joined.{either-false}
use Rattle.words.proofs.Rules.{says-eqb}
use Rattle.words.proofs.Order.{each_map, each-insert}
use Rattle.words.proofs.Counting.{bit-same, bit-apart, none_pass}
use Rattle.words.proofs.Tables.{length-insert_at}
use Rattle.words.proofs.Search.{find_none}
use Rattle.words.proofs.FoundRows.{find-insert-other, find-insert-here}
use Rattle.types.specs.declared.Error.{Error}
use Rattle.types.specs.declared.Error.TheVariants.{InvalidArgument}
use Rattle.types.specs.declared.FileType.{FileType}
use Rattle.types.specs.declared.NodeRecord.{NodeRecord}
use Rattle.paths.specs.Path.{name_allowed}
use Rattle.volume.specs.declared.ChunkRow.{ChunkRow}
use Rattle.types.specs.Kinds.{Kind, kind_of}
use Rattle.volume.specs.Rows.{Entry}
use Rattle.volume.specs.Volume.{Names, Store}
use Rattle.volume.specs.Framed.{NamesFits}
use Rattle.volume.specs.Sound.{node, naming, entries_of, node_before, NodeGood, Named, Owned, ChunksOwned}
use Rattle.volume.specs.Steps.{NamesStep, remain, turn, changed, with_node}
use Rattle.tables.proofs.NodeRows.{node-is, node-each}
use Rattle.tables.proofs.ChangedRow.{length-changed, numbers-kept, order-kept}
use Rattle.tables.proofs.ChangedNames.{node-other, look-changed}
use Rattle.names.specs.Entering.{most_node, new_entry, entered, with_entry, new_node, created, no_row_room, on_kind, where_new, create}
use Rattle.words.proofs.Middle.{asc-in}
use Rattle.names.proofs.Entered.{naming-entered, entries-entered}
use Rattle.names.proofs.Enterable.{OnParent, no-parent, has-parent, on-parent, WhereNew, no_place, has-place, where-new}
use Rattle.names.proofs.Grown.{Follows, added, parent-follows, other-follows, RowsFollow, grown-kept}
use Rattle.words.specs.Rules.{Says, holds, fails}
use Rattle.tables.specs.OneRow.{sized}
use Rattle.names.specs.Enterable.{LinkedParent, Enterable}

-- ---- the call taken apart

-- create is refused, or makes a node and an entry
pub data Creates (p : ℕ) (name : List ℕ) (byte : ℕ) (a : Names) : NamesStep → Type 0 where
  refuses-create : (e : Error) → Creates p name byte a (remain e a)
  creates : (r : NodeRecord) (kind : FileType) → LinkedParent p a r → Enterable p name a → kind_of byte ≡ Some kind → length a.nodes < a.node_room → (a.next_node ≡ most_node → ⊥)
      → Creates p name byte a (turn a.next_node (created p name kind a))

-- nothing is used up
pub room-left : (a : Names) → no_row_room a ≡ false → (length a.nodes < a.node_room) × (length a.entries < a.entry_room) × (a.next_node ≡ most_node → ⊥)
unfolding no_row_room
room-left a e =
    let h = either-false _ _ e in
    let k = either-false _ _ h.1 in
    (leb-false _ _ h.0, leb-false _ _ k.0, eqb-false _ _ k.1)

pub creates-view : (p : ℕ) (name : List ℕ) (byte : ℕ) (a : Names) → Creates p name byte a (create p name byte a)
unfolding create on_kind
creates-view p name byte a = parents (create p name byte a) (on-parent p name a (λ e. remain e a) (on_kind (remain InvalidArgument a) call (kind_of byte)))
  where
    call : FileType → NamesStep
    call kind = where_new p name (no_row_room a) a (turn a.next_node (created p name kind a))

    places : (r : NodeRecord) → LinkedParent p a r → name_allowed name ≡ true → (kind : FileType) → kind_of byte ≡ Some kind → (s : NamesStep) → WhereNew p name (no_row_room a) a (turn a.next_node (created p name kind a)) s → Creates p name byte a s
    places r t n kind e s (no_place x) = refuses-create x
    places r t n kind e s (has-place w f i) = let l = room-left a f in creates r kind t (record { allowed = n; new = w; room = l.1; index = i }) e l.0 l.2

    kinds : (r : NodeRecord) → LinkedParent p a r → name_allowed name ≡ true → (k : Kind) → kind_of byte ≡ k → Creates p name byte a (on_kind (remain InvalidArgument a) call k)
    kinds r t n (Some kind) e = places r t n kind e (call kind) (where-new p name (no_row_room a) a (turn a.next_node (created p name kind a)))
    kinds r t n None e = refuses-create InvalidArgument

    parents : (s : NamesStep) → OnParent NamesStep p name a (λ e. remain e a) (on_kind (remain InvalidArgument a) call (kind_of byte)) s → Creates p name byte a s
    parents s (no-parent x) = refuses-create x
    parents s (has-parent r t n) = kinds r t n (kind_of byte) refl

-- ---- a row at the end

-- it is one put in behind all
last-in : {R : Type 0} (r : R) (rs : List R) → insert_at (length rs) r rs ≡ rs ++ (r ∷ [])
unfolding insert_at
last-in r rs = rw (take-length rs, drop-length rs)

-- ---- the next node of good names

module _ (a : Names) (g : Named a) where
  -- it has no row
  pub next-free : node a.next_node a ≡ none
  unfolding node
  next-free = find_none (λ s. eqb s.node a.next_node) a.nodes (each_map _ _ (λ s h. ne_eqb s.node a.next_node (λ q. omega arith)) a.nodes g.fresh)

  -- no entry names it or stands in it
  pub next-unnamed : naming a.next_node a.entries ≡ 0
  unfolding naming
  next-unnamed = none_pass (λ c. eqb c.node a.next_node) a.entries (each_map _ _ (λ c h. ne_eqb c.node a.next_node (λ q. rw (q, next-free) at h)) a.entries g.targets)

  pub next-empty : entries_of a.next_node a.entries ≡ 0
  unfolding entries_of
  next-empty = none_pass (λ c. eqb c.parent a.next_node) a.entries (each_map _ _ (λ c h. ne_eqb c.parent a.next_node (λ q. rw (q, next-free) at h)) a.entries g.parents)

-- ---- the node and the entry made

module _ (p : ℕ) (name : List ℕ) (kind : FileType) (a : Names) (r : NodeRecord) (t : LinkedParent p a r) (g : Named a) where
  abbrev entry_more : NodeRecord → NodeRecord
  entry_more s = sized (s.size + 1) s

  abbrev rows : List NodeRecord
  rows = changed p entry_more a.nodes

  -- the parent is not the next node
  parent-below : p < a.next_node
  parent-below = rw (← node-is p a r t.row) (node-each p a r t.row (λ s. s.node < a.next_node) g.fresh)

  -- the new node has its row, and the others those that the parent's change leaves
  pub created-here : node a.next_node (created p name kind a) ≡ some (new_node a.next_node kind)
  unfolding node created with_entry
  created-here =
      rw (← last-in (new_node a.next_node kind) rows)
      (find-insert-here (λ s. eqb s.node a.next_node) (length rows) (new_node a.next_node kind) rows (eq-eqb a.next_node a.next_node refl)
      (node-other p entry_more (λ s. refl) r a t.row a.next_node (λ q. omega (arith, parent-below)) ∙ next-free a g))

  created-other : (k : ℕ) → (k ≡ a.next_node → ⊥) → node k (created p name kind a) ≡ node k (with_node p entry_more a)
  unfolding node created with_entry
  created-other k h =
      rw (← last-in (new_node a.next_node kind) rows) (find-insert-other (λ s. eqb s.node k) (length rows) (new_node a.next_node kind) rows (ne_eqb a.next_node k (λ q. h (sym q))))

  -- the row of a number: the new node's, the parent's with one entry more, and the others as they were
  pub look-created : (P : Option NodeRecord → Type 0) (k : ℕ) → (k ≡ a.next_node → P (some (new_node a.next_node kind))) → (k ≡ p → P (some (sized (r.size + 1) r)))
      → ((k ≡ a.next_node → ⊥) → (k ≡ p → ⊥) → P (node k a)) → P (node k (created p name kind a))
  look-created P k here its there = go (eqb k a.next_node) (says-eqb k a.next_node)
    where
      go : (b : Bool) → Says (k ≡ a.next_node) b → P (node k (created p name kind a))
      go true (holds q) = rw (q, created-here) (here q)
      go false (fails q) = rw (created-other k q) (look-changed p entry_more (λ s. refl) r a t.row P k its (there q))

  abbrev new : Entry
  new = new_entry p name a.next_node a.entries

  -- its row is good
  new-good : NodeGood (entered new a.entries) (new_node a.next_node kind)
  new-good =
      let n : naming a.next_node (entered new a.entries) ≡ 1 = omega (arith, naming-entered new a.entries a.next_node, bit-same a.next_node, next-unnamed a g) in
      record {
        named = λ _. omega arith;
        unlimited = λ _. refl;
        entries = λ _. omega (arith, entries-entered new a.entries a.next_node, bit-apart p a.next_node (λ q. omega (arith, parent-below)), next-empty a g);
        unlinked = λ _ _. refl;
        links = omega (arith, bit-apart a.next_node 0 (λ q. omega (arith, parent-below)));
        size = omega arith;
      }

  module _ (f : NamesFits a) (more : length a.nodes < a.node_room) (last : a.next_node ≡ most_node → ⊥) where
    -- every row follows the entry
    created-row : (k : ℕ) → Follows new a.entries (node k a) (node k (created p name kind a))
    created-row k = look-created (Follows new a.entries (node k a)) k
        (λ q. rw (q, next-free a g) (added (new_node a.next_node kind) new-good (record { node = f.next_node; links = omega arith; size = omega arith; limit = omega arith })))
        (λ q. rw q (parent-follows p a new r t refl (λ z. omega (arith, parent-below))))
        (λ x y. other-follows k a new y x)

    created-follows : RowsFollow p name a.next_node a (a.next_node + 1) (rows ++ (new_node a.next_node kind ∷ []))
    unfolding created with_entry
    created-follows = record {
      rows = created-row;
      target = rw created-here tt;
      unrooted = λ q. omega (arith, parent-below);
      known = omega arith;
      order = asc-in node_before (new_node a.next_node kind) rows [] (rw append-nil (order-kept p entry_more (λ s. refl) a.nodes g.node_order)) (numbers-kept p entry_more (λ s. refl) (λ k. k < a.next_node) a.nodes g.fresh) (unfold Each in tt);
      below = rw (← last-in (new_node a.next_node kind) rows) (each-insert (λ s. s.node < a.next_node + 1) (length rows) (new_node a.next_node kind) rows (omega arith) (numbers-kept p entry_more (λ s. refl) (λ k. k < a.next_node + 1) a.nodes (each_map _ _ (λ s h. omega arith) a.nodes g.fresh)));
      room = rw (← last-in (new_node a.next_node kind) rows) (omega (arith, length-insert_at (length rows) (new_node a.next_node kind) rows (omega arith), length-changed p entry_more a.nodes));
      next = omega arith;
    }

    -- the names stay good and fit
    pub created-kept : Enterable p name a → NamesFits (created p name kind a) × Named (created p name kind a)
    unfolding created with_entry
    created-kept w = grown-kept p name a.next_node a (a.next_node + 1) (rows ++ (new_node a.next_node kind ∷ [])) f g t w created-follows

  -- neither the parent nor the new node has chunks
  pub created-owned : (s : Store) → ChunksOwned a s → ChunksOwned (created p name kind a) s
  created-owned s o = each_map _ _ owned s.chunks o
    where
      owned : (c : ChunkRow) → Owned s.allocator.chunk_size s.bytes c (node c.node a) → Owned s.allocator.chunk_size s.bytes c (node c.node (created p name kind a))
      owned c h = look-created (Owned s.allocator.chunk_size s.bytes c) c.node
          (λ q. absurd (rw (q, next-free a g) at h))
          (λ q. absurd (let k = rw (q, t.row) at h in k.file t.kind))
          (λ x y. h)

-- ---- what it leaves

-- good names that fit stay so
pub create-kept : (p : ℕ) (name : List ℕ) (byte : ℕ) (a : Names) → NamesFits a → Named a → NamesFits (create p name byte a).after × Named (create p name byte a).after
create-kept p name byte a f g = go (create p name byte a) (creates-view p name byte a)
  where
    go : (s : NamesStep) → Creates p name byte a s → NamesFits s.after × Named s.after
    go s (refuses-create e) = (f, g)
    go s (creates r kind t w k more last) = created-kept p name kind a r t g f more last w

-- and so do chunks that their nodes own
pub create-owned : (p : ℕ) (name : List ℕ) (byte : ℕ) (a : Names) (s : Store) → Named a → ChunksOwned a s → ChunksOwned (create p name byte a).after s
create-owned p name byte a s g o = go (create p name byte a) (creates-view p name byte a)
  where
    go : (z : NamesStep) → Creates p name byte a z → ChunksOwned z.after s
    go z (refuses-create e) = o
    go z (creates r kind t w k more last) = created-owned p name kind a r t g s o

-- a refusal leaves the names as they were
pub create-leaves : (p : ℕ) (name : List ℕ) (byte : ℕ) (a : Names) (e : Error) → (create p name byte a).answer ≡ Err e → (create p name byte a).after ≡ a
create-leaves p name byte a e = go (create p name byte a) (creates-view p name byte a)
  where
    go : (s : NamesStep) → Creates p name byte a s → s.answer ≡ Err e → s.after ≡ a
    go s (refuses-create x) q = refl
    go s (creates r kind t w k more last) q = absurd cc
