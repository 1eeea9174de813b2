-- What link does: its refusals, which leave the names as they were, and the entry that it makes for a file.
-- Assumes nothing.
use Rattle.std.specs.Prelude.{Err}
use mathlib.Core.Path.{◌≡◌, refl, sym, ap, ◌∙◌}
use mathlib.Core.Bool.{true}
use mathlib.Core.List.{List}
use mathlib.Core.Option.{Option, some}
use Prim.Native.Nat.{ℕ, ◌+◌, ◌<◌}
use native.Mathlib.Omega.{arith}
use lib.Dec.{leb}
use lib.ListN.{length}
use borrow.Author.Tests.{leb-false}
use Rattle.words.proofs.Order.{each_map}
use Rattle.types.specs.declared.Error.{Error}
use Rattle.types.specs.declared.FileType.TheVariants.{Directory}
use Rattle.types.specs.declared.NodeRecord.{NodeRecord}
use Rattle.paths.specs.Path.{name_allowed}
use Rattle.volume.specs.declared.ChunkRow.{ChunkRow}
use Rattle.volume.specs.Rows.{Entry}
use Rattle.volume.specs.Volume.{Names, Store}
use Rattle.volume.specs.Framed.{NamesFits}
use Rattle.volume.specs.Sound.{node, DirectoryThere, NodeThere, Named, ChunkOwned, Owned, ChunksOwned}
use Rattle.volume.specs.Steps.{NamesStep, remain, turn, changed, with_node}
use Rattle.volume.specs.Files.{on_file}
use Rattle.tables.proofs.NodeRows.{node-is, node-each}
use Rattle.tables.proofs.ChangedRow.{length-changed, numbers-kept, order-kept}
use Rattle.tables.proofs.ChangedNames.{node-other, look-changed}
use Rattle.tables.proofs.Files.{OnFile, stops, goes_on, on-file}
use Rattle.names.specs.Entering.{new_entry, with_entry, linked_to, where_new, link}
use Rattle.names.proofs.Enterable.{OnParent, no-parent, has-parent, on-parent, WhereNew, no_place, has-place, where-new}
use Rattle.names.proofs.Grown.{target-grows, Follows, grown, parent-follows, other-follows, RowsFollow, grown-kept}
use Rattle.tables.specs.OneRow.{sized, linked}
use Rattle.names.specs.Enterable.{LinkedParent, Enterable}

-- ---- the call taken apart

-- d is the row of a file
pub record TargetRow (t : ℕ) (a : Names) (d : NodeRecord) : Type 0 where
  pub row : node t a ≡ some d
  pub file : d.kind ≡ Directory → ⊥

-- link is refused, or makes an entry
pub data Links (p : ℕ) (name : List ℕ) (t : ℕ) (a : Names) : NamesStep → Type 0 where
  refuses-link : (e : Error) → Links p name t a (remain e a)
  links : (r d : NodeRecord) → LinkedParent p a r → Enterable p name a → TargetRow t a d → Links p name t a (turn 0 (linked_to p name t a))

pub links-view : (p : ℕ) (name : List ℕ) (t : ℕ) (a : Names) → Links p name t a (link p name t a)
unfolding link
links-view p name t a = parents (link p name t a) (on-parent p name a refuse (on_file t a refuse call))
  where
    refuse : Error → NamesStep
    refuse e = remain e a

    call : NodeRecord → NamesStep
    call d = where_new p name (leb a.entry_room (length a.entries)) a (turn 0 (linked_to p name t a))

    places : (r d : NodeRecord) → LinkedParent p a r → name_allowed name ≡ true → TargetRow t a d → (s : NamesStep) → WhereNew p name (leb a.entry_room (length a.entries)) a (turn 0 (linked_to p name t a)) s → Links p name t a s
    places r d w n i s (no_place x) = refuses-link x
    places r d w n i s (has-place e f g) = links r d w (record { allowed = n; new = e; room = leb-false _ _ f; index = g }) i

    targets : (r : NodeRecord) → LinkedParent p a r → name_allowed name ≡ true → (s : NamesStep) → OnFile NamesStep t a refuse call s → Links p name t a s
    targets r w n s (stops x) = refuses-link x
    targets r w n s (goes_on d e i k) = places r d w n (record { row = e; file = k }) (call d) (where-new p name (leb a.entry_room (length a.entries)) a (turn 0 (linked_to p name t a)))

    parents : (s : NamesStep) → OnParent NamesStep p name a refuse (on_file t a refuse call) s → Links p name t a s
    parents s (no-parent x) = refuses-link x
    parents s (has-parent r w n) = targets r w n (on_file t a refuse call) (on-file t a refuse call)

-- ---- the entry made

module _ (p : ℕ) (name : List ℕ) (t : ℕ) (a : Names) (r d : NodeRecord) (w : LinkedParent p a r) (i : TargetRow t a d) where
  abbrev entry_more : NodeRecord → NodeRecord
  entry_more s = sized (s.size + 1) s

  abbrev link_more : NodeRecord → NodeRecord
  link_more s = linked (s.links + 1) s

  -- a directory is not the file
  not-target : (k : ℕ) → DirectoryThere (node k a) → k ≡ t → ⊥
  not-target k h q = i.file (rw (q, i.row) at h)

  -- so the parent is not
  apart : p ≡ t → ⊥
  apart = not-target p (rw w.row w.kind)

  target-stays : node t (with_node p entry_more a) ≡ some d
  target-stays = node-other p entry_more (λ s. refl) r a w.row t (λ q. apart (sym q)) ∙ i.row

  -- the row of a number: the file's with one link more, the parent's with one entry more, and the others as they were
  pub look-linked : (P : Option NodeRecord → Type 0) (k : ℕ) → (k ≡ t → P (some (linked (d.links + 1) d))) → (k ≡ p → P (some (sized (r.size + 1) r))) → ((k ≡ t → ⊥) → (k ≡ p → ⊥) → P (node k a)) → P (node k (linked_to p name t a))
  unfolding linked_to with_entry node
  look-linked P k here its there = look-changed t link_more (λ s. refl) d (with_node p entry_more a) target-stays P k here (λ q. look-changed p entry_more (λ s. refl) r a w.row P k its (there q))

  module _ (g : Named a) where
    abbrev new : Entry
    new = new_entry p name t a.entries

    -- every row follows the entry
    linked-row : (k : ℕ) → Follows new a.entries (node k a) (node k (linked_to p name t a))
    linked-row k = look-linked (Follows new a.entries (node k a)) k
        (λ q. rw (q, i.row) (grown d (linked (d.links + 1) d) (target-grows new d (λ z. apart (z ∙ node-is t a d i.row)) (sym (node-is t a d i.row)) i.file)))
        (λ q. rw q (parent-follows p a new r w refl (λ z. apart (sym z))))
        (λ x y. other-follows k a new y x)

    linked-follows : NamesFits a → RowsFollow p name t a a.next_node (changed t link_more (changed p entry_more a.nodes))
    unfolding linked_to with_entry
    linked-follows f = record {
      rows = linked-row;
      target = look-linked NodeThere t (λ _. tt) (λ _. tt) (λ x _. absurd (x refl));
      unrooted = λ q. not-target 0 g.root (sym q);
      known = rw (← node-is t a d i.row) (node-each t a d i.row (λ s. s.node < a.next_node) g.fresh);
      order = order-kept t link_more (λ s. refl) (changed p entry_more a.nodes) (order-kept p entry_more (λ s. refl) a.nodes g.node_order);
      below = numbers-kept t link_more (λ s. refl) (λ k. k < a.next_node) (changed p entry_more a.nodes) (numbers-kept p entry_more (λ s. refl) (λ k. k < a.next_node) a.nodes g.fresh);
      room = omega (arith, length-changed t link_more (changed p entry_more a.nodes), length-changed p entry_more a.nodes, f.nodes);
      next = f.next_node;
    }

    -- the names stay good and fit
    pub linked-kept : NamesFits a → Enterable p name a → NamesFits (linked_to p name t a) × Named (linked_to p name t a)
    unfolding linked_to with_entry
    linked-kept f e = grown-kept p name t a a.next_node (changed t link_more (changed p entry_more a.nodes)) f g w e (linked-follows f)

  -- the parent has no chunks, and the file keeps its own
  pub linked-owned : (s : Store) → ChunksOwned a s → ChunksOwned (linked_to p name t a) s
  linked-owned s o = each_map _ _ owned s.chunks o
    where
      S : ℕ
      S = s.allocator.chunk_size

      file-owned : (c : ChunkRow) → ChunkOwned S s.bytes c d → ChunkOwned S s.bytes c (linked (d.links + 1) d)
      file-owned c h = record { file = h.file; below = h.below; zeros = h.zeros }

      owned : (c : ChunkRow) → Owned S s.bytes c (node c.node a) → Owned S s.bytes c (node c.node (linked_to p name t a))
      owned c h = look-linked (Owned S s.bytes c) c.node
          (λ q. file-owned c (rw (ap (λ (k : ℕ). node k a) q ∙ i.row) at h))
          (λ q. absurd (let k = rw (q, w.row) at h in k.file w.kind))
          (λ x y. h)

-- ---- what it leaves

-- good names that fit stay so
pub link-kept : (p : ℕ) (name : List ℕ) (t : ℕ) (a : Names) → NamesFits a → Named a → NamesFits (link p name t a).after × Named (link p name t a).after
link-kept p name t a f g = go (link p name t a) (links-view p name t a)
  where
    go : (s : NamesStep) → Links p name t a s → NamesFits s.after × Named s.after
    go s (refuses-link e) = (f, g)
    go s (links r d w e i) = linked-kept p name t a r d w i g f e

-- and so do chunks that their nodes own
pub link-owned : (p : ℕ) (name : List ℕ) (t : ℕ) (a : Names) (s : Store) → Named a → ChunksOwned a s → ChunksOwned (link p name t a).after s
link-owned p name t a s g o = go (link p name t a) (links-view p name t a)
  where
    go : (z : NamesStep) → Links p name t a z → ChunksOwned z.after s
    go z (refuses-link e) = o
    go z (links r d w e i) = linked-owned p name t a r d w i s o

-- a refusal leaves the names as they were
pub link-leaves : (p : ℕ) (name : List ℕ) (t : ℕ) (a : Names) (e : Error) → (link p name t a).answer ≡ Err e → (link p name t a).after ≡ a
link-leaves p name t a e = go (link p name t a) (links-view p name t a)
  where
    go : (s : NamesStep) → Links p name t a s → s.answer ≡ Err e → s.after ≡ a
    go s (refuses-link x) q = refl
    go s (links r d w h i) q = absurd cc
