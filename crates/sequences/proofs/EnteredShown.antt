-- What create and link change of what a volume shows: the parent has one name more, and the node that it names is new, or has one link more.
-- Assumes nothing.
use Rattle.std.specs.Prelude.{Ok}
use mathlib.Core.Path.{◌≡◌, refl, sym, ap, ◌∙◌}
use mathlib.Core.List.{List}
use mathlib.Core.Option.{Option, some, none-ne-some}
use Prim.Native.Nat.{ℕ, ◌+◌}
use native.Mathlib.Omega.{arith}
use Rattle.words.specs.Tables.{Asc}
use Rattle.types.specs.declared.FileType.{FileType}
use Rattle.types.specs.declared.NodeRecord.{NodeRecord}
use Rattle.types.specs.Kinds.{kind_of}
use Rattle.volume.specs.Volume.{Names, Volume}
use Rattle.volume.specs.Sound.{node, entry_before, Good}
use Rattle.volume.specs.Steps.{NamesStep, name_step}
use Rattle.tables.specs.OneRow.{sized, linked}
use Rattle.names.specs.Entering as Entering
use Rattle.names.specs.Entering.{new_entry, entered, new_node, with_entry, created, on_kind}
use Rattle.names.specs.Enterable.{LinkedParent}
use Rattle.names.proofs.Created.{Creates, refuses-create, creates, creates-view, next-free, next-empty, look-created}
use Rattle.names.proofs.Linked.{TargetRow, Links, refuses-link, links, links-view, look-linked}
use Rattle.sequences.specs.Fs.{NodeSeen, Fs}
use Rattle.sequences.specs.Show.{names_in, show}
use Rattle.sequences.specs.Act.{change_at, put_at, with_links, with_name, new_seen, created_as, linked_as}
use Rattle.sequences.proofs.Shown.{seen_same, fs-same, change-here, change-other, put-here, put_other, by-node, show-there, shows_same}
use Rattle.sequences.proofs.MissingZero.{missing-zero}
use Rattle.sequences.proofs.NamesShown.{names-none, names-entered, names-entered-other}

-- a volume with its chunks, and other names
abbrev with_names : Names → Volume → Volume
with_names b v = record { names = b; store = v.store }

-- ---- an entry more, in directory p and for node n

-- b are the names a with it: the row of a number is s for node n, the parent's r with one entry more, and as it was for the others
record EntryMore (p : ℕ) (name : List ℕ) (n : ℕ) (a b : Names) (r s : NodeRecord) : Type 1 where
  parent : node p a ≡ some r
  apart : p ≡ n → ⊥
  order : Asc entry_before a.entries
  entries : b.entries ≡ entered (new_entry p name n a.entries) a.entries
  look : (P : Option NodeRecord → Type 0) (k : ℕ) → (k ≡ n → P (some s)) → (k ≡ p → P (some (sized (r.size + 1) r))) → ((k ≡ n → ⊥) → (k ≡ p → ⊥) → P (node k a)) → P (node k b)

module _ {p : ℕ} {name : List ℕ} {n : ℕ} (v : Volume) (b : Names) {r s : NodeRecord} (m : EntryMore p name n v.names b r s) where
  look-parent : node p b ≡ some (sized (r.size + 1) r)
  look-parent = m.look (λ o. o ≡ some (sized (r.size + 1) r)) p (λ q. absurd (m.apart q)) (λ _. refl) (λ _ y. absurd (y refl))

  look-node : node n b ≡ some s
  look-node = m.look (λ o. o ≡ some s) n (λ _. refl) (λ q. absurd (m.apart (sym q))) (λ x _. absurd (x refl))

  look-other : (k : ℕ) → (k ≡ n → ⊥) → (k ≡ p → ⊥) → node k b ≡ node k v.names
  look-other k x y = m.look (λ o. o ≡ node k v.names) k (λ q. absurd (x q)) (λ q. absurd (y q)) (λ _ _. refl)

  -- every other directory has the names that it had
  names-other : (k : ℕ) → (k ≡ p → ⊥) → names_in k b.entries ≡ names_in k v.names.entries
  names-other k h = ap (names_in k) m.entries ∙ names-entered-other p name n v.names.entries k h

  -- fs has node n as it is shown then, and the others as they were: what is shown is fs with one name more in the parent
  entry-shows : (fs : Fs) → b.next_node ≡ fs.next → (show (with_names b v)).at n ≡ fs.at n → ((k : ℕ) → (k ≡ n → ⊥) → fs.at k ≡ (show v).at k) → show (with_names b v) ≡ change_at p (with_name name n) fs
  entry-shows fs next here others = fs-same (unfold show change_at in next) (by-node (λ k. (show w).at k ≡ (change_at p more fs).at k) p at-parent (λ k h. at_other k h ∙ sym (change-other p more fs k h)))
    where
      w : Volume
      w = with_names b v

      more : NodeSeen → NodeSeen
      more = with_name name n

      at-parent : (show w).at p ≡ (change_at p more fs).at p
      at-parent =
          show-there w p look-parent
          ∙ ap some (seen_same refl refl refl refl (λ j. refl) (ap (names_in p) m.entries ∙ names-entered p name n v.names.entries m.order))
          ∙ sym (change-here p more fs (others p m.apart ∙ show-there v p m.parent))

      at_other : (k : ℕ) → (k ≡ p → ⊥) → (show w).at k ≡ fs.at k
      at_other =
          by-node (λ k. (k ≡ p → ⊥) → (show w).at k ≡ fs.at k) n (λ _. here)
          (λ k x y. shows_same v w k (look-other k x y) (λ j. refl) (names-other k y) ∙ sym (others k x))

-- ---- create

module _ (p : ℕ) (name : List ℕ) (v : Volume) (g : Good v) (kind : FileType) (r : NodeRecord) (t : LinkedParent p v.names r) where
  abbrev next : ℕ
  next = v.names.next_node

  abbrev made : Names
  made = created p name kind v.names

  -- the parent has a row, and the new node had none
  created-more : EntryMore p name next v.names made r (new_node next kind)
  unfolding created with_entry
  created-more = record {
    parent = t.row;
    apart = λ q. none-ne-some r (sym (next-free v.names g.named) ∙ ap (λ (k : ℕ). node k v.names) (sym q) ∙ t.row);
    order = g.named.entry_order;
    entries = refl;
    look = look-created p name kind v.names r t g.named;
  }

  -- no chunk and no entry was there for the new node
  new-shows : (show (with_names made v)).at next ≡ some (new_seen kind)
  new-shows =
      show-there (with_names made v) next (look-node v made created-more)
      ∙ ap some (seen_same refl refl refl refl (missing-zero v g next (next-free v.names g.named)) (names-other v made created-more next (λ q. created-more.apart (sym q)) ∙ names-none next v.names.entries (next-empty v.names g.named)))

  created-shows : show (with_names made v) ≡ created_as p name kind (show v)
  unfolding show
  created-shows =
      entry-shows v made created-more (put_at next (some (new_seen kind)) (next + 1) (show v)) (unfold created put_at in refl) (new-shows ∙ sym (put-here next (some (new_seen kind)) (next + 1) (show v)))
      (put_other next (some (new_seen kind)) (next + 1) (show v))

pub create-shows : (p : ℕ) (name : List ℕ) (byte : ℕ) (v : Volume) → Good v → (k : ℕ) → (Entering.create p name byte v.names).answer ≡ Ok k
    → show (name_step (Entering.create p name byte) v).after ≡ on_kind (show v) (λ kind. created_as p name kind (show v)) (kind_of byte)
unfolding on_kind
create-shows p name byte v g k = go (Entering.create p name byte v.names) (creates-view p name byte v.names)
  where
    go : (s : NamesStep) → Creates p name byte v.names s → s.answer ≡ Ok k → show (with_names s.after v) ≡ on_kind (show v) (λ kind. created_as p name kind (show v)) (kind_of byte)
    go s (refuses-create e) q = let x : ◌≡◌ {A = ℕ} 0 1 = cc in absurd (omega arith)
    go s (creates r kind t w e more last) q = rw e (created-shows p name v g kind r t)

-- ---- link

module _ (p : ℕ) (name : List ℕ) (t : ℕ) (v : Volume) (g : Good v) (r d : NodeRecord) (w : LinkedParent p v.names r) (i : TargetRow t v.names d) where
  abbrev linked_names : Names
  linked_names = Entering.linked_to p name t v.names

  abbrev link_seen : NodeSeen → NodeSeen
  link_seen x = with_links (x.links + 1) x

  -- a directory is no file
  parent-apart : p ≡ t → ⊥
  parent-apart q =
      let same : some r ≡ some d = sym w.row ∙ ap (λ (k : ℕ). node k v.names) q ∙ i.row in
      let e : r ≡ d = cc in
      i.file (rw (← e) w.kind)

  linked-more : EntryMore p name t v.names linked_names r (linked (d.links + 1) d)
  unfolding Entering.linked_to with_entry
  linked-more = record { parent = w.row; apart = parent-apart; order = g.named.entry_order; entries = refl; look = look-linked p name t v.names r d w i }

  target-shows : (show (with_names linked_names v)).at t ≡ (change_at t link_seen (show v)).at t
  target-shows =
      show-there (with_names linked_names v) t (look-node v linked_names linked-more)
      ∙ ap some (seen_same refl refl refl refl (λ j. refl) (names-other v linked_names linked-more t (λ q. parent-apart (sym q))))
      ∙ sym (change-here t link_seen (show v) (show-there v t i.row))

  linked-shows : show (with_names linked_names v) ≡ linked_as p name t (show v)
  linked-shows = entry-shows v linked_names linked-more (change_at t link_seen (show v)) (unfold Entering.linked_to with_entry show change_at in refl) target-shows (change-other t link_seen (show v))

pub link-shows : (p : ℕ) (name : List ℕ) (t : ℕ) (v : Volume) → Good v → (k : ℕ) → (Entering.link p name t v.names).answer ≡ Ok k → show (name_step (Entering.link p name t) v).after ≡ linked_as p name t (show v)
link-shows p name t v g k = go (Entering.link p name t v.names) (links-view p name t v.names)
  where
    go : (s : NamesStep) → Links p name t v.names s → s.answer ≡ Ok k → show (with_names s.after v) ≡ linked_as p name t (show v)
    go s (refuses-link e) q = let x : ◌≡◌ {A = ℕ} 0 1 = cc in absurd (omega arith)
    go s (links r d w e i) q = linked-shows p name t v g r d w i
