-- What unlink does: its refusals, which leave the names as they were, and the entry that goes. Good names that fit stay so, and chunks
-- keep their owners.
-- Assumes nothing.
use Rattle.std.specs.Prelude.{Err}
use mathlib.Core.Path.{◌≡◌, refl, sym, ap, ◌∙◌}
use mathlib.Core.Bool.{Bool, true, false, not}
use mathlib.Core.List.{List}
use mathlib.Core.Option.{Option, none, some}
use Prim.Native.Nat.{ℕ, ◌+◌, ◌-◌, ◌<◌}
use native.Mathlib.Omega.{arith}
use lib.Dec.{eqb, ltb}
use lib.ListN.{length}
use Rattle.words.specs.Rules.{pick, both, bit, Says, fails}
use Rattle.words.specs.Tables.{find}
use Rattle.words.proofs.Rules.{says_both, says-ltb}
use Rattle.words.proofs.Order.{each_map}
use Rattle.words.proofs.Counting.{bit-same, bit-apart}
use Rattle.words.proofs.FoundRows.{found-each}
use Rattle.words.proofs.Only.{each-only, asc-only, length_both}
use Rattle.types.specs.Nodes.{is_directory}
use Rattle.types.specs.declared.Expected.{Expected}
use Rattle.types.specs.declared.Error.{Error}
use Rattle.types.specs.declared.Error.TheVariants.{NoSuchEntry, IsDirectory, NotDirectory, PathNotPermitted, DirectoryNotEmpty, Busy, InvalidArgument}
use Rattle.types.specs.declared.FileType.TheVariants.{Directory}
use Rattle.types.specs.declared.NodeRecord.{NodeRecord}
use Rattle.types.proofs.Nodes.{says-directory}
use Rattle.paths.specs.Path.{Cutting, parts, not_permitted, too_long, cut_path}
use Rattle.volume.specs.declared.ChunkRow.{ChunkRow}
use Rattle.volume.specs.Rows.{Entry}
use Rattle.volume.specs.Volume.{Names, Store}
use Rattle.volume.specs.Framed.{NodeFits, NamesFits}
use Rattle.volume.specs.Sound.{node, naming, entries_of, DirectoryThere, NodeThere, NodeGood, Named, ChunkOwned, Owned, ChunksOwned}
use Rattle.volume.specs.Steps.{NamesStep, remain, turn}
use Rattle.volume.proofs.Framed.{fits-nodes, fits-entries}
use Rattle.tables.proofs.NodeRows.{node-is, node-each}
use Rattle.names.specs.Walks.{on_cutting, Walk, reached, stopped, walk_from, walk_path}
use Rattle.names.specs.Unlinking.{wants_file, wants_directory, is_entry, without, unlinked, unlink_node, unlink_reached, unlink}
use Rattle.names.proofs.EntryKeys.{entry-by-key, naming-without, entries_of-without, EndsWith, walk-from-ends}
use Rattle.names.proofs.PathWalks.{path-reached}
use Rattle.names.proofs.TwoRows.{Two, length_two, order-two, numbers-two, two-first, two-second, two-other, two-look, two-each, two-there, two-directory}
use Rattle.tables.specs.OneRow.{sized, linked}

-- ---- an entry that can go

-- it is among the names, found by its directory and index
abbrev pub InPlace : Names → Entry → Type 0
InPlace a e = find (is_entry e.parent e.index) a.entries ≡ some e

-- it is there, its node and its directory have rows, and a directory that it names is empty
pub record Unlinkable (a : Names) (e : Entry) : Type 0 where
  pub there : InPlace a e
  pub row : NodeRecord
  pub target : node e.node a ≡ some row
  pub empty : row.kind ≡ Directory → row.size ≡ 0
  pub holder : NodeRecord
  pub parent : node e.parent a ≡ some holder
  pub directory : holder.kind ≡ Directory

-- a path leads to it: the parts of the path, followed from the start, end with it
pub record Leads (start : ℕ) (path : List ℕ) (a : Names) (e : Entry) : Type 0 where
  pub names : List (List ℕ)
  pub cut : cut_path path ≡ parts names
  pub found : ℕ
  pub walk : walk_from start a names ≡ reached found (some e)

-- an unlink is refused, or such an entry goes: the one that the path leads to
pub data Unlinks (start : ℕ) (path : List ℕ) (a : Names) : NamesStep → Type 0 where
  refuses : (e : Error) → Unlinks start path a (remain e a)
  unlinks : (e : Entry) → Leads start path a e → Unlinkable a e → Unlinks start path a (turn e.node (unlinked e a))

module _ (start : ℕ) (path : List ℕ) (a : Names) (g : Named a) where
  -- its parent is a directory
  its-parent : (e : Entry) → InPlace a e → DirectoryThere (node e.parent a)
  its-parent e there = found-each (is_entry e.parent e.index) (λ f. DirectoryThere (node f.parent a)) a.entries e g.parents there

  -- it goes, once its node's row has passed the checks
  with_row : (e : Entry) → Leads start path a e → InPlace a e → (r : NodeRecord) → node e.node a ≡ some r → (r.kind ≡ Directory → r.size ≡ 0) → Unlinks start path a (turn e.node (unlinked e a))
  with_row e l there r t h = go (node e.parent a) refl (its-parent e there)
    where
      go : (o : Option NodeRecord) → node e.parent a ≡ o → DirectoryThere o → Unlinks start path a (turn e.node (unlinked e a))
      go none q k = absurd k
      go (some d) q k = unlinks e l (record { there = there; row = r; target = t; empty = h; holder = d; parent = q; directory = k })

  -- the checks of its node's row
  from-entry : (want : Expected) (opens : ℕ) (e : Entry) → Leads start path a e → InPlace a e → Unlinks start path a (unlink_node want opens a e (node e.node a))
  unfolding unlink_node pick
  from-entry want opens e l there = go (node e.node a) refl
    where
      checks : (r : NodeRecord) → node e.node a ≡ some r → (b1 b2 b3 b4 : Bool) → Says ((r.kind ≡ Directory) × (0 < r.size)) b2
          → Unlinks start path a (pick b1 (remain IsDirectory a) (pick b2 (remain DirectoryNotEmpty a) (pick b3 (remain NotDirectory a) (pick b4 (remain Busy a) (turn e.node (unlinked e a))))))
      checks r t true b2 b3 b4 s = refuses IsDirectory
      checks r t false true b3 b4 s = refuses DirectoryNotEmpty
      checks r t false false true b4 s = refuses NotDirectory
      checks r t false false false true s = refuses Busy
      checks r t false false false false (fails s) = with_row e l there r t (λ k. let z : 0 < r.size → ⊥ = λ y. s (k, y) in omega arith)

      go : (o : Option NodeRecord) → node e.node a ≡ o → Unlinks start path a (unlink_node want opens a e o)
      go none t = refuses NoSuchEntry
      go (some r) t =
          checks r t (both (is_directory r.kind) (wants_file want)) (both (is_directory r.kind) (ltb 0 r.size)) (both (not (is_directory r.kind)) (wants_directory want)) (both (ltb 0 opens) (eqb r.links 1))
          (says_both (says-directory r.kind) (says-ltb 0 r.size))

  -- what a walk reached
  from-walk : (want : Expected) (opens : ℕ) (ps : List (List ℕ)) → cut_path path ≡ parts ps → (w : Walk) → walk_path start path a ps ≡ w → EndsWith (InPlace a) (walk_from start a ps) → Unlinks start path a (unlink_reached want opens a w)
  unfolding unlink_reached
  from-walk want opens ps c (reached n (some e)) q h =
      let k = path-reached start path a ps q in
      from-entry want opens e (record { names = ps; cut = c; found = n; walk = k }) (rw k at h)
  from-walk want opens ps c (reached n none) q h = refuses PathNotPermitted
  from-walk want opens ps c (stopped e) q h = refuses e

-- every unlink is one of these
pub unlink-cases : (start : ℕ) (path : List ℕ) (want : Expected) (opens : ℕ) (a : Names) → Named a → Unlinks start path a (unlink start path want opens a)
unfolding unlink on_cutting pick
unlink-cases start path want opens a g = go (cut_path path) refl
  where
    from_parts : (ps : List (List ℕ)) → cut_path path ≡ parts ps → (b : Bool) → Unlinks start path a (pick b (remain PathNotPermitted a) (unlink_reached want opens a (walk_path start path a ps)))
    from_parts ps c true = refuses PathNotPermitted
    from_parts ps c false = from-walk start path a g want opens ps c (walk_path start path a ps) refl (walk-from-ends (InPlace a) start a ps (entry-by-key a.entries g.entry_order))

    go : (c : Cutting) → cut_path path ≡ c → Unlinks start path a (on_cutting (λ e. remain e a) (λ ps. pick (eqb (length ps) 0) (remain PathNotPermitted a) (unlink_reached want opens a (walk_path start path a ps))) c)
    go (parts ps) q = from_parts ps q (eqb (length ps) 0)
    go not_permitted q = refuses PathNotPermitted
    go too_long q = refuses InvalidArgument

-- ---- the names without it

-- a link less, and an entry less
abbrev pub fewer_links : NodeRecord → NodeRecord
fewer_links r = linked (r.links - 1) r

abbrev pub smaller : NodeRecord → NodeRecord
smaller r = sized (r.size - 1) r

module _ (a : Names) (g : Named a) (e : Entry) (u : Unlinkable a e) where
  abbrev es : List Entry
  es = without e a.entries

  -- how often a node is named, and how many entries a directory has, with the entry and without
  fewer-naming : (m : ℕ) → naming m a.entries ≡ bit (eqb e.node m) + naming m es
  fewer-naming m = naming-without a.entries g.entry_order e u.there m

  fewer-entries : (m : ℕ) → entries_of m a.entries ≡ bit (eqb e.parent m) + entries_of m es
  fewer-entries m = entries_of-without a.entries g.entry_order e u.there m

  -- the numbers of the two rows
  row_number : u.row.node ≡ e.node
  row_number = node-is e.node a u.row u.target

  holder-number : u.holder.node ≡ e.parent
  holder-number = node-is e.parent a u.holder u.parent

  holder-good : NodeGood a.entries u.holder
  holder-good = node-each e.parent a u.holder u.parent (NodeGood a.entries) g.nodes

  -- its directory has an entry
  holder-size : u.holder.size ≡ 1 + entries_of e.parent es
  holder-size =
      let h = rw holder-number at (holder-good.entries u.directory) in
      omega (arith, h, fewer-entries e.parent, bit-same e.parent)

  -- so it does not name its own directory
  pub unlink-apart : e.node ≡ e.parent → ⊥
  unlink-apart q =
      let h : some u.row ≡ some u.holder = sym u.target ∙ ap (λ (k : ℕ). node k a) q ∙ u.parent in
      let k : u.row ≡ u.holder = cc in
      let z : u.holder.kind ≡ Directory → u.holder.size ≡ 0 = rw k at u.empty in
      omega (arith, holder-size, z u.directory)

  -- nor node 0
  pub unlink-not-root : e.node ≡ 0 → ⊥
  unlink-not-root q =
      let h : bit (eqb e.node 0) ≡ 1 = ap (λ (k : ℕ). bit (eqb k 0)) q ∙ bit-same 0 in
      omega (arith, h, fewer-naming 0, g.unnamed)

  -- ---- rows looked up

  abbrev two : Two e.node e.parent fewer_links smaller a
  two = record { first = u.row; there = u.target; second = u.holder; beside = u.parent; apart = unlink-apart; keeps-first = λ s. refl; keeps-second = λ s. refl }

  -- its node has a link less, its directory is smaller by one, and other rows are as they were
  pub unlinked-target : node e.node (unlinked e a) ≡ some (fewer_links u.row)
  unfolding unlinked node
  unlinked-target = two-first two

  pub unlinked-holder : node e.parent (unlinked e a) ≡ some (smaller u.holder)
  unfolding unlinked node
  unlinked-holder = two-second two

  pub unlinked-other : (k : ℕ) → (k ≡ e.node → ⊥) → (k ≡ e.parent → ⊥) → node k (unlinked e a) ≡ node k a
  unfolding unlinked node
  unlinked-other = two-other two

  -- what holds of the row of a number
  unlinked-look : (P : Option NodeRecord → Type 0) (k : ℕ) → (k ≡ e.node → P (some (fewer_links u.row))) → (k ≡ e.parent → P (some (smaller u.holder))) → ((k ≡ e.node → ⊥) → (k ≡ e.parent → ⊥) → P (node k a)) → P (node k (unlinked e a))
  unfolding unlinked node
  unlinked-look = two-look two

  -- nodes stay there, and directories stay directories
  still-there : (k : ℕ) → NodeThere (node k a) → NodeThere (node k (unlinked e a))
  unfolding unlinked node
  still-there = two-there two

  still-directory : (k : ℕ) → DirectoryThere (node k a) → DirectoryThere (node k (unlinked e a))
  unfolding unlinked node
  still-directory = two-directory two refl refl

  -- ---- what holds of each row

  -- its node, its directory and every other node are good with one entry less
  row_kept : NodeGood a.entries u.row → NodeGood es (fewer_links u.row)
  row_kept h =
      let one : bit (eqb e.node u.row.node) ≡ 1 = rw row_number (bit-same e.node) in
      let zero : bit (eqb e.parent u.row.node) ≡ 0 = bit-apart e.parent u.row.node (λ q. unlink-apart (sym row_number ∙ sym q)) in
      record {
        named = λ k. omega (arith, h.named k, fewer-naming u.row.node);
        unlimited = h.unlimited;
        entries = λ k. omega (arith, h.entries k, fewer-entries u.row.node, zero);
        unlinked = λ k _. u.empty k;
        links = omega (arith, h.links, fewer-naming u.row.node, one);
        size = h.size;
      }

  holder-kept : NodeGood a.entries u.holder → NodeGood es (smaller u.holder)
  holder-kept h =
      let one : bit (eqb e.parent u.holder.node) ≡ 1 = rw holder-number (bit-same e.parent) in
      let zero : bit (eqb e.node u.holder.node) ≡ 0 = bit-apart e.node u.holder.node (λ q. unlink-apart (q ∙ holder-number)) in
      record {
        named = λ k. omega (arith, h.named k, fewer-naming u.holder.node);
        unlimited = h.unlimited;
        entries = λ k. omega (arith, h.entries k, fewer-entries u.holder.node, one);
        unlinked = λ k z. omega (arith, h.unlinked k z);
        links = omega (arith, h.links, fewer-naming u.holder.node, zero);
        size = omega (arith, h.size);
      }

  other-kept : (s : NodeRecord) → (s.node ≡ e.node → ⊥) → (s.node ≡ e.parent → ⊥) → NodeGood a.entries s → NodeGood es s
  other-kept s x y h =
      let named : naming s.node a.entries ≡ naming s.node es = omega (arith, fewer-naming s.node, bit-apart e.node s.node (λ q. x (sym q))) in
      let held : entries_of s.node a.entries ≡ entries_of s.node es = omega (arith, fewer-entries s.node, bit-apart e.parent s.node (λ q. y (sym q))) in
      record {
        named = rw named at h.named;
        unlimited = h.unlimited;
        entries = rw held at h.entries;
        unlinked = h.unlinked;
        links = rw named at h.links;
        size = h.size;
      }

  -- ---- all of it

  -- good names stay good
  unlinked-named : Named (unlinked e a)
  unlinked-named = unfold unlinked without in record {
    node_order = order-two two g.node_order;
    entry_order = asc-only _ _ a.entries g.entry_order;
    indexes = each-only _ _ a.entries g.indexes;
    fresh = numbers-two two (λ k. k < a.next_node) g.fresh;
    root = still-directory 0 g.root;
    unnamed = omega (arith, fewer-naming 0, g.unnamed);
    names = each-only _ _ a.entries g.names;
    parents = each-only _ _ a.entries (each_map (λ c. DirectoryThere (node c.parent a)) (λ c. DirectoryThere (node c.parent (unlinked e a))) (λ c. still-directory c.parent) a.entries g.parents);
    targets = each-only _ _ a.entries (each_map (λ c. NodeThere (node c.node a)) (λ c. NodeThere (node c.node (unlinked e a))) (λ c. still-there c.node) a.entries g.targets);
    once = asc-only _ _ a.entries g.once;
    nodes = two-each two (NodeGood a.entries) (NodeGood es) g.node_order g.nodes row_kept holder-kept other-kept;
  }

  -- and fit as before
  unlinked-fits : NamesFits a → NamesFits (unlinked e a)
  unlinked-fits f =
      let fewer : NodeFits u.row → NodeFits (fewer_links u.row) = λ h. record { node = h.node; links = omega (arith, h.links); size = h.size; limit = h.limit } in
      let less : NodeFits u.holder → NodeFits (smaller u.holder) = λ h. record { node = h.node; links = h.links; size = omega (arith, h.size); limit = h.limit } in
      unfold unlinked without in
      fits-entries _ (fits-nodes a f _ (rw (length_two two) f.nodes) (two-each two NodeFits NodeFits g.node_order f.node_rows fewer less (λ s x y h. h)))
      _ (omega (arith, f.entries, length_both (λ c. not (is_entry e.parent e.index c)) a.entries)) (each-only _ _ a.entries f.entry_rows)

  -- a chunk is of a file, which keeps its size
  unlinked-owned : (s : Store) → ChunksOwned a s → ChunksOwned (unlinked e a) s
  unlinked-owned s o = each_map (λ c. Owned size bytes c (node c.node a)) (λ c. Owned size bytes c (node c.node (unlinked e a))) one s.chunks o
    where
      size : ℕ
      size = s.allocator.chunk_size

      bytes : List ℕ
      bytes = s.bytes

      at_row : (c : ChunkRow) (k : ℕ) (r : NodeRecord) → node k a ≡ some r → Owned size bytes c (node c.node a) → c.node ≡ k → ChunkOwned size bytes c r
      at_row c k r t h q = rw (ap (λ (m : ℕ). node m a) q ∙ t) at h

      fewer : (c : ChunkRow) → ChunkOwned size bytes c u.row → ChunkOwned size bytes c (fewer_links u.row)
      fewer c k = record { file = k.file; below = k.below; zeros = k.zeros }

      one : (c : ChunkRow) → Owned size bytes c (node c.node a) → Owned size bytes c (node c.node (unlinked e a))
      one c h = unlinked-look (Owned size bytes c) c.node (λ q. fewer c (at_row c e.node u.row u.target h q)) (λ q. absurd ((at_row c e.parent u.holder u.parent h q).file u.directory)) (λ _ _. h)

-- ---- any unlink

module _ (start : ℕ) (path : List ℕ) (want : Expected) (opens : ℕ) (a : Names) where
  -- good names that fit stay so
  pub unlink-kept : NamesFits a → Named a → NamesFits (unlink start path want opens a).after × Named (unlink start path want opens a).after
  unlink-kept f g = go (unlink start path want opens a) (unlink-cases start path want opens a g)
    where
      go : (s : NamesStep) → Unlinks start path a s → NamesFits s.after × Named s.after
      go s (refuses e) = (f, g)
      go s (unlinks e l u) = (unlinked-fits a g e u f, unlinked-named a g e u)

  -- chunks keep their owners
  pub unlink-owned : (s : Store) → Named a → ChunksOwned a s → ChunksOwned (unlink start path want opens a).after s
  unlink-owned s g o = go (unlink start path want opens a) (unlink-cases start path want opens a g)
    where
      go : (t : NamesStep) → Unlinks start path a t → ChunksOwned t.after s
      go t (refuses e) = o
      go t (unlinks e l u) = unlinked-owned a g e u s o

  -- a refusal leaves the names as they were
  pub unlink-refused : (e : Error) → Named a → (unlink start path want opens a).answer ≡ Err e → (unlink start path want opens a).after ≡ a
  unlink-refused e g = go (unlink start path want opens a) (unlink-cases start path want opens a g)
    where
      go : (t : NamesStep) → Unlinks start path a t → t.answer ≡ Err e → t.after ≡ a
      go t (refuses d) q = refl
      go t (unlinks d l u) q = absurd cc
