-- A path that means a directory, in find and unlink: 4 for a regular file, and for nothing else; any other node as if the path ended in its
-- name. A slash behind a path that ends in a name makes such a path.
-- Assumes nothing.
use Rattle.std.specs.Prelude.{Ok, Err}
use mathlib.Core.Path.{◌≡◌, refl, ap, ◌∙◌}
use mathlib.Core.Bool.{Bool, true, false}
use mathlib.Core.List.{List, [], ◌∷◌, ◌++◌}
use mathlib.Core.Option.{Option, none, some}
use Prim.Native.Nat.{ℕ, ◌<◌}
use native.Mathlib.Omega.{arith}
use lib.Dec.{ltb}
use lib.ListN.{length}
use borrow.Author.Tests.{ne_eqb, ltb-true}
use Rattle.words.specs.Rules.{pick, both, either, same}
use Rattle.words.proofs.Joined.{both_true}
use Rattle.types.specs.Sizes.{most_name, most_path}
use Rattle.types.specs.declared.Error.TheVariants.{NoSuchEntry, NotDirectory, BadName}
use Rattle.types.specs.declared.Expected.{Expected}
use Rattle.types.specs.declared.FileType.{FileType}
use Rattle.types.specs.declared.FileType.TheVariants.{Directory, RegularFile, SymbolicLink}
use Rattle.types.specs.declared.NodeRecord.{NodeRecord}
use Rattle.paths.specs.Path.{Cutting, parts, not_permitted, too_long, slash, split, dropped, walk, cut_path, ends_open}
use Rattle.paths.proofs.Behind.{ends-slashed, cut-slashed}
use Rattle.volume.specs.Rows.{Entry}
use Rattle.volume.specs.Volume.{Names}
use Rattle.volume.specs.Sound.{node}
use Rattle.volume.specs.Steps.{remain}
use Rattle.names.specs.Entries.{entry_named, on_entry}
use Rattle.names.specs.Walks.{on_cutting, Walk, reached, stopped, walk_parts, on_start, walk_from, means_directory, passes_as_directory, on_passing, as_directory, walk_path, node_reached, find_node}
use Rattle.names.specs.Unlinking.{unlink_node, unlink_reached, unlink}
use Rattle.names.proofs.PathWalks.{path-named, passing-map, path-judged}
use Rattle.names.proofs.Unlinked.{Leads}

-- ---- a path that leads to an entry

module _ {start : ℕ} {path : List ℕ} {a : Names} {e : Entry} (l : Leads start path a e) where
  -- it has a part
  pub part_left : 0 < length l.names
  unfolding walk_from walk_parts on_start
  part_left = go l.names l.walk
    where
      start-row : (o : Option NodeRecord) {n : ℕ} → on_start (stopped NoSuchEntry) (reached start none) o ≡ reached n (some e) → ⊥
      start-row none z = cc
      start-row (some r) z = cc

      go : (ps : List (List ℕ)) {n : ℕ} → walk_from start a ps ≡ reached n (some e) → 0 < length ps
      go [] z = absurd (start-row (node start a) z)
      go (p ∷ ps) z = omega arith

  -- and a byte
  byte_left : 0 < length path
  unfolding cut_path walk split dropped either both same pick
  byte_left = go path l.cut
    where
      go : (p : List ℕ) → cut_path p ≡ parts l.names → 0 < length p
      go [] z = let x : [] ≡ l.names = cc in rw (← x) at part_left
      go (b ∷ bs) z = omega arith

  -- ---- by how it ends

  pub find-named : ends_open path ≡ false → find_node start path a ≡ Ok l.found
  unfolding find_node on_cutting node_reached
  find-named h = rw (l.cut, path-named start path a l.names h, l.walk) refl

  pub find-open : ends_open path ≡ true → find_node start path a ≡ on_passing Err (Ok l.found) (node l.found a)
  unfolding find_node on_cutting node_reached
  find-open h = rw (l.cut, path-judged start path a l.names h part_left l.walk) (passing-map node_reached stopped Err (reached l.found (some e)) (λ x. refl) (node l.found a))

  module _ (want : Expected) (opens : ℕ) where
    -- it has a part, so that 8 is not given
    enough : unlink start path want opens a ≡ unlink_reached want opens a (walk_path start path a l.names)
    unfolding unlink on_cutting pick
    enough = rw (l.cut, ne_eqb (length l.names) 0 (λ z. omega (arith, part_left))) refl

    pub unlink-named : ends_open path ≡ false → unlink start path want opens a ≡ unlink_node want opens a e (node e.node a)
    unfolding unlink_reached
    unlink-named h = enough ∙ ap (unlink_reached want opens a) (path-named start path a l.names h ∙ l.walk)

    pub unlink-open : ends_open path ≡ true → unlink start path want opens a ≡ on_passing (λ x. remain x a) (unlink_node want opens a e (node e.node a)) (node l.found a)
    unfolding unlink_reached
    unlink-open h =
        enough ∙ ap (unlink_reached want opens a) (path-judged start path a l.names h part_left l.walk)
        ∙ passing-map (unlink_reached want opens a) stopped (λ x. remain x a) (reached l.found (some e)) (λ x. refl) (node l.found a)

  -- ---- a slash behind it

  -- leads to the same entry, by a path that means a directory
  pub slashed-leads : length path < most_path → Leads start (path ++ (slash ∷ [])) a e
  slashed-leads h = record { names = l.names; cut = cut-slashed path l.cut byte_left h; found = l.found; walk = l.walk }

-- what is found by a path is found with a slash behind it, unless it is a regular file: then 4
pub find-slashed : {start : ℕ} {path : List ℕ} {a : Names} {e : Entry} (l : Leads start path a e) → length path < most_path
    → find_node start (path ++ (slash ∷ [])) a ≡ on_passing Err (Ok l.found) (node l.found a)
unfolding slashed-leads
find-slashed {path = path} l h = find-open (slashed-leads l h) (ends-slashed path)

-- the same in unlink
pub unlink-slashed : {start : ℕ} {path : List ℕ} {a : Names} {e : Entry} (l : Leads start path a e) (want : Expected) (opens : ℕ) → length path < most_path
    → unlink start (path ++ (slash ∷ [])) want opens a ≡ on_passing (λ x. remain x a) (unlink_node want opens a e (node e.node a)) (node l.found a)
unfolding slashed-leads
unlink-slashed {path = path} l want opens h = unlink-open (slashed-leads l h) want opens (ends-slashed path)

-- ---- when find gives 4

-- a path means a directory, and its parts lead to a regular file
pub record MeansFile (start : ℕ) (path : List ℕ) (a : Names) : Type 0 where
  pub opened : ends_open path ≡ true
  pub names : List (List ℕ)
  pub cut : cut_path path ≡ parts names
  pub left : 0 < length names
  pub found : ℕ
  pub last : Option Entry
  pub walk : walk_from start a names ≡ reached found last
  pub row : NodeRecord
  pub there : node found a ≡ some row
  pub file : row.kind ≡ RegularFile

-- then
pub file-refused : {start : ℕ} {path : List ℕ} {a : Names} → MeansFile start path a → find_node start path a ≡ Err NotDirectory
unfolding find_node on_cutting node_reached on_passing pick
file-refused {start} {path} {a} m = rw (m.cut, path-judged start path a m.names m.opened m.left m.walk, m.there, m.file) refl

-- and only then: no walk is refused with 4
walk-other : (es : List Entry) (ps : List (List ℕ)) (n : ℕ) (last : Option Entry) → walk_parts es n last ps ≡ stopped NotDirectory → ⊥
unfolding walk_parts on_entry pick
walk-other es [] n last z = cc
walk-other es (p ∷ ps) n last z = go (ltb most_name (length p)) (entry_named n p es) (λ e. walk-other es ps e.node (some e)) z
  where
    go : (b : Bool) (o : Option Entry) → ((e : Entry) → walk_parts es e.node (some e) ps ≡ stopped NotDirectory → ⊥)
        → pick b (stopped BadName) (on_entry (stopped NoSuchEntry) (λ e. walk_parts es e.node (some e) ps) o) ≡ stopped NotDirectory → ⊥
    go true o on y = cc
    go false none on y = cc
    go false (some e) on y = on e y

from-other : (start : ℕ) (a : Names) (ps : List (List ℕ)) → walk_from start a ps ≡ stopped NotDirectory → ⊥
unfolding walk_from on_start
from-other start a ps = go (node start a)
  where
    go : (o : Option NodeRecord) → on_start (stopped NoSuchEntry) (walk_parts a.entries start none ps) o ≡ stopped NotDirectory → ⊥
    go none y = cc
    go (some r) y = walk-other a.entries ps start none y

module _ (start : ℕ) (path : List ℕ) (a : Names) where
  abbrev Four : Walk → Type 0
  Four w = node_reached w ≡ Err NotDirectory

  -- nor is what it came to
  plain : (ps : List (List ℕ)) (w : Walk) → walk_from start a ps ≡ w → Four w → ⊥
  unfolding node_reached
  plain ps (reached n last) q z = cc
  plain ps (stopped e) q z = let x : e ≡ NotDirectory = cc in from-other start a ps (q ∙ ap stopped x)

  module _ (ps : List (List ℕ)) (c : cut_path path ≡ parts ps) where
    module _ (o : ends_open path ≡ true) (h : 0 < length ps) where
      of_row : (n : ℕ) (last : Option Entry) → walk_from start a ps ≡ reached n last → (r : Option NodeRecord) → node n a ≡ r → Four (on_passing stopped (reached n last) r) → MeansFile start path a
      unfolding node_reached on_passing pick
      of_row n last q none t z = absurd cc
      of_row n last q (some r) t z = of-kind r.kind refl z
        where
          of-kind : (k : FileType) → r.kind ≡ k → Four (pick (passes_as_directory k) (reached n last) (stopped NotDirectory)) → MeansFile start path a
          of-kind Directory f y = absurd cc
          of-kind SymbolicLink f y = absurd cc
          of-kind RegularFile f y = record { opened = o; names = ps; cut = c; left = h; found = n; last = last; walk = q; row = r; there = t; file = f }

      judged : (w : Walk) → walk_from start a ps ≡ w → Four (as_directory a w) → MeansFile start path a
      unfolding as_directory
      judged (reached n last) q z = of_row n last q (node n a) refl z
      judged (stopped e) q z = absurd (plain ps (stopped e) q z)

    means : Four (walk_path start path a ps) → MeansFile start path a
    unfolding walk_path means_directory pick
    means = go (means_directory path ps) refl
      where
        go : (b : Bool) → means_directory path ps ≡ b → Four (pick b (as_directory a (walk_from start a ps)) (walk_from start a ps)) → MeansFile start path a
        go true m z = let k = both_true _ _ m in judged k.0 (ltb-true 0 (length ps) k.1) (walk_from start a ps) refl z
        go false m z = absurd (plain ps (walk_from start a ps) refl z)

  pub refused-file : find_node start path a ≡ Err NotDirectory → MeansFile start path a
  unfolding find_node on_cutting
  refused-file = go (cut_path path) refl
    where
      go : (c : Cutting) → cut_path path ≡ c → on_cutting Err (λ ps. node_reached (walk_path start path a ps)) c ≡ Err NotDirectory → MeansFile start path a
      go (parts ps) c z = means ps c z
      go not_permitted c z = absurd cc
      go too_long c z = absurd cc
