-- What the tests between rows mean: parents and nodes that entries name, and names of one directory.
-- Assumes nothing.
use Rattle.std.specs.Prelude.{Some, None}
use mathlib.Core.Path.{◌≡◌, refl, sym, ap, ◌∙◌}
use mathlib.Core.Bool.{Bool, true, false, not}
use mathlib.Core.List.{List, []}
use Prim.Native.Nat.{ℕ, ◌<◌}
use lib.Dec.{eqb}
use lib.ListN.{length}
use borrow.Author.Tests.{not-true, not-false}
use Rattle.words.specs.Rules.{both, Says, holds, fails}
use Rattle.words.specs.Tables.{Each, Asc, find}
use Rattle.words.proofs.Places.{each-places, asc-at, at-asc}
use Rattle.words.proofs.Rules.{says_map, says-not, says_both, says-upto}
use Rattle.types.specs.Nodes.{is_directory}
use Rattle.types.specs.declared.NodeRecord.{NodeRecord}
use Rattle.volume.specs.Rows.{Entry, read_entry}
use Rattle.volume.specs.Volume.{Names}
use Rattle.volume.specs.Sound.{node, DirectoryThere, NodeThere, node_before}
use Rattle.tables.specs.Tables.{node_at, entry_at, found_node, Found}
use Rattle.tables.proofs.TableSearch.{node-found, node-absent}
use Rattle.soundness.specs.EntryRules.{is_found, found_directory, entry_related, entries_related, name_new, names_once}
use Rattle.soundness.proofs.NameOrder.{SameName, says-same-name}
use Rattle.types.proofs.Nodes.{says-directory}

-- ---- what a search that the code makes says

-- nothing is no row
pub nothing-at : (k : ℕ) → ◌≡◌ {A = Found} None (Some k) → ⊥
nothing-at k e = cc

-- what was found, or not
module _ {r : Found} {t : Bool} (e : is_found r ≡ t) where
  pub found_none : r ≡ None → t ≡ false
  unfolding is_found
  found_none k = sym e ∙ ap is_found k

  pub found_some : {k : ℕ} → r ≡ Some k → t ≡ true
  unfolding is_found
  found_some k = sym e ∙ ap is_found k

-- a directory that was looked for
module _ (rs : List NodeRecord) (n : ℕ) {r : Found} (h : r ≡ found_node n rs) where
  pub directory-none : r ≡ None → is_found None ≡ found_directory rs (found_node n rs)
  unfolding is_found found_directory
  directory-none k = rw (← h, k)

  module _ {i : ℕ} (k : r ≡ Some i) {d : NodeRecord} (q : d ≡ node_at rs i) {b : Bool} (z : b ≡ is_directory d.kind) where
    kind-told : b ≡ found_directory rs (found_node n rs)
    unfolding found_directory
    kind-told = let f : found_node n rs ≡ Some i = sym h ∙ k in rw f (z ∙ ap (λ (s : NodeRecord). is_directory s.kind) q)

    pub directory-other : not b ≡ true → is_found None ≡ found_directory rs (found_node n rs)
    unfolding is_found
    directory-other t = sym (not-true b t) ∙ kind-told

    pub directory-there : not b ≡ false → is_found (Some i) ≡ found_directory rs (found_node n rs)
    unfolding is_found
    directory-there t = sym (not-false b t) ∙ kind-told

-- an entry's two searches
module _ (rs : List NodeRecord) (e : Entry) {x : ℕ} (p : x ≡ e.parent) (f : Found) (h : is_found f ≡ found_directory rs (found_node x rs)) where
  directory-told : {t : Bool} → found_directory rs (found_node x rs) ≡ t → found_directory rs (found_node e.parent rs) ≡ t
  directory-told k = rw p at k

  pub parent-none : f ≡ None → entry_related rs e ≡ false
  unfolding entry_related both
  parent-none k = rw (directory-told (found_none h k))

  module _ {i : ℕ} (k : f ≡ Some i) {y : ℕ} (q : y ≡ e.node) {g : Found} (o : g ≡ found_node y rs) where
    target_told : entry_related rs e ≡ is_found g
    unfolding entry_related both
    target_told = rw (directory-told (found_some h k), o, q)

    pub target_none : g ≡ None → entry_related rs e ≡ false
    unfolding is_found
    target_none m = target_told ∙ ap is_found m

    pub target-some : {j : ℕ} → g ≡ Some j → entry_related rs e ≡ true
    unfolding is_found
    target-some m = target_told ∙ ap is_found m

-- ---- parents and targets

module _ (n : ℕ) (rs : List NodeRecord) (a : Asc node_before rs) where
  says-found-directory : Says (DirectoryThere (find (λ r. eqb r.node n) rs)) (found_directory rs (found_node n rs))
  unfolding found_directory
  says-found-directory = go (found_node n rs) refl
    where
      go : (r : Found) → r ≡ found_node n rs → Says (DirectoryThere (find (λ r. eqb r.node n) rs)) (found_directory rs r)
      go (Some i) e = rw (node-found n rs i e).1 (says-directory (node_at rs i).kind)
      go None e = rw (node-absent n rs a e) (fails (λ z. z))

  says-found : Says (NodeThere (find (λ r. eqb r.node n) rs)) (is_found (found_node n rs))
  unfolding is_found
  says-found = go (found_node n rs) refl
    where
      go : (r : Found) → r ≡ found_node n rs → Says (NodeThere (find (λ r. eqb r.node n) rs)) (is_found r)
      go (Some i) e = rw (node-found n rs i e).1 (holds tt)
      go None e = rw (node-absent n rs a e) (fails (λ z. z))

pub says-related : (a : Names) → Asc node_before a.nodes → Says (Each (λ e. DirectoryThere (node e.parent a) × NodeThere (node e.node a)) a.entries) (entries_related a.nodes a.entries)
unfolding entries_related entry_related node
says-related a o =
    each-places (λ e. DirectoryThere (node e.parent a) × NodeThere (node e.node a)) (read_entry []) (entry_related a.nodes) (λ e. says_both (says-found-directory e.parent a.nodes o) (says-found e.node a.nodes o)) a.entries

-- ---- names

abbrev OtherName : Entry → Entry → Type 0
OtherName a b = a.parent ≡ b.parent → a.name ≡ b.name → ⊥

pub says-once : (es : List Entry) → Says (Asc (λ a b. a.parent ≡ b.parent → a.name ≡ b.name → ⊥) es) (names_once es)
unfolding names_once name_new
says-once es =
    says_map (λ h. at-asc OtherName (read_entry []) es (λ j i k b p n. h i b j k (p, n))) (λ a i b j k e. asc-at OtherName (read_entry []) es a j i k b e.0 e.1)
    (says-upto (λ i. (j : ℕ) → j < i → SameName (entry_at es j) (entry_at es i) → ⊥) _ (length es) (λ i b. says-upto (λ j. SameName (entry_at es j) (entry_at es i) → ⊥) _ i (λ j k. says-not (says-same-name (entry_at es j) (entry_at es i)))))
