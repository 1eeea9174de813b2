-- A path that means a directory, as code takes it: what was reached is judged by its row, as the definition says.
-- Assumes nothing.
use Rattle.std.specs.Prelude.{Some, None, Ok, Err}
use mathlib.Core.Path.{◌≡◌, refl, sym, ◌∙◌}
use mathlib.Core.Bool.{Bool, true, false}
use mathlib.Core.List.{List}
use Prim.Native.Nat.{ℕ, zero, suc, ◌<◌}
use lib.ListN.{length}
use Rattle.words.specs.Rules.{pick}
use Rattle.words.specs.Tables.{Asc}
use Rattle.words.proofs.Rules.{pick_true, pick-false}
use Rattle.types.specs.declared.Error.{Error}
use Rattle.types.specs.declared.Error.TheVariants.{NoSuchEntry, NotDirectory}
use Rattle.types.specs.declared.NodeRecord.{NodeRecord}
use Rattle.volume.specs.Volume.{Names}
use Rattle.volume.specs.Sound.{node, node_before, Named}
use Rattle.tables.specs.Tables.{node_at, found_node, Found}
use Rattle.tables.proofs.TableSearch.{node-found, node-absent}
use Rattle.names.specs.Walks.{Walk, stopped, means_directory, passes_as_directory, on_passing, as_directory, walk_path}
use Rattle.names.proofs.PathWalks.{passing-map, passing-is}
use Rattle.directories.specs.declared.finding.Reached.{Reached}
use Rattle.directories.specs.Reaches.{Reach, reach_from, reach_directory, reach_parts}
use Rattle.directories.proofs.Reaching.{walk_shown, reach-shows}

-- ---- by its row

module _ (a : Names) (asc : Asc node_before a.nodes) (now : Reached) where
  pub directory-missing : {f : Found} → f ≡ None → f ≡ found_node now.node a.nodes → Err NoSuchEntry ≡ reach_directory a (Ok now)
  unfolding reach_directory on_passing node
  directory-missing k e = rw (node-absent now.node a.nodes asc (sym k ∙ e)) refl

  module _ {f : Found} {i : ℕ} (at : f ≡ Some i) (e : f ≡ found_node now.node a.nodes) where
    here : Some i ≡ found_node now.node a.nodes
    here = sym at ∙ e

    -- what `node_row` asks
    pub row_inside : i < length a.nodes
    row_inside = (node-found now.node a.nodes i here).0

    module _ {d : NodeRecord} (s : d ≡ node_at a.nodes i) {b : Bool} (h : b ≡ passes_as_directory d.kind) where
      judged : reach_directory a (Ok now) ≡ pick b (Ok now) (Err NotDirectory)
      unfolding reach_directory on_passing node
      judged = rw ((node-found now.node a.nodes i here).1, h, s) refl

      pub directory-fails : b ≡ false → Err NotDirectory ≡ reach_directory a (Ok now)
      directory-fails t = pick-false _ (Ok now) (Err NotDirectory) (Err NotDirectory) t refl ∙ sym judged

      pub directory-passes : b ≡ true → Ok now ≡ reach_directory a (Ok now)
      directory-passes t = pick_true _ (Ok now) (Err NotDirectory) (Ok now) t refl ∙ sym judged

-- ---- by the definition

directory-shows : (a : Names) (k : ℕ) (r : Reach) → as_directory a (walk_shown a.entries k r) ≡ walk_shown a.entries k (reach_directory a r)
unfolding as_directory reach_directory walk_shown
directory-shows a k (Err e) = refl
directory-shows a zero (Ok r) = sym (passing-map (walk_shown a.entries zero) Err stopped (Ok r) (λ e. refl) (node r.node a))
directory-shows a (suc k) (Ok r) = sym (passing-map (walk_shown a.entries (suc k)) Err stopped (Ok r) (λ e. refl) (node r.node a))

-- what code reaches along a path shows where the path leads
pub parts-show : (start : ℕ) (path : List ℕ) (a : Names) → Named a → (ps : List (List ℕ)) → walk_path start path a ps ≡ walk_shown a.entries (length ps) (reach_parts start path a ps)
unfolding walk_path reach_parts walk_shown pick
parts-show start path a g ps = rw (reach-shows start a g.node_order g.entry_order ps) (go (means_directory path ps))
  where
    shows : Walk
    shows = walk_shown a.entries (length ps) (reach_from start a ps)

    go : (b : Bool) → pick b (as_directory a shows) shows ≡ walk_shown a.entries (length ps) (pick b (reach_directory a (reach_from start a ps)) (reach_from start a ps))
    go true = directory-shows a (length ps) (reach_from start a ps)
    go false = refl

-- what was reached along a path was reached by its parts
pub parts-reached : (start : ℕ) (path : List ℕ) (a : Names) (ps : List (List ℕ)) {m : Reached} → Ok m ≡ reach_parts start path a ps → Ok m ≡ reach_from start a ps
unfolding reach_parts reach_directory pick
parts-reached start path a ps {m} = go (means_directory path ps)
  where
    refusal : (e : Error) → ◌≡◌ {A = Reach} (Err e) (Ok m) → ⊥
    refusal e q = cc

    judged : (r : Reach) → Ok m ≡ reach_directory a r → Ok m ≡ r
    judged (Ok n) z = sym (passing-is Err (Ok n) (Ok m) refusal (node n.node a) (sym z))
    judged (Err e) z = z

    go : (b : Bool) → Ok m ≡ pick b (reach_directory a (reach_from start a ps)) (reach_from start a ps) → Ok m ≡ reach_from start a ps
    go true z = judged (reach_from start a ps) z
    go false z = z
