-- What find gives, by where the path leads.
-- Assumes nothing.
use Rattle.std.specs.Prelude.{Ok, Err}
use mathlib.Core.Path.{◌≡◌, refl, sym, ap, ◌∙◌}
use mathlib.Core.List.{List}
use Prim.Native.Nat.{ℕ, zero, suc}
use native.Mathlib.Omega.{arith}
use lib.ListN.{length}
use lib.Dec.{ltb}
use borrow.Author.Tests.{le-ltb}
use Rattle.words.specs.Rules.{pick}
use Rattle.types.specs.Answers.{Answer}
use Rattle.types.specs.declared.Error.{Error}
use Rattle.types.specs.declared.Error.TheVariants.{PathNotPermitted}
use Rattle.paths.specs.Path.{Cutting, parts, not_permitted, too_long, cut_path}
use Rattle.volume.specs.Volume.{Names}
use Rattle.volume.specs.Sound.{Named}
use Rattle.names.specs.Walks.{on_cutting, walk_path, node_reached, find_node}
use Rattle.directories.specs.declared.finding.Reached.{Reached}
use Rattle.directories.specs.Reaches.{Reach, reach_parts, reach_path}
use Rattle.directories.proofs.Reaching.{walk_shown}
use Rattle.directories.proofs.ReachedDirectory.{parts-show}

abbrev answer_of : Reach → Answer
answer_of (Ok r) = Ok r.node
answer_of (Err e) = Err e

module _ (start : ℕ) (path : List ℕ) (a : Names) (named : Named a) where
  parts-answer : (ps : List (List ℕ)) → answer_of (reach_parts start path a ps) ≡ node_reached (walk_path start path a ps)
  parts-answer ps = go (length ps) (reach_parts start path a ps) ∙ ap node_reached (sym (parts-show start path a named ps))
    where
      go : (k : ℕ) (r : Reach) → answer_of r ≡ node_reached (walk_shown a.entries k r)
      go zero (Ok r) = unfold walk_shown node_reached in refl
      go (suc k) (Ok r) = unfold walk_shown node_reached in refl
      go k (Err e) = unfold walk_shown node_reached in refl

  path-answers : answer_of (reach_path start path 0 a) ≡ find_node start path a
  unfolding find_node reach_path on_cutting pick
  path-answers = go (cut_path path)
    where
      go : (c : Cutting) → answer_of (on_cutting Err (λ ps. pick (ltb (length ps) 0) (Err PathNotPermitted) (reach_parts start path a ps)) c) ≡ on_cutting Err (λ ps. node_reached (walk_path start path a ps)) c
      go (parts ps) = rw (le-ltb (length ps) 0 (omega arith)) (parts-answer ps)
      go not_permitted = refl
      go too_long = refl

  pub find-node-at : {m : Reached} → Ok m ≡ reach_path start path 0 a → Ok m.node ≡ find_node start path a
  find-node-at h = ap answer_of h ∙ path-answers

  pub find-stopped : {e : Error} → Err e ≡ reach_path start path 0 a → Err e ≡ find_node start path a
  find-stopped h = ap answer_of h ∙ path-answers
