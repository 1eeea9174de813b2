-- The rows of two nodes changed, their numbers kept: what is looked up, and what holds of every row.
-- Assumes nothing.
use mathlib.Core.Path.{◌≡◌, sym, ◌∙◌}
use mathlib.Core.Bool.{Bool, true, false}
use mathlib.Core.Option.{Option, some}
use Prim.Native.Nat.{ℕ}
use lib.Dec.{eqb}
use lib.ListN.{length}
use Rattle.words.specs.Tables.{Each, Asc}
use Rattle.words.proofs.Rules.{says-eqb}
use Rattle.types.specs.declared.NodeRecord.{NodeRecord}
use Rattle.volume.specs.Volume.{Names}
use Rattle.volume.specs.Sound.{node, node_before, NodeThere, DirectoryThere}
use Rattle.volume.specs.Steps.{changed, with_node}
use Rattle.tables.proofs.ChangedRow.{length-changed, numbers-kept, order-kept}
use Rattle.tables.proofs.ChangedNames.{node-here, node-other}
use Rattle.tables.proofs.NodeRows.{node-each, each-node}
use Rattle.words.specs.Rules.{Says, holds, fails}

-- two nodes that have rows, n changed by f and p by g
pub record Two (n p : ℕ) (f g : NodeRecord → NodeRecord) (a : Names) : Type 0 where
  pub first : NodeRecord
  pub there : node n a ≡ some first
  pub second : NodeRecord
  pub beside : node p a ≡ some second
  pub apart : n ≡ p → ⊥
  pub keeps-first : (s : NodeRecord) → (f s).node ≡ s.node
  pub keeps-second : (s : NodeRecord) → (g s).node ≡ s.node

module _ {n p : ℕ} {f g : NodeRecord → NodeRecord} {a : Names} (t : Two n p f g a) where
  -- the names with both changed
  abbrev two : Names
  two = with_node p g (with_node n f a)

  -- as many rows, in their order, with their numbers
  pub length_two : length two.nodes ≡ length a.nodes
  length_two = length-changed p g (changed n f a.nodes) ∙ length-changed n f a.nodes

  pub order-two : Asc node_before a.nodes → Asc node_before two.nodes
  order-two o = order-kept p g t.keeps-second (changed n f a.nodes) (order-kept n f t.keeps-first a.nodes o)

  pub numbers-two : (P : ℕ → Type 0) → Each (λ s. P s.node) a.nodes → Each (λ s. P s.node) two.nodes
  numbers-two P h = numbers-kept p g t.keeps-second P (changed n f a.nodes) (numbers-kept n f t.keeps-first P a.nodes h)

  -- ---- the row of a number

  -- the second row is there while the first is changed
  beside-still : node p (with_node n f a) ≡ some t.second
  beside-still = node-other n f t.keeps-first t.first a t.there p (λ q. t.apart (sym q)) ∙ t.beside

  -- the two rows are the changed ones, the others as they were
  pub two-first : node n two ≡ some (f t.first)
  two-first = node-other p g t.keeps-second t.second (with_node n f a) beside-still n t.apart ∙ node-here n f t.keeps-first t.first a t.there

  pub two-second : node p two ≡ some (g t.second)
  two-second = node-here p g t.keeps-second t.second (with_node n f a) beside-still

  pub two-other : (k : ℕ) → (k ≡ n → ⊥) → (k ≡ p → ⊥) → node k two ≡ node k a
  two-other k x y = node-other p g t.keeps-second t.second (with_node n f a) beside-still k y ∙ node-other n f t.keeps-first t.first a t.there k x

  -- what holds of it
  pub two-look : (P : Option NodeRecord → Type 0) (k : ℕ) → (k ≡ n → P (some (f t.first))) → (k ≡ p → P (some (g t.second))) → ((k ≡ n → ⊥) → (k ≡ p → ⊥) → P (node k a)) → P (node k two)
  two-look P k here next other = go (eqb k n) (says-eqb k n) (eqb k p) (says-eqb k p)
    where
      go : (b : Bool) → Says (k ≡ n) b → (c : Bool) → Says (k ≡ p) c → P (node k two)
      go true (holds x) c y = rw (x, two-first) (here x)
      go false (fails x) true (holds y) = rw (y, two-second) (next y)
      go false (fails x) false (fails y) = rw (two-other k x y) (other x y)

  -- a node that is there stays there, and a directory stays one where kinds are kept
  pub two-there : (k : ℕ) → NodeThere (node k a) → NodeThere (node k two)
  two-there k h = two-look NodeThere k (λ _. tt) (λ _. tt) (λ _ _. h)

  pub two-directory : (f t.first).kind ≡ t.first.kind → (g t.second).kind ≡ t.second.kind → (k : ℕ) → DirectoryThere (node k a) → DirectoryThere (node k two)
  two-directory same-f same-g k h = two-look DirectoryThere k (λ q. same-f ∙ (rw (q, t.there) at h)) (λ q. same-g ∙ (rw (q, t.beside) at h)) (λ _ _. h)

  -- ---- every row

  -- what held of each holds in the form that its change asks for
  pub two-each : (P Q : NodeRecord → Type 0) → Asc node_before a.nodes → Each P a.nodes → (P t.first → Q (f t.first)) → (P t.second → Q (g t.second))
      → ((s : NodeRecord) → (s.node ≡ n → ⊥) → (s.node ≡ p → ⊥) → P s → Q s) → Each Q two.nodes
  two-each P Q o h here next other =
      each-node Q two (order-two o)
      (λ s e. two-look (λ x. x ≡ some s → Q s) s.node (λ _ z. let q : f t.first ≡ s = cc in rw (← q) (here (node-each n a t.first t.there P h)))
      (λ _ z. let q : g t.second ≡ s = cc in rw (← q) (next (node-each p a t.second t.beside P h))) (λ x y z. other s x y (node-each s.node a s z P h)) e)
