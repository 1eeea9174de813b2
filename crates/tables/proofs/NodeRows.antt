-- The row of a node that is there: its number, its size, and what holds of it as of every row.
-- Assumes nothing.
use mathlib.Core.Path.{◌≡◌, refl}
use mathlib.Core.Bool.{false}
use mathlib.Core.List.{List}
use mathlib.Core.Option.{some}
use Prim.Native.Nat.{ℕ, ◌≤◌}
use native.Mathlib.Omega.{arith}
use lib.Dec.{eqb}
use borrow.Author.Tests.{eqb-true, eq-eqb, ne_eqb}
use Rattle.words.specs.Tables.{Each, Asc, find}
use Rattle.words.proofs.Order.{asc-map}
use Rattle.words.proofs.FoundRows.{found-passes, found-each, each-found}
use Rattle.types.specs.declared.NodeRecord.{NodeRecord}
use Rattle.types.specs.Sizes.{most_size}
use Rattle.types.proofs.Nodes.{limit-most}
use Rattle.volume.specs.Rows.{Entry}
use Rattle.volume.specs.Framed.{NodeFits}
use Rattle.volume.specs.Volume.{Names}
use Rattle.volume.specs.Sound.{node, node_before, NodeGood}

pub number_is : (n : ℕ) (rs : List NodeRecord) (r : NodeRecord) → find (λ s. eqb s.node n) rs ≡ some r → r.node ≡ n
number_is n rs r e = eqb-true r.node n (found-passes (λ s. eqb s.node n) rs r e)

module _ (n : ℕ) (a : Names) (r : NodeRecord) (e : node n a ≡ some r) where
  pub node-is : r.node ≡ n
  unfolding node
  node-is = number_is n a.nodes r e

  pub node-each : (P : NodeRecord → Type 0) → Each P a.nodes → P r
  unfolding node
  node-each P h = found-each (λ s. eqb s.node n) P a.nodes r h e

-- what holds of every row that its number finds holds of every row, where numbers ascend
pub each-node : (P : NodeRecord → Type 0) (a : Names) → Asc node_before a.nodes → ((r : NodeRecord) → node r.node a ≡ some r → P r) → Each P a.nodes
unfolding node
each-node P a o h =
    each-found (λ r s. eqb s.node r.node) P a.nodes (λ r. eq-eqb r.node r.node refl)
    (asc-map node_before (λ s r. eqb s.node r.node ≡ false) (λ s r l. ne_eqb s.node r.node (λ q. omega arith)) a.nodes o) h

-- a size within its limit is at most 2^40
pub size-most : (es : List Entry) (r : NodeRecord) → NodeGood es r → NodeFits r → r.size ≤ most_size
size-most es r g f = omega (arith, g.size, limit-most r.limit f.limit)
