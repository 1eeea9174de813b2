-- What the tests that count entries mean.
-- Assumes nothing.
use Rattle.std.specs.Prelude.{None}
use mathlib.Core.Path.{◌≡◌}
use mathlib.Core.Bool.{Bool}
use mathlib.Core.List.{List, []}
use mathlib.Core.Logic.{◌⊎◌, inl, inr}
use Prim.Native.Nat.{◌+◌, ◌≤◌}
use native.Mathlib.Omega.{arith}
use lib.Dec.{eqb}
use Rattle.words.specs.Rules.{bit, Says, holds, fails}
use Rattle.words.specs.Tables.{Each}
use Rattle.words.proofs.Places.{each-places}
use Rattle.words.proofs.Rules.{says_map, says_both, says_if, says-either, says-eqb, says-leb}
use Rattle.types.specs.Nodes.{file_limit}
use Rattle.types.proofs.Nodes.{says-directory, says-unlimited}
use Rattle.types.specs.declared.NodeRecord.{NodeRecord}
use Rattle.volume.specs.Rows.{Entry, read_node}
use Rattle.volume.specs.Sound.{naming, entries_of, NodeGood}
use Rattle.soundness.specs.NodeRules.{directory_good, node_good, nodes_good}

module _ (es : List Entry) (r : NodeRecord) where
  abbrev Directories : Type 0
  Directories = (naming r.node es ≤ 1) × ((r.limit ≡ None) × ((r.size ≡ entries_of r.node es) × (r.links ≡ 0 → r.size ≡ 0)))

  says-directory-good : Says Directories (directory_good (naming r.node es) (entries_of r.node es) r)
  unfolding directory_good
  says-directory-good =
      says_both (says-leb (naming r.node es) 1) (says_both (says-unlimited r.limit) (says_both (says-eqb r.size (entries_of r.node es))
      (says_map there back (says-either (says-leb 1 r.links) (says-eqb r.size 0)))))
    where
      there : (1 ≤ r.links) ⊎ (r.size ≡ 0) → r.links ≡ 0 → r.size ≡ 0
      there (inl h) e = absurd (omega arith)
      there (inr h) e = h

      back : (r.links ≡ 0 → r.size ≡ 0) → (1 ≤ r.links) ⊎ (r.size ≡ 0)
      back k = go (says-eqb r.links 0)
        where
          go : {t : Bool} → Says (r.links ≡ 0) t → (1 ≤ r.links) ⊎ (r.size ≡ 0)
          go (holds e) = inr (k e)
          go (fails e) = inl (omega arith)

  says-node-good : Says (NodeGood es r) (node_good (naming r.node es) (entries_of r.node es) r)
  unfolding node_good
  says-node-good =
      says_map (λ p. record { named = λ d. (p.1.1 d).0; unlimited = λ d. (p.1.1 d).1.0; entries = λ d. (p.1.1 d).1.1.0; unlinked = λ d. (p.1.1 d).1.1.1; links = p.0; size = p.1.0 })
      (λ g. (g.links, (g.size, λ d. (g.named d, (g.unlimited d, (g.entries d, g.unlinked d))))))
      (says_both (says-eqb r.links (bit (eqb r.node 0) + naming r.node es)) (says_both (says-leb r.size (file_limit r.limit)) (says_if (says-directory r.kind) says-directory-good)))

-- the test says exactly what holds of each node
pub says-nodes : (rs : List NodeRecord) (es : List Entry) → Says (Each (NodeGood es) rs) (nodes_good rs es)
unfolding nodes_good
says-nodes rs es = each-places (NodeGood es) (read_node []) (λ r. node_good (naming r.node es) (entries_of r.node es) r) (says-node-good es) rs
