-- The row of one node changed, its number kept: every row is found where it was, and the other rows are as they were.
-- Assumes nothing.
use mathlib.Core.Path.{◌≡◌, refl}
use mathlib.Core.Bool.{Bool, true, false}
use mathlib.Core.List.{List, [], ◌∷◌}
use Prim.Native.Nat.{ℕ, zero, suc, ◌<◌}
use native.Mathlib.Nat.{not-suc-le-zero, le_of_suc-le-suc}
use lib.Dec.{eqb}
use lib.ListN.{length}
use borrow.Author.Tests.{ne_eqb}
use Rattle.words.specs.Rules.{pick}
use Rattle.words.specs.Tables.{lead}
use Rattle.types.specs.declared.NodeRecord.{NodeRecord}
use Rattle.volume.specs.Search.{node_under}
use Rattle.volume.specs.Steps.{changed}
use Rattle.tables.specs.Tables.{node_at, found_node}
use Rattle.tables.proofs.ChangedRow.{length-changed}

module _ (n : ℕ) (f : NodeRecord → NodeRecord) where
  pub other_place : (rs : List NodeRecord) (i : ℕ) → i < length rs → ((node_at rs i).node ≡ n → ⊥) → node_at (changed n f rs) i ≡ node_at rs i
  unfolding changed pick
  other_place [] i h k = absurd (not-suc-le-zero h)
  other_place (r ∷ rs) zero h k = rw (ne_eqb r.node n k)
  other_place (r ∷ rs) (suc i) h k = other_place rs i (le_of_suc-le-suc h) k

  module _ (keeps : (r : NodeRecord) → (f r).node ≡ r.node) where
    number-kept : (b : Bool) (r : NodeRecord) → (pick b (f r) r).node ≡ r.node
    unfolding pick
    number-kept true r = keeps r
    number-kept false r = refl

    number-place : (rs : List NodeRecord) (i : ℕ) → (node_at (changed n f rs) i).node ≡ (node_at rs i).node
    unfolding changed
    number-place [] i = refl
    number-place (r ∷ rs) zero = number-kept (eqb r.node n) r
    number-place (r ∷ rs) (suc i) = number-place rs i

    lead-changed : (m : ℕ) (rs : List NodeRecord) → lead (node_under m) (changed n f rs) ≡ lead (node_under m) rs
    unfolding changed lead
    lead-changed m [] = refl
    lead-changed m (r ∷ rs) = rw (number-kept (eqb r.node n) r, lead-changed m rs)

    pub found-changed : (m : ℕ) (rs : List NodeRecord) → found_node m (changed n f rs) ≡ found_node m rs
    unfolding found_node
    found-changed m rs = rw (lead-changed m rs, length-changed n f rs, number-place rs (lead (node_under m) rs))
