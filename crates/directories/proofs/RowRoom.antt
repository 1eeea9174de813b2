-- Rows left for a new node and its entry: the tests in the code's order, and what they say together.
-- Assumes nothing.
use mathlib.Core.Path.{◌≡◌, sym, ap, ◌∙◌}
use mathlib.Core.Bool.{Bool, true, false}
use Prim.Native.Nat.{ℕ, ◌≤◌, ◌<◌}
use lib.Dec.{eqb, leb}
use lib.ListN.{length}
use Rattle.words.proofs.Rules.{done, or_else, le-yes2, le-no2}
use Rattle.volume.specs.Volume.{Names}
use Rattle.names.specs.Entering.{most_node, no_row_room}

module _ (a : Names) {x u : ℕ} (room : x ≡ a.node_room) (used : u ≡ length a.nodes) where
  pub no-node-row : x ≤ u → true ≡ no_row_room a
  unfolding no_row_room
  no-node-row h = done _ _ (le-yes2 room used h)

  module _ (h : u < x) {b : Bool} (entries : b ≡ leb a.entry_room (length a.entries)) where
    pub no-entry-row : b ≡ true → true ≡ no_row_room a
    unfolding no_row_room
    no-entry-row e = or_else _ _ (le-no2 room used h) (done _ _ (sym entries ∙ e))

    pub no_number : b ≡ false → {n : ℕ} → n ≡ a.next_node → eqb n most_node ≡ no_row_room a
    unfolding no_row_room
    no_number e q = or_else _ _ (le-no2 room used h) (or_else _ _ (sym entries ∙ e) (ap (λ (k : ℕ). eqb k most_node) q))
