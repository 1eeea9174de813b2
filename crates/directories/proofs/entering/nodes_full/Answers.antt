use native.Mathlib.Omega.{arith}
use borrow.Author.Tests.{leb-false}
use mathlib.Core.Path.{sym, ◌∙◌}
use Rattle.directories.proofs.RowRoom.{no-node-row, no-entry-row, no_number}
use Rattle.directories.proofs.entering.nodes_full.Goals as goal
use Rattle.directories.proofs.entering.nodes_full.Goals.{then-node_room-nodes_used, else-node_room-nodes_used}

pub returns-then-entries_full : goal.returns-then-entries_full
returns-then-entries_full c =
    elim c.if-node_room-nodes_used.branch [
      | then-node_room-nodes_used w ↦ c.if-entries_full.true ∙ no-node-row c.args.tables.now.names c.node_room.ensures.0 c.nodes_used.ensures.0 w.if-node_room-nodes_used.true
      | else-node_room-nodes_used w ↦ c.if-entries_full.true ∙ no-entry-row c.args.tables.now.names c.node_room.ensures.0 c.nodes_used.ensures.0 w.if-node_room-nodes_used.false w.entries_full.ensures (sym w.value-is ∙ c.if-entries_full.true)
    ]

pub returns-else-entries_full : goal.returns-else-entries_full
returns-else-entries_full c =
    elim c.if-node_room-nodes_used.branch [
      | then-node_room-nodes_used w ↦ absurd (omega (arith, leb-false _ _ (sym w.value-is ∙ c.if-entries_full.false), w.if-node_room-nodes_used.true))
      | else-node_room-nodes_used w ↦ no_number c.args.tables.now.names c.node_room.ensures.0 c.nodes_used.ensures.0 w.if-node_room-nodes_used.false w.entries_full.ensures (sym w.value-is ∙ c.if-entries_full.false) c.next_node.ensures
    ]
