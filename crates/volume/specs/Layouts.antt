-- Inner: where each area starts, as the code hands it on, for any numbers that a header may hold.
-- Assumes nothing.
use Rattle.std.specs.Prelude.{ℕ, Bool, List, Option, Some, None}
use Rattle.words.specs.Bytes.{word}
use Rattle.words.specs.Rules.{pick}
use Rattle.volume.specs.Header.{at_chunk_room, at_entry_room, at_node_room}
use Rattle.volume.specs.declared.Layout.{Layout}
use Rattle.volume.specs.Volume.{at_nodes, at_entries, at_chunks, at_bytes}
use Rattle.volume.specs.Geometry.{placed}

abbrev pub layout_of : ℕ → ℕ → ℕ → Layout
layout_of n e c = record { nodes = at_nodes c; entries = at_entries n c; chunks = at_chunks n e c; area = at_bytes n e c }

-- where the areas start, if a test passes
unfoldable pub place_if : Bool → Layout → Option Layout
place_if b y = pick b (Some y) None

abbrev pub place_of : ℕ → ℕ → ℕ → ℕ → Option Layout
place_of n e c size = place_if (placed n e c size) (layout_of n e c)

-- where a header says that the areas start
abbrev pub layout_in : List ℕ → Layout
layout_in l = layout_of (word l at_node_room) (word l at_entry_room) (word l at_chunk_room)
