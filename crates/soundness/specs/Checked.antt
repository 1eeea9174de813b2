-- Inner: the whole check: the frame, then the rules of the tables, grouped as `Good` is: nodes and entries, the chunk store, and what they say of each
-- other; each group in the scope's order. A rule that searches a table stands behind that table's order.
-- Assumes nothing.
use Rattle.std.specs.Prelude.{ℕ, Bool, List, length, Result, ok_or}
use Rattle.words.specs.Rules.{both}
use Rattle.allocator.specs.Allocator.{free}
use Rattle.volume.specs.Volume.{Names, Store, Volume, shown}
use Rattle.volume.specs.Layouts.{layout_in, place_if}
use Rattle.soundness.specs.FrameRules.{framed}
use Rattle.soundness.specs.OrderRules.{nodes_ascend, entries_ascend, chunks_ascend, nodes_below, rooted, entries_numbered}
use Rattle.soundness.specs.EntryRules.{entries_related, names_once}
use Rattle.soundness.specs.NodeRules.{nodes_good}
use Rattle.soundness.specs.PointerRules.{next_fits, pointers_good}
use Rattle.soundness.specs.OwnerRules.{chunks_owned}
use Rattle.volume.specs.declared.Layout.{Layout}
use Rattle.types.specs.declared.Error.{Error}
use Rattle.types.specs.declared.Error.TheVariants.{UnsoundMemory}

-- ---- nodes and entries

-- orders
unfoldable pub ordered : Names → Bool
ordered a = both (nodes_ascend a.nodes) (entries_ascend a.entries)

-- next node, node 0, an entry's index, node and name
unfoldable pub numbered : Names → Bool
numbered a = both (nodes_below a.next_node a.nodes) (both (rooted a.nodes) (entries_numbered a.entries))

-- parents and targets, links and sizes, names twice
unfoldable pub related : Names → Bool
related a = both (entries_related a.nodes a.entries) (both (nodes_good a.nodes a.entries) (names_once a.entries))

unfoldable pub named : Names → Bool
named a = both (ordered a) (both (numbered a) (related a))

-- ---- the chunk store

-- order, word 3, pointers
unfoldable pub stored : Store → Bool
stored s =
    both (chunks_ascend s.chunks)
    (both (next_fits s.allocator.chunk_size s.allocator.next_ptr (length s.bytes) s.chunk_room)
    (pointers_good s.allocator.chunk_size s.allocator.next_ptr s.chunks (free s.allocator)))

-- ---- all of it

unfoldable pub good : Volume → Bool
good v = both (named v.names) (both (stored v.store) (chunks_owned v.names v.store))

unfoldable pub sound : List ℕ → Bool
sound l = both (framed l) (good (shown l))

-- where the areas of a sound memory start
abbrev pub place_if_sound : List ℕ → Result Layout Error
place_if_sound l = ok_or (place_if (sound l) (layout_in l)) UnsoundMemory
