-- Inner: the frame as a test, rule by rule: what the check computes of the bytes before it reads any table.
-- Assumes nothing.
use Rattle.std.specs.Prelude.{ℕ, ◌+◌, ◌-◌, ◌*◌, Bool, true, List, length, eqb, leb}
use Rattle.words.specs.Bytes.{word, part}
use Rattle.words.specs.Rules.{both, upto}
use Rattle.words.specs.Tests.{all_zero}
use Rattle.allocator.specs.Sizes.{accepted_size}
use Rattle.allocator.specs.Allocator.{marker}
use Rattle.volume.specs.Header.{at_chunk_room, at_chunk_size, at_chunks_used, at_entries_used, at_entry_room, at_form, at_free_count, at_marker, at_node_room, at_nodes_used}
use Rattle.volume.specs.Volume.{form, at_nodes, at_entries, at_chunks}
use Rattle.volume.specs.Geometry.{placed}
use Rattle.volume.specs.Rows.{node_row, entry_row, chunk_row}
use Rattle.volume.specs.RowTests.{node_formed, entry_formed}

-- the form, the geometry and the length, used counts that fit
unfoldable pub headed : List ℕ → Bool
headed l =
    both (leb 64 (length l)) (both (eqb (word l at_form) form) (both (placed (word l at_node_room) (word l at_entry_room) (word l at_chunk_room) (length l))
    (both (leb (word l at_nodes_used) (word l at_node_room)) (both (leb (word l at_entries_used) (word l at_entry_room)) (leb (word l at_chunks_used) (word l at_chunk_room))))))

-- the allocator's marker, chunk size and free count
unfoldable pub marked : List ℕ → Bool
marked l = both (eqb (word l at_marker) marker) (both (accepted_size (word l at_chunk_size)) (leb (word l at_free_count) (word l at_chunk_room)))

-- rows of s bytes in use, and zeros behind them
unfoldable pub rows_formed : (ℕ → Bool) → ℕ → List ℕ → ℕ → ℕ → ℕ → Bool
rows_formed row s l at used room = both (upto used (λ i. row (at + s * i))) (all_zero (part l (at + s * used) (s * (room - used))))

-- the marker, and the rows of each table
unfoldable pub areas_formed : List ℕ → Bool
areas_formed l =
    both (marked l)
    (both (rows_formed (node_formed l) node_row l (at_nodes (word l at_chunk_room)) (word l at_nodes_used) (word l at_node_room))
    (both (rows_formed (entry_formed l) entry_row l (at_entries (word l at_node_room) (word l at_chunk_room)) (word l at_entries_used) (word l at_entry_room))
    (rows_formed (λ _. true) chunk_row l (at_chunks (word l at_node_room) (word l at_entry_room) (word l at_chunk_room)) (word l at_chunks_used) (word l at_chunk_room))))

unfoldable pub framed : List ℕ → Bool
framed l = both (headed l) (areas_formed l)
