-- Believed: where each number of the header stands, and the first ones of the allocator behind it.
-- Assumes nothing.
use Rattle.std.specs.Prelude.{ℕ}

abbrev pub at_form : ℕ
at_form = 0

-- room for rows of each table
abbrev pub at_node_room : ℕ
at_node_room = 8

abbrev pub at_entry_room : ℕ
at_entry_room = 16

abbrev pub at_chunk_room : ℕ
at_chunk_room = 24

-- rows used
abbrev pub at_nodes_used : ℕ
at_nodes_used = 32

abbrev pub at_entries_used : ℕ
at_entries_used = 40

abbrev pub at_chunks_used : ℕ
at_chunks_used = 48

abbrev pub at_next_node : ℕ
at_next_node = 56

-- the allocator's words 0 to 3
abbrev pub at_marker : ℕ
at_marker = 64

abbrev pub at_chunk_size : ℕ
at_chunk_size = 72

abbrev pub at_free_count : ℕ
at_free_count = 80

abbrev pub at_next_ptr : ℕ
at_next_ptr = 88
