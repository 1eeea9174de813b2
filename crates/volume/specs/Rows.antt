-- Believed: the rows of the three tables: read off their bytes, and laid out again.
-- Assumes nothing.
use Rattle.std.specs.Prelude.{ℕ, List, [], ◌∷◌, length, Some, None}
use Rattle.words.specs.Bytes.{part, spell, num, word, zeros, padded}
use Rattle.words.specs.Tables.{joined}
use Rattle.types.specs.Sizes.{name_room}
use Rattle.types.specs.Nodes.{limit_word}
use Rattle.types.specs.declared.FileType.{FileType}
use Rattle.types.specs.declared.FileType.TheVariants.{Directory}
use Rattle.types.specs.declared.NodeRecord.{NodeRecord}
use Rattle.volume.specs.declared.ChunkRow.{ChunkRow}
use Rattle.types.specs.Kinds.{Kind, kind_of, kind_byte}
use Rattle.volume.specs.Kinds.{limit_of, limit_flag}

-- bytes of a row of each table
abbrev pub node_row : ℕ
node_row = 40

abbrev pub entry_row : ℕ
entry_row = 280

abbrev pub chunk_row : ℕ
chunk_row = 24

-- where the name starts in an entry's row
abbrev pub name_start : ℕ
name_start = 24

pub record Entry : Type 0 where
  pub parent : ℕ
  pub node : ℕ
  pub index : ℕ
  pub name : List ℕ

-- node, type byte, limit flag, six zeros, links, size, limit
unfoldable pub lay_node : NodeRecord → List ℕ
lay_node r =
    joined (spell 8 r.node ∷ spell 1 (kind_byte r.kind) ∷ spell 1 (limit_flag r.limit) ∷ zeros 6
    ∷ spell 8 r.links ∷ spell 8 r.size ∷ spell 8 (limit_word r.limit) ∷ [])

-- a byte that means no kind is taken for a directory; the frame rules it out
abbrev pub kind_or : Kind → FileType
kind_or (Some k) = k
kind_or None = Directory

unfoldable pub read_node : List ℕ → NodeRecord
read_node b = record { node = word b 0; kind = kind_or (kind_of (num 1 b 8)); limit = limit_of (num 1 b 9) (word b 32); links = word b 16; size = word b 24 }

-- parent, node, index, name length, name and zeros
unfoldable pub lay_entry : Entry → List ℕ
lay_entry e = joined (spell 8 e.parent ∷ spell 8 e.node ∷ spell 4 e.index ∷ spell 4 (length e.name) ∷ padded name_room e.name ∷ [])

unfoldable pub read_entry : List ℕ → Entry
read_entry b = record { parent = word b 0; node = word b 8; index = num 4 b 16; name = part b name_start (num 4 b 20) }

unfoldable pub lay_chunk : ChunkRow → List ℕ
lay_chunk r = joined (spell 8 r.node ∷ spell 8 r.index ∷ spell 8 r.pointer ∷ [])

unfoldable pub read_chunk : List ℕ → ChunkRow
read_chunk b = record { node = word b 0; index = word b 8; pointer = word b 16 }
