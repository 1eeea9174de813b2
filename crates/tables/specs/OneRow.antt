-- Believed: the row of one chunk, and a node's row with one field changed.
-- Assumes nothing.
use Rattle.std.specs.Prelude.{ℕ, Bool, List, eqb}
use Rattle.std.proofs.Math.Option.{Option}
use Rattle.words.specs.Rules.{both}
use Rattle.words.specs.Tables.{find}
use Rattle.types.specs.Nodes.{Limit}
use Rattle.types.specs.declared.NodeRecord.{NodeRecord}
use Rattle.volume.specs.declared.ChunkRow.{ChunkRow}

-- the row of chunk k of node n
abbrev pub is_chunk : ℕ → ℕ → ChunkRow → Bool
is_chunk n k c = both (eqb c.node n) (eqb c.index k)

unfoldable pub chunk : ℕ → ℕ → List ChunkRow → Option ChunkRow
chunk n k cs = find (is_chunk n k) cs

-- ---- one field of a node's row changed

abbrev pub sized : ℕ → NodeRecord → NodeRecord
sized n r = record { node = r.node; kind = r.kind; limit = r.limit; links = r.links; size = n }

abbrev pub linked : ℕ → NodeRecord → NodeRecord
linked n r = record { node = r.node; kind = r.kind; limit = r.limit; links = n; size = r.size }

abbrev pub limited : Limit → NodeRecord → NodeRecord
limited m r = record { node = r.node; kind = r.kind; limit = m; links = r.links; size = r.size }
