-- Believed: the order of pairs, and which rows stand before a key.
-- Assumes nothing.
use Rattle.std.specs.Prelude.{◌≡◌, Bool, ◌⊎◌, ℕ, ◌<◌, eqb, ltb}
use Rattle.words.specs.Rules.{pick}
use Rattle.types.specs.declared.NodeRecord.{NodeRecord}
use Rattle.volume.specs.declared.ChunkRow.{ChunkRow}
use Rattle.volume.specs.Rows.{Entry}

-- (a, b) stands before (c, d)
abbrev pub PairBefore : ℕ → ℕ → ℕ → ℕ → Type 0
PairBefore a b c d = (a < c) ⊎ ((a ≡ c) × (b < d))

-- the test of it
unfoldable pub pair_before : ℕ → ℕ → ℕ → ℕ → Bool
pair_before a b c d = pick (eqb a c) (ltb b d) (ltb a c)

abbrev pub node_under : ℕ → NodeRecord → Bool
node_under n r = ltb r.node n

abbrev pub entry_under : ℕ → ℕ → Entry → Bool
entry_under p i e = pair_before e.parent e.index p i

abbrev pub chunk_under : ℕ → ℕ → ChunkRow → Bool
chunk_under n i c = pair_before c.node c.index n i
