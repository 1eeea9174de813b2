-- Inner: a gap in the chunk table: rows that mean nothing, and are written over by the rows of new chunks one after another.
-- Assumes nothing.
use Rattle.std.specs.Prelude.{ℕ, ◌+◌, ◌≤◌, List, ◌++◌, length, take, drop}
use Rattle.volume.specs.declared.ChunkRow.{ChunkRow}
use Rattle.volume.specs.declared.Layout.{Layout}
use Rattle.volume.specs.Volume.{Volume, shown, with_chunks, on_store}
use Rattle.tables.specs.Tables.{Ready}

-- rows but g of them, from row p on
unfoldable pub without : ℕ → ℕ → List ChunkRow → List ChunkRow
without p g cs = take p cs ++ drop (p + g) cs

-- what bytes show, but for the g rows from row p on
abbrev pub closed : ℕ → ℕ → List ℕ → Volume
closed p g l = on_store (with_chunks (without p g (shown l).store.chunks)) (shown l)

-- a volume laid out that has these rows
pub record Gapped (l : List ℕ) (y : Layout) (p g : ℕ) : Type 0 where
  pub ready : Ready l y
  pub inside : p + g ≤ length (shown l).store.chunks
