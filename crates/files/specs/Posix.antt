-- Believed: three statements of POSIX.1 about regular files, in that standard's words, of a file before and after a call.
-- Assumes nothing.
use Rattle.std.specs.Prelude.{◌≡◌, ℕ, ◌≤◌, ◌<◌}
use Rattle.types.specs.declared.NodeRecord.{NodeRecord}
use Rattle.volume.specs.Volume.{Store}
use Rattle.store.specs.Content.{byte_at}

-- a file as the standard speaks of it: its size, and its bytes
pub record File : Type 0 where
  pub size : ℕ
  pub byte : ℕ → ℕ

-- the file of a node's row
abbrev pub file_of : NodeRecord → Store → File
file_of r v = record { size = r.size; byte = byte_at v r.node }

-- lseek: the offset may be set beyond the end of the file; "if data is later written at this point, subsequent reads of data in the gap
-- shall return bytes with the value 0 until data is actually written into the gap"
abbrev pub GapReadsZero : File → ℕ → File → Type 0
GapReadsZero before offset after = (j : ℕ) → before.size ≤ j → j < offset → after.byte j ≡ 0

-- ftruncate: "if the file previously was smaller than this size, [it] shall increase the size of the file. If the file size is increased,
-- the extended area shall appear as if it were zero-filled"
abbrev pub ExtensionShowsZero : File → ℕ → File → Type 0
ExtensionShowsZero before size after = before.size ≤ size → (after.size ≡ size) × ((j : ℕ) → before.size ≤ j → j < size → after.byte j ≡ 0) × ((j : ℕ) → j < before.size → after.byte j ≡ before.byte j)

-- write: with a count of zero and no error it "shall return zero and have no other results"
abbrev pub EmptyHasNoResults : File → ℕ → File → Type 0
EmptyHasNoResults before given after = (given ≡ 0) × (after ≡ before)
